-- What `sample` with `--fast` wrote is no certificate: its first line is another.
use Rattle.std.proofs.Common.{◌≡◌, ℕ, ◌⊎◌, inl, inr, arith, true, List, [], ◌++◌, refl, sym, ◌∙◌, ap, subst}
use Rattle.std.specs.Prelude.{slice_index}
use Rattle.std.specs.Fmt.{digits}
use Rattle.bz_model.specs.declared.fraction.Fraction.{Fraction}
use Rattle.bz_model.specs.Spec.{Spec}
use Rattle.certificate.specs.Lines.{Line, whole_line}
use Rattle.certificate.specs.Patterns.{filled_from}
use Rattle.certificate.specs.Reading.{IsFirstBad}
use Rattle.certificate.specs.Stages.{Stage, May, Way, Fails}
use Rattle.certificate.proofs.FirstBad.{first-bad}
use Rattle.command_words.specs.declared.command.TapeWord.{TapeWord}
use Rattle.rounded_map.specs.RoundedMap.{setting}
use Rattle.size_window.specs.Drawing.{limits_of}
use Rattle.size_window.specs.declared.limits.Limits.{Limits}
use Rattle.call_stages.specs.Stages.{Files, Judged, Based}
use Rattle.call_stages.specs.Stages as stages
use Rattle.call_stages.specs.declared.status.Status.{Status}
use Rattle.sample_command.specs.Drawn as drawn
use Rattle.sample_command.specs.SampleCommand.{source_of, tape_in, DrawnFrom, DrawnOver, CarriesSample}
use Rattle.sample_command.specs.Starts as starts

-- the eleventh byte of the first line tells its version
version-byte : (v : ℕ) (rest : List ℕ) → (v ≡ 1) ⊎ (v ≡ 2) → ¬ (slice_index (whole_line (Line.Version v) ++ rest) 10 ≡ 102)
unfolding filled_from digits
version-byte v rest (inl one) e = let at : slice_index (whole_line (Line.Version 1) ++ rest) 10 ≡ 102 = subst (λ k. slice_index (whole_line (Line.Version k) ++ rest) 10 ≡ 102) one e in omega (arith, at)
version-byte v rest (inr two) e = let at : slice_index (whole_line (Line.Version 2) ++ rest) 10 ≡ 102 = subst (λ k. slice_index (whole_line (Line.Version k) ++ rest) 10 ≡ 102) two e in omega (arith, at)

no-version : (text : List ℕ) (line : Line) (next : Stage) (rest : List ℕ) → slice_index text 10 ≡ 102 → May Stage.AtVersion line next → ¬ (text ≡ whole_line line ++ rest)
no-version text line next rest at (May.version {v = v} h) e = version-byte v rest h (ap (λ t. slice_index t 10) (sym e) ∙ at)

-- with another byte there the first line is bad
bad-first : (text : List ℕ) → slice_index text 10 ≡ 102 → IsFirstBad text 1
bad-first text at =
    let fails : Fails Stage.AtVersion text text = record {
      lines = [];
      stage = Stage.AtVersion;
      passes = record { way = Way.stay; split = refl };
      stuck = record { line = λ line next rest may. no-version text line next rest at may; unfinished = λ over. absurd (cc) };
    } in
    first-bad text text 1 fails refl

module _ (f : Files) (file : List ℕ) (x : Fraction) (tape : TapeWord) (limits : Limits) (F : ℕ) (status : Status) (text : List ℕ) (done : status ≡ Status.Done) where
  drawn-fast : (s : Spec) (base start : List ℕ) (ticks : ℕ) → DrawnFrom true (setting s x.num x.den F) (limits_of limits) (tape_in f (source_of tape)) base start status text ticks → slice_index text 10 ≡ 102
  drawn-fast s base start ticks (drawn.ended c most ending lines h l says) = ap (λ t. slice_index t 10) says.text_is
  drawn-fast s base start ticks (drawn.so_far c most first others lines h e l says) = let is = says.status_is in absurd (cc)
  drawn-fast s base start ticks (drawn.no_memory says) = let is = says.status_is in absurd (cc)

  started-fast : (s : Spec) (base : List ℕ) (ticks : ℕ) → DrawnOver true (setting s x.num x.den F) (limits_of limits) (tape_in f (source_of tape)) base status text ticks → slice_index text 10 ≡ 102
  started-fast s base ticks (starts.no_fast none says) = let is = says.status_is in absurd (cc)
  started-fast s base ticks (starts.no_memory says) = let is = says.status_is in absurd (cc)
  started-fast s base ticks (starts.started start later is p sum) = drawn-fast s base start later p

  based-fast : (s : Spec) (ticks : ℕ) → Based (setting s x.num x.den F) (DrawnOver true (setting s x.num x.den F) (limits_of limits) (tape_in f (source_of tape))) status text ticks → slice_index text 10 ≡ 102
  based-fast s ticks (stages.no_base trials lacks says) = let is = says.status_is in absurd (cc)
  based-fast s ticks (stages.no_memory says) = let is = says.status_is in absurd (cc)
  based-fast s ticks (stages.based base later has p sum) = started-fast s base later p

  judged-fast : (bytes : List ℕ) (ticks : ℕ) → Judged (λ s. Based (setting s x.num x.den F) (DrawnOver true (setting s x.num x.den F) (limits_of limits) (tape_in f (source_of tape)))) bytes status text ticks → slice_index text 10 ≡ 102
  judged-fast bytes ticks (stages.refused fault memory refuses says) = let is = says.status_is in absurd (cc)
  judged-fast bytes ticks (stages.unfounded s cause accepted memory tells says) = let is = says.status_is in absurd (cc)
  judged-fast bytes ticks (stages.no_memory says) = let is = says.status_is in absurd (cc)
  judged-fast bytes ticks (stages.founded s accepted founded p) = based-fast s ticks p

  fast-begins : (ticks : ℕ) → CarriesSample f file x tape limits F true status text ticks → slice_index text 10 ≡ 102
  fast-begins ticks (stages.failed rose says) = let is = says.status_is in absurd (cc)
  fast-begins ticks (stages.no_memory says) = let is = says.status_is in absurd (cc)
  fast-begins ticks (stages.read bytes are_read p) = judged-fast bytes ticks p

  -- the first line is bad
  pub fast-bad : (ticks : ℕ) → CarriesSample f file x tape limits F true status text ticks → IsFirstBad text 1
  fast-bad ticks h = bad-first text (fast-begins ticks h)
