-- Which outcomes of `sample` are Done, and what they wrote.
use Rattle.std.proofs.Common.{◌≢◌, length, ◌≡◌, ℕ, ◌^◌, ◌<◌, arith, false, List, ◌++◌, refl, sym, ◌∙◌, ap, subst}
use Rattle.std.specs.Prelude.{Some, nat_eq, if◌then◌else◌}
use Rattle.bz_model.specs.declared.fraction.Fraction.{Fraction}
use Rattle.bz_model.specs.Fraction.{ratio}
use Rattle.bz_model.specs.Spec.{Spec}
use Rattle.bz_model.specs.WellFounded.{IsWellFounded}
use Rattle.certificate.specs.declared.certificate.Certificate.{Certificate}
use Rattle.certificate.specs.declared.reason.Verdict.TheVariants.{Valid}
use Rattle.certificate.specs.Certificates.{certificate_lines}
use Rattle.certificate.specs.Checks.{checks}
use Rattle.certificate.specs.Completeness.{IsOfDrawing}
use Rattle.certificate.specs.Lines.{version_line, text_of}
use Rattle.certificate.specs.Reading.{IsTextOf}
use Rattle.certificate.specs.Verdicts.{FirstFails}
use Rattle.class_system.specs.CanonicalText.{canonical_text}
use Rattle.sha2.specs.Sha256.{sha256}
use Rattle.class_system.specs.Sound.{IsSound}
use Rattle.command_words.specs.Fractions.{fraction_bits}
use Rattle.command_words.specs.declared.command.FractionBits.{FractionBits}
use Rattle.command_words.specs.declared.command.FractionBits.TheVariants.{F40, F48, F52}
use Rattle.command_words.specs.declared.command.TapeWord.{TapeWord}
use Rattle.kleene_lower.specs.Lower.{zeros}
use Rattle.newton_upper.specs.BaseRule.{base_of}
use Rattle.oracle_memo.specs.Levels.{level_bounds_from}
use Rattle.rounded_map.specs.RoundedMap.{setting}
use Rattle.size_window.specs.Drawing.{AreLimits, limits_of}
use Rattle.size_window.specs.RunByBits.{Ending, Course}
use Rattle.size_window.specs.declared.limits.Limits.{Limits}
use Rattle.call_stages.specs.Stages.{Files, AreRead, FileRead, IsAccepted, Judged, Based, HasSpecification}
use Rattle.call_stages.specs.Stages as stages
use Rattle.call_stages.specs.declared.status.Status.{Status}
use Rattle.sample_command.specs.Drawn.{TapeMet, Drawn, IsDrawn, Lists, ending_status, drawn_header}
use Rattle.sample_command.specs.Drawn as drawn
use Rattle.sample_command.specs.SampleCommand.{source_of, tape_in, DrawnFrom, DrawnOver, CarriesSample}
use Rattle.sample_command.specs.Starts.{Started}
use Rattle.sample_command.specs.Starts as starts
use Rattle.certificate_commands.specs.Completeness.{HasCertificate, IsValidIn2, HoldsText}
use Rattle.certificate_commands.specs.MigrateCommand.{own_digest, migrated_text, CarriesMigrate}
use Rattle.certificate_commands.specs.VerifyCommand.{valid_line, CarriesVerify}
use Rattle.certificate_commands.specs.SampleText.{IsCertified}
use Rattle.certificate_commands.specs.Tested.{tested_bits}
use Rattle.certificate_commands.proofs.Bases.{is-base}
use Rattle.certificate_commands.proofs.Certified.{CourseLaws, IsCertificateOf, of-entries, is-whole, certified}
use Rattle.certificate_commands.proofs.InVersion2.{AreDigests}
use Rattle.call_stages.proofs.Completing.{specified-only}
use Rattle.certificate_commands.proofs.OnceNamed.{is-sound, names-once}

-- a drawing whose status is Done has ended so
done-ending : (ending : Ending) → ending_status ending ≡ Status.Done → ending ≡ Ending.Done
done-ending Ending.Done e = refl
done-ending Ending.TapeEnded e = absurd (cc)
done-ending (Ending.Undecided left_open) e = absurd (cc)
done-ending Ending.TurnLimit e = absurd (cc)
done-ending Ending.ReadFault e = absurd (cc)

-- the fraction bits of words
few-bits : (bits : FractionBits) → fraction_bits bits < 2 ^ 32
few-bits F40 = omega arith
few-bits F48 = omega arith
few-bits F52 = omega arith

offered : (bits : FractionBits) → (if nat_eq (fraction_bits bits) 40 then 40 else if nat_eq (fraction_bits bits) 52 then 52 else 48) ≡ fraction_bits bits
offered F40 = refl
offered F48 = refl
offered F52 = refl

-- a header of version 2 is tested with its own fraction bits
own-bits : (bits : FractionBits) (c : Certificate) → c.header.version ≡ 2 → c.header.fraction ≡ fraction_bits bits → tested_bits c.header ≡ fraction_bits bits
own-bits bits c version fraction =
    ap (λ v. if nat_eq v 1 then 48 else if nat_eq c.header.fraction 40 then 40 else if nat_eq c.header.fraction 52 then 52 else 48) version
    ∙ ap (λ f. if nat_eq f 40 then 40 else if nat_eq f 52 then 52 else 48) fraction
    ∙ offered bits

-- a certificate of version 2 with the specification's digest is written as it is
as-it-is : (s : Spec) (c : Certificate) → c.header.version ≡ 2 → c.header.digest ≡ Some (sha256 (canonical_text s)) → migrated_text s c ≡ text_of (certificate_lines c)
as-it-is s c version digest =
    ap (λ d. text_of (certificate_lines (record c { header = record c.header { version = 2; digest = Some (own_digest s d) } }))) digest
    ∙ ap (λ d. text_of (certificate_lines (record c { header = record c.header { version = 2; digest = d } }))) (sym digest)
    ∙ ap (λ v. text_of (certificate_lines (record c { header = record c.header { version = v } }))) (sym version)

module _ (laws : CourseLaws) (valid : (s : Spec) (F : ℕ) (c : Certificate) → IsSound s → IsOfDrawing s F c → FirstFails (checks s F c) Valid) (digests : AreDigests) (f : Files) (file : List ℕ) (x : Fraction) (tape : TapeWord) (limits : Limits) (bits : FractionBits) (are : AreLimits (limits_of limits)) (status : Status) (text : List ℕ) (done : status ≡ Status.Done) where
  -- How many fraction bits there are.
  abbrev F : ℕ
  F = fraction_bits bits

  -- The tape in the call.
  abbrev in_call : TapeMet
  in_call = tape_in f (source_of tape)

  module _ (s : Spec) (bytes : List ℕ) (accepted : IsAccepted bytes s) (base : List ℕ) (has : base_of (setting s x.num x.den F) ≡ Some base) where
    abbrev header : List ℕ
    header = drawn_header (version_line 2) (setting s x.num x.den F) base (limits_of limits)

    -- a drawing that came to its end with Done
    at-end : (c : Course) (most : ℕ) (ending : Ending) (lines : List ℕ) → ending ≡ Ending.Done → IsDrawn s (ratio x.num x.den) F (level_bounds_from (setting s x.num x.den F) (zeros (setting s x.num x.den F)) base) (limits_of limits) in_call c most ending → Lists s c.entries lines → text ≡ header ++ (lines ++ drawn.closing_text (level_bounds_from (setting s x.num x.den F) (zeros (setting s x.num x.den F)) base) c ending) → IsCertificateOf s F limits.count text
    at-end c most ending lines is h l text_is =
        let table = level_bounds_from (setting s x.num x.den F) (zeros (setting s x.num x.den F)) base in
        let sound = is-sound bytes s accepted.stands in
        let entries = of-entries s c.entries lines l in
        let whole = is-whole laws s sound F table (limits_of limits) (ratio x.num x.den) in_call c most h.course (h.ended ∙ ap Some is) in
        certified s sound (names-once bytes s accepted.stands) x F (few-bits bits) (limits_of limits) are base (is-base (setting s x.num x.den F) base has) (λ cert. valid s F cert sound) digests c whole (h.kept is) entries.texts entries.are lines text entries.lines_are (text_is ∙ ap (λ e. header ++ (lines ++ drawn.closing_text table c e)) is)

    drawn-done : (ticks : ℕ) → DrawnFrom false (setting s x.num x.den F) (limits_of limits) in_call base (zeros (setting s x.num x.den F)) status text ticks → IsCertificateOf s F limits.count text
    drawn-done ticks (drawn.ended c most ending lines h l says) = at-end c most ending lines (done-ending ending (sym says.status_is ∙ done)) h l says.text_is
    drawn-done ticks (drawn.so_far c most first others lines h e l says) = let is = says.status_is in absurd (cc)
    drawn-done ticks (drawn.no_memory says) = let is = says.status_is in absurd (cc)

    started-done : (ticks : ℕ) → DrawnOver false (setting s x.num x.den F) (limits_of limits) in_call base status text ticks → IsCertificateOf s F limits.count text
    started-done ticks (starts.no_fast none says) = let is = says.status_is in absurd (cc)
    started-done ticks (starts.no_memory says) = let is = says.status_is in absurd (cc)
    started-done ticks (starts.started start later is p sum) = let same : zeros (setting s x.num x.den F) ≡ start = cc in drawn-done later (subst (λ from. DrawnFrom false (setting s x.num x.den F) (limits_of limits) in_call base from status text later) (sym same) p)

  based-done : (s : Spec) (bytes : List ℕ) (ticks : ℕ) → IsAccepted bytes s → Based (setting s x.num x.den F) (DrawnOver false (setting s x.num x.den F) (limits_of limits) in_call) status text ticks → IsCertificateOf s F limits.count text
  based-done s bytes ticks accepted (stages.no_base trials lacks says) = let is = says.status_is in absurd (cc)
  based-done s bytes ticks accepted (stages.no_memory says) = let is = says.status_is in absurd (cc)
  based-done s bytes ticks accepted (stages.based base more has p sum) = started-done s bytes accepted base has more p

  valid-text : (s : Spec) → (h : IsCertificateOf s F limits.count text) → IsValidIn2 s h.certificate text
  valid-text s h = record { is_text = h.is_text; version = h.version; digest = h.digest; passes = subst (λ n. FirstFails (checks s n h.certificate) Valid) (sym (own-bits bits h.certificate h.version h.fraction)) h.passes }

  certified-for : (s : Spec) (bytes : List ℕ) → AreRead f.content file 65537 bytes → IsAccepted bytes s → IsWellFounded s → IsCertificateOf s F limits.count text → IsCertified f.content file F limits.count text
  certified-for s bytes are_read accepted founded h = record {
    spec = s;
    specified = record { bytes = bytes; read = are_read; accepted = accepted; founded = founded };
    certificate = h.certificate;
    valid = valid-text s h;
    fraction_is = h.fraction;
    entries = h.count;
  }

  -- The command after its file was read.
  abbrev next : Spec → (status : Status) → (text : List ℕ) → (ticks : ℕ) → Type 0
  next s = Based (setting s x.num x.den F) (DrawnOver false (setting s x.num x.den F) (limits_of limits) in_call)

  judged-done : (bytes : List ℕ) (ticks : ℕ) → AreRead f.content file 65537 bytes → Judged next bytes status text ticks → IsCertified f.content file F limits.count text
  judged-done bytes ticks are_read (stages.refused fault memory refuses says) = let is = says.status_is in absurd (cc)
  judged-done bytes ticks are_read (stages.unfounded s cause accepted memory tells says) = let is = says.status_is in absurd (cc)
  judged-done bytes ticks are_read (stages.no_memory says) = let is = says.status_is in absurd (cc)
  judged-done bytes ticks are_read (stages.founded s accepted founded p) = certified-for s bytes are_read accepted founded (based-done s bytes ticks accepted p)

  -- what the command wrote with Done is certified
  pub sample-done : (ticks : ℕ) → CarriesSample f file x tape limits F false status text ticks → IsCertified f.content file F limits.count text
  sample-done ticks (stages.failed rose says) = let is = says.status_is in absurd (cc)
  sample-done ticks (stages.no_memory says) = let is = says.status_is in absurd (cc)
  sample-done ticks (stages.read bytes are_read p) = judged-done bytes ticks are_read p

  -- of a specification that is in the file
  from-known : (s : Spec) (ticks : ℕ) → HasSpecification f file s → CarriesSample f file x tape limits F false status text ticks → IsCertificateOf s F limits.count text
  from-known s ticks has h = based-done s has.calm.bytes ticks has.accepted (specified-only f file s next status text ticks has (λ e. let clash : Status.Done ≡ Status.OutOfMemory = sym done ∙ e in cc) h)

  -- the file that holds the text has that certificate
  held : (g : Files) (wrote : List ℕ) (s : Spec) → HoldsText g wrote text → (h : IsCertificateOf s F limits.count text) → HasCertificate g wrote h.certificate
  held g wrote s holds h = record { calm = holds.calm; few = holds.few; is_text = subst (λ b. IsTextOf b h.certificate) (sym holds.same) h.is_text }

  module _ (g : Files) (again wrote : List ℕ) (s : Spec) (other : Status) (others : List ℕ) (more : ℕ) (memory : other ≢ Status.OutOfMemory) where
    -- `verify` counts its entries
    pub verified-done : ((c : Certificate) → HasSpecification g again s → HasCertificate g wrote c → FirstFails (checks s (tested_bits c.header) c) Valid → CarriesVerify g again wrote other others more → (other ≡ Status.Done) × (others ≡ valid_line (length c.entries))) → (ticks : ℕ) → HasSpecification f file s → CarriesSample f file x tape limits F false status text ticks → HasSpecification g again s → HoldsText g wrote text → CarriesVerify g again wrote other others more → (other ≡ Status.Done) × (others ≡ valid_line limits.count)
    verified-done found ticks has h has_too holds p =
        let k = from-known s ticks has h in
        let v = valid-text s k in
        let answer = found k.certificate has_too (held g wrote s holds k) v.passes p in
        (answer.0, answer.1 ∙ ap valid_line k.count)

    -- `migrate` writes it as it is
    pub migrated-done : ((c : Certificate) → HasSpecification g again s → HasCertificate g wrote c → FirstFails (checks s (tested_bits c.header) c) Valid → CarriesMigrate g again wrote other others more → (other ≡ Status.Done) × (others ≡ migrated_text s c)) → (ticks : ℕ) → HasSpecification f file s → CarriesSample f file x tape limits F false status text ticks → HasSpecification g again s → HoldsText g wrote text → CarriesMigrate g again wrote other others more → (other ≡ Status.Done) × (others ≡ text)
    migrated-done found ticks has h has_too holds p =
        let k = from-known s ticks has h in
        let v = valid-text s k in
        let is = k.is_text in
        let answer = found k.certificate has_too (held g wrote s holds k) v.passes p in
        (answer.0, answer.1 ∙ as-it-is s k.certificate k.version k.digest ∙ sym is.text)
