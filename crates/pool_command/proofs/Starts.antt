-- A pool before its first turn.
use Rattle.std.proofs.Common.{◌≡◌, ℕ, zero, suc, ◌≤◌, max, arith, List, [], ◌∷◌, length, map, refl, sym, ap, subst, ◌∙◌}
use Rattle.std.specs.Prelude.{Option, Some, None, option_map}
use Rattle.std.specs.List.{All}
use Rattle.std.proofs.lemmas.Option.{slice_get_within, get_or_from_slice_get}
use Rattle.bit_tape.specs.Tape.{TapeSource, TapeState, BelongsToShelf, bits_of_source}
use Rattle.bit_tape.proofs.NewTapes.{belongs_new}
use Rattle.bz_model.specs.Fraction.{ratio}
use Rattle.kleene_lower.specs.Lower.{zeros}
use Rattle.oracle_memo.specs.Memos.{Memory}
use Rattle.rounded_map.specs.RoundedMap.{Setting as Rounded}
use Rattle.rounded_map.specs.RoundedMap as rounded
use Rattle.choice_draw.specs.Decision.{level_for}
use Rattle.oracle_memo.specs.Levels.{level_bounds_from, costs}
use Rattle.size_window.specs.declared.ending.Ending.{Ending as Told}
use Rattle.size_window.specs.RunByBits.{Limits, RunState, at_start}
use Rattle.size_window.specs.Drawing.{ending_of}
use Rattle.size_window.specs.Turn.{EntryHasLabels, entry_of}
use Rattle.size_window.specs.Trace.{HasTrace, TracesStart}
use Rattle.session_pool.specs.Member.{MemberState, IsNewMember}
use Rattle.session_pool.specs.Interleaving.{Shared, shared_setting, IsPoolAfter}
use Rattle.session_pool.specs.Pool.{IsNewPool, tapes_of}
use Rattle.sample_command.specs.UnderWay.{has_failed}
use Rattle.pool_command.specs.PoolCommand.{greatest_below, pool_of}
use Rattle.pool_command.specs.UnderWay.{AreMoments, IsMemberUnderWay, Beginning, IsSoFar, pool_beginning, moment, tape_over}
use Rattle.pool_command.proofs.Ended.{shared_of}

-- a drawing that starts hasn't ended
not-ended : (o : Option Told) → option_map ending_of o ≡ None → o ≡ None
not-ended None e = refl
not-ended (Some ending) e = absurd (cc)

-- a new drawing is under way
pub new-under-way : TracesStart → (w : Shared) (limits : Limits) (counts : List ℕ → ℕ) (m : MemberState) → IsNewMember limits m.tape m → m.tape.used ≡ 0 → IsMemberUnderWay w limits counts counts m 0
new-under-way starts w limits counts m new unused =
    let going : m.drawing.ending ≡ None = not-ended m.drawing.ending (ap (λ (st : RunState). st.ending) new.state) in
    record {
      so_far = record { turns = 0; course = at_start; drawing = started };
      entries = sym (ap (map entry_of) new.entries);
      labels = subst (All (EntryHasLabels w.spec.mode)) (sym new.entries) (λ k d lt. absurd (omega (arith, lt)));
      moments = subst (λ o. AreMoments m.tape.source (has_failed o) counts counts) (sym going) (record { before = counts; now = counts; since = λ name. omega arith; until = λ name. omega arith; reads = refl });
    }
  where
    started : HasTrace w.spec w.x w.F w.table limits (bits_of_source m.tape.source w.contents) 0 m.drawing m.tape.used 0 at_start
    started = subst (λ used. HasTrace w.spec w.x w.F w.table limits (bits_of_source m.tape.source w.contents) 0 m.drawing used 0 at_start) (sym unused) (starts w.spec w.x w.F w.table limits (bits_of_source m.tape.source w.contents) m.drawing new.state new.same_limits new.atoms)

-- nothing is the greatest of none
greatest-none : (n : ℕ) → greatest_below (λ i. 0) n ≡ 0
unfolding greatest_below
greatest-none zero = refl
greatest-none (suc n) = ap (λ k. max k 0) (greatest-none n)

-- no drawing was asked for a turn
pub starts-so-far : TracesStart → (b : Beginning) (ticks : ℕ) (pool : List MemberState) → All (λ m. IsNewMember b.limits m.tape m) pool → All (λ m. m.tape.used ≡ 0) pool → IsPoolAfter b.shared b.limits b.sources b.counts b.counts [] pool → ticks ≤ b.ticks → IsSoFar b [] (moment b.shared b.counts costs 0 ticks pool)
starts-so-far starts b ticks pool new unused after few = record {
  same = refl;
  mosts = λ i. 0;
  each = λ i m at.
      let is_new = subst (λ (k : MemberState). IsNewMember b.limits k.tape k) (get_or_from_slice_get pool i m m at) (new i m (slice_get_within pool i m at)) in
      let none = subst (λ (k : MemberState). k.tape.used ≡ 0) (get_or_from_slice_get pool i m m at) (unused i m (slice_get_within pool i m at)) in
      new-under-way starts b.shared b.limits b.counts m is_new none;
  after = after;
  cost_is = refl;
  levels = omega arith;
  raised_is = sym (ap level_for (greatest-none (length pool)));
  few = omega (arith, few);
}

-- the tapes over files
pub sources-of-tapes : (names : List (List ℕ)) → map (λ (t : TapeState). t.source) (map tape_over names) ≡ map TapeSource.Named names
sources-of-tapes [] = refl
sources-of-tapes (n ∷ names) = ap (λ ss. TapeSource.Named n ∷ ss) (sources-of-tapes names)

-- No bit of the tapes over given names has been used at the start.
pub tapes-unused : (names : List (List ℕ)) → All (λ tape. tape.used ≡ 0) (map tape_over names)
tapes-unused [] k d lt = absurd (omega (arith, lt))
tapes-unused (n ∷ names) zero d lt = refl
tapes-unused (n ∷ names) (suc k) d lt = tapes-unused names k d (omega (arith, lt))

-- The tapes over given names, before any bit is used, all belong to the contents of the files.
pub tapes-belong : (contents : List ℕ → Option (List ℕ)) (names : List (List ℕ)) → All (BelongsToShelf contents) (map tape_over names)
tapes-belong contents [] k d lt = absurd (omega (arith, lt))
tapes-belong contents (n ∷ names) zero d lt = belongs_new contents (TapeSource.Named n) 0
tapes-belong contents (n ∷ names) (suc k) d lt = tapes-belong contents names k d (omega (arith, lt))

members-unused : (pool : List MemberState) (names : List (List ℕ)) → tapes_of pool ≡ map tape_over names → All (λ m. m.tape.used ≡ 0) pool
members-unused [] names same k d lt = absurd (omega (arith, lt))
members-unused (m ∷ pool) [] same k d lt = absurd (cc)
members-unused (m ∷ pool) (n ∷ names) same zero d lt = let here : m.tape ≡ tape_over n = cc in ap (λ (t : TapeState). t.used) here
members-unused (m ∷ pool) (n ∷ names) same (suc k) d lt = members-unused pool names (let rest : tapes_of pool ≡ map tape_over names = cc in rest) k d (omega (arith, lt))

-- a pool by a memo of which no level is raised
pub memo-starts : TracesStart → (t : Rounded) (base : List ℕ) (limits : Limits) (contents : List ℕ → Option (List ℕ)) (names : List (List ℕ)) (counts : List ℕ → ℕ) (ticks now : ℕ) (m : Memory) (tapes : List TapeState) (pool : List MemberState) → m ≡ record { spec = t.spec; num = t.num; den = t.den; start = zeros t; base = base; raised = 0 } → tapes ≡ map tape_over names → IsNewPool limits tapes pool → ((w : Shared) (c : List ℕ → ℕ) → IsPoolAfter w limits (map (λ (tape : TapeState). tape.source) tapes) c c [] pool) → now ≤ ticks → IsSoFar (pool_beginning (shared_of (pool_of t base limits) contents) limits (map TapeSource.Named names) counts ticks) [] (moment (shared_setting m.spec (ratio m.num m.den) t.bits (level_bounds_from (rounded.setting m.spec m.num m.den t.bits) m.start m.base) contents) counts costs m.raised now pool)
memo-starts law t base limits contents names counts ticks now m tapes pool made tapes_are new alone few =
    subst (λ (k : Memory). IsSoFar (pool_beginning (shared_of (pool_of t base limits) contents) limits (map TapeSource.Named names) counts ticks) [] (moment (shared_setting k.spec (ratio k.num k.den) t.bits (level_bounds_from (rounded.setting k.spec k.num k.den t.bits) k.start k.base) contents) counts costs k.raised now pool)) (sym made)
    (starts-so-far law (pool_beginning (shared_of (pool_of t base limits) contents) limits (map TapeSource.Named names) counts ticks) now pool new.each (members-unused pool names (new.same_tapes ∙ tapes_are))
    (subst (λ ss. IsPoolAfter (shared_of (pool_of t base limits) contents) limits ss counts counts [] pool) (ap (map (λ (tape : TapeState). tape.source)) tapes_are ∙ sources-of-tapes names) (alone (shared_of (pool_of t base limits) contents) counts)) few)

-- there is one drawing for each tape
pub members-counted : (pool : List MemberState) (names : List (List ℕ)) → tapes_of pool ≡ map tape_over names → length pool ≡ length names
members-counted [] [] same = refl
members-counted [] (n ∷ names) same = absurd (cc)
members-counted (m ∷ pool) [] same = absurd (cc)
members-counted (m ∷ pool) (n ∷ names) same = let rest = members-counted pool names (let more : tapes_of pool ≡ map tape_over names = cc in more) in omega (arith, rest)
