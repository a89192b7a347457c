-- How many drawings over a tape ended with a failed read, and the count of its name.
use Rattle.std.proofs.Common.{◌≡◌, ℕ, ◌+◌, ◌-◌, ◌^◌, ◌≤◌, ◌⊎◌, inl, inr, min, arith, Bool, true, false, cond, List, refl, sym, ◌∙◌, ap, subst}
use Rattle.std.specs.Prelude.{Option, Some, None, IfSome, slice_get, slice_set}
use Rattle.std.specs.Str.{bytes_eq}
use Rattle.std.proofs.lemmas.List.Sums.{sum_by-set}
use Rattle.std.proofs.lemmas.Option.{slice_get_within, get_or_from_slice_get}
use Rattle.std.proofs.lemmas.Slice.Eq.{bytes_eq-Decides}
use Rattle.bz_outside.specs.Outside.{Rose}
use Rattle.bit_tape.specs.Tape.{TapeSource, CountsFault, HasFault}
use Rattle.bit_tape.proofs.Leaving.{fault-rose}
use Rattle.size_window.specs.declared.ending.Ending.{Ending as Told}
use Rattle.size_window.specs.declared.ending.Ending.TheVariants as told
use Rattle.size_window.specs.declared.turned.Turned.{Turned as Answer}
use Rattle.size_window.specs.declared.turned.Turned.TheVariants as turned
use Rattle.size_window.specs.Turn.{is_turn_fault, ending_by}
use Rattle.session_pool.specs.declared.pooled.Pooled.{Pooled}
use Rattle.session_pool.specs.Member.{MemberState}
use Rattle.session_pool.specs.Turn.{IsMemberTurn}
use Rattle.session_pool.proofs.Ended.{ended-no_fault}
use Rattle.session_pool.specs.Interleaving.{Shared, failed_on_tape, failures, ended_failing, all_failures, RoseBy}

-- 1 where a test passes
abbrev pub one-if : Bool → ℕ
one-if b = cond b 1 0

-- 1 where a drawing over the tape of this name ended with a failed read
abbrev pub mark : (name : List ℕ) → TapeSource → Option Told → ℕ
mark name source ending = one-if (failed_on_tape name source ending)

-- a drawing that goes on ended with no failed read
pub going-mark : (name : List ℕ) (source : TapeSource) → mark name source None ≡ 0
going-mark name (TapeSource.Named other) = refl
going-mark name (TapeSource.Seeded seed) = refl

-- nor did one that ended otherwise
other-mark : (name : List ℕ) (source : TapeSource) (e : Told) → (e ≡ told.ReadFault → ⊥) → mark name source (Some e) ≡ 0
other-mark name (TapeSource.Named other) told.Done h = refl
other-mark name (TapeSource.Named other) told.TapeEnded h = refl
other-mark name (TapeSource.Named other) (told.Undecided straddle) h = refl
other-mark name (TapeSource.Named other) told.TurnLimit h = refl
other-mark name (TapeSource.Named other) told.ReadFault h = absurd (h refl)
other-mark name (TapeSource.Seeded seed) e h = refl

-- where a read of a tape failed, its name's count rose
failed-mark : (name : List ℕ) (source : TapeSource) (before now : List ℕ → ℕ) → HasFault source before now → (mark name source (Some told.ReadFault) ≡ 0) ⊎ ((mark name source (Some told.ReadFault) ≡ 1) × Rose (before name) (now name))
failed-mark name (TapeSource.Named other) before now rose = go (bytes_eq name other) refl
  where
    go : (b : Bool) → bytes_eq name other ≡ b → (one-if (bytes_eq name other) ≡ 0) ⊎ ((one-if (bytes_eq name other) ≡ 1) × Rose (before name) (now name))
    go true is = inr (ap one-if is, subst (λ (n : List ℕ). Rose (before n) (now n)) (sym ((bytes_eq-Decides name other).0 is)) rose)
    go false is = inl (ap one-if is)
failed-mark name (TapeSource.Seeded seed) before now never = absurd never

-- Marks stay, or one more comes with a count that rose.
abbrev Marks : (before now old new : ℕ) → Type 0
Marks before now old new = (new ≡ old) ⊎ ((new ≡ old + 1) × Rose before now)

unmarked : (before now old new : ℕ) → old ≡ 0 → new ≡ 0 → Marks before now old new
unmarked before now old new a b = inl (b ∙ sym a)

marked-or-not : (before now old new : ℕ) → old ≡ 0 → (new ≡ 0) ⊎ ((new ≡ 1) × Rose before now) → Marks before now old new
marked-or-not before now old new a (inl b) = inl (b ∙ sym a)
marked-or-not before now old new a (inr h) = let one = h.0 in inr (omega (arith, one, a), h.1)

-- the mark of a drawing that goes on, after an answer
answer-marks : (name : List ℕ) (source : TapeSource) (before now : List ℕ → ℕ) (a : Answer) → (a ≡ turned.Finished told.ReadFault → HasFault source before now) → Marks (before name) (now name) (mark name source None) (mark name source (ending_by None a))
answer-marks name source before now turned.Going h = inl refl
answer-marks name source before now (turned.Kept entry) h = inl refl
answer-marks name source before now turned.OutOfMemory h = inl refl
answer-marks name source before now (turned.Finished told.Done) h = unmarked (before name) (now name) (mark name source None) (mark name source (Some told.Done)) (going-mark name source) (other-mark name source told.Done (λ e. absurd (cc)))
answer-marks name source before now (turned.Finished told.TapeEnded) h = unmarked (before name) (now name) (mark name source None) (mark name source (Some told.TapeEnded)) (going-mark name source) (other-mark name source told.TapeEnded (λ e. absurd (cc)))
answer-marks name source before now (turned.Finished (told.Undecided straddle)) h = unmarked (before name) (now name) (mark name source None) (mark name source (Some (told.Undecided straddle))) (going-mark name source) (other-mark name source (told.Undecided straddle) (λ e. absurd (cc)))
answer-marks name source before now (turned.Finished told.TurnLimit) h = unmarked (before name) (now name) (mark name source None) (mark name source (Some told.TurnLimit)) (going-mark name source) (other-mark name source told.TurnLimit (λ e. absurd (cc)))
answer-marks name source before now (turned.Finished told.ReadFault) h = marked-or-not (before name) (now name) (mark name source None) (mark name source (Some told.ReadFault)) (going-mark name source) (failed-mark name source before now (h refl))

-- where a drawing that went on answers a failed read, a read of its tape failed
pub fault-counted : (source : TapeSource) (before now : List ℕ → ℕ) (o : Option Told) (a : Answer) → o ≡ None → CountsFault (is_turn_fault a o) source before now → a ≡ turned.Finished told.ReadFault → HasFault source before now
fault-counted source before now o a is counts failed = fault-rose source before now (subst (λ b. CountsFault b source before now) (ap (is_turn_fault a) is ∙ ap (λ e. is_turn_fault e None) failed) counts)

-- a count that rose once more
rises : (begun before now old new most : ℕ) → before ≤ now → min (begun + old) most ≤ before → (new ≡ old) ⊎ ((new ≡ old + 1) × (min (before + 1) most ≤ now)) → min (begun + new) most ≤ now
rises begun before now old new most up rose (inl same) = omega (arith, up, rose, same)
rises begun before now old new most up rose (inr h) = let more = h.0 in let once = h.1 in omega (arith, up, rose, more, once)

module _ (w : Shared) (before now : List ℕ → ℕ) (m later : MemberState) (answer : Pooled) (h : IsMemberTurn w.spec w.x w.F w.table w.contents before now m answer later) (name : List ℕ) where
  marks-then : (o : Option Told) → m.drawing.ending ≡ o → Marks (before name) (now name) (mark name m.tape.source m.drawing.ending) (mark name later.tape.source later.drawing.ending)
  marks-then None is =
      subst (λ source. Marks (before name) (now name) (mark name m.tape.source m.drawing.ending) (mark name source later.drawing.ending)) (sym h.source)
      (subst (λ o. Marks (before name) (now name) (mark name m.tape.source m.drawing.ending) (mark name m.tape.source o)) (sym (h.counted.ending ∙ ap (λ o. ending_by o h.told) is))
      (subst (λ o. Marks (before name) (now name) (mark name m.tape.source o) (mark name m.tape.source (ending_by None h.told))) (sym is)
      (answer-marks name m.tape.source before now h.told (fault-counted m.tape.source before now m.drawing.ending h.told is h.faults))))
  marks-then (Some ending) is =
      let (told-is, same) = subst (λ o. IfSome o (λ ending. (h.told ≡ turned.Finished ending) × (later ≡ m))) is h.again in
      inl (ap (λ (k : MemberState). mark name k.tape.source k.drawing.ending) same)

  sums-then : (pool : List MemberState) (number : ℕ) → slice_get pool number ≡ Some m → Marks (before name) (now name) (mark name m.tape.source m.drawing.ending) (mark name later.tape.source later.drawing.ending) → Marks (before name) (now name) (failures name pool) (failures name (slice_set pool number later))
  sums-then pool number at marks =
      let sums = sum_by-set (λ (k : MemberState). mark name k.tape.source k.drawing.ending) pool number later m (slice_get_within pool number m at) in
      let old = ap (λ (k : MemberState). mark name k.tape.source k.drawing.ending) (get_or_from_slice_get pool number m m at) in
      go sums old marks
    where
      go : {all rest a b c : ℕ} → rest + a ≡ all + b → a ≡ c → Marks (before name) (now name) c b → Marks (before name) (now name) all rest
      go sums old (inl same) = inl (omega (arith, sums, old, same))
      go sums old (inr h) = let more = h.0 in inr (omega (arith, sums, old, more), h.1)

  -- where drawings over a tape ended with a failed read, the count rose as often
  pub failures-on : (begun : ℕ) → before name ≤ now name → (pool : List MemberState) (number : ℕ) → slice_get pool number ≡ Some m → RoseBy (failures name pool) begun (before name) → RoseBy (failures name (slice_set pool number later)) begun (now name)
  failures-on begun up pool number at rose = rises begun (before name) (now name) (failures name pool) (failures name (slice_set pool number later)) (2 ^ 64 - 1) up rose (sums-then pool number at (marks-then m.drawing.ending refl))

-- 1 where a drawing ended with a failed read
abbrev pub end_mark : Option Told → ℕ
end_mark ending = one-if (ended_failing ending)

pub going-end : end_mark None ≡ 0
going-end = refl

-- a count that a failed read may have raised
count-once : (source : TapeSource) (before now : List ℕ → ℕ) (name : List ℕ) → CountsFault true source before now → now name ≤ before name + 1
count-once (TapeSource.Named other) before now name failed = let once = failed.once name in omega (arith, once)
count-once (TapeSource.Seeded seed) before now name never = absurd never

count-stays : (source : TapeSource) (before now : List ℕ → ℕ) (name : List ℕ) → CountsFault false source before now → now name ≤ before name
count-stays source before now name same = let e : now name ≡ before name = ap (λ f. f name) same in omega (arith, e)

-- After an answer of a drawing that went on: its mark stays and no count rises, or it is marked and a count rises once.
answer-ends : (source : TapeSource) (before now : List ℕ → ℕ) (name : List ℕ) (a : Answer) → CountsFault (is_turn_fault a None) source before now → now name + end_mark None ≤ before name + end_mark (ending_by None a)
answer-ends source before now name turned.Going h = let c = count-stays source before now name h in omega (arith, c)
answer-ends source before now name (turned.Kept entry) h = let c = count-stays source before now name h in omega (arith, c)
answer-ends source before now name turned.OutOfMemory h = let c = count-stays source before now name h in omega (arith, c)
answer-ends source before now name (turned.Finished told.Done) h = let c = count-stays source before now name h in omega (arith, c)
answer-ends source before now name (turned.Finished told.TapeEnded) h = let c = count-stays source before now name h in omega (arith, c)
answer-ends source before now name (turned.Finished (told.Undecided straddle)) h = let c = count-stays source before now name h in omega (arith, c)
answer-ends source before now name (turned.Finished told.TurnLimit) h = let c = count-stays source before now name h in omega (arith, c)
answer-ends source before now name (turned.Finished told.ReadFault) h = let c = count-once source before now name h in omega (arith, c)

module _ (w : Shared) (before now : List ℕ → ℕ) (m later : MemberState) (answer : Pooled) (h : IsMemberTurn w.spec w.x w.F w.table w.contents before now m answer later) (name : List ℕ) where
  ends-then : (o : Option Told) → m.drawing.ending ≡ o → now name + end_mark m.drawing.ending ≤ before name + end_mark later.drawing.ending
  ends-then None is =
      subst (λ o. now name + end_mark o ≤ before name + end_mark later.drawing.ending) (sym is)
      (subst (λ o. now name + end_mark None ≤ before name + end_mark o) (sym (h.counted.ending ∙ ap (λ o. ending_by o h.told) is))
      (answer-ends m.tape.source before now name h.told (subst (λ o. CountsFault (is_turn_fault h.told o) m.tape.source before now) is h.faults)))
  ends-then (Some ending) is =
      let (told-is, same) = subst (λ o. IfSome o (λ ending. (h.told ≡ turned.Finished ending) × (later ≡ m))) is h.again in
      let none : is_turn_fault h.told m.drawing.ending ≡ false = ap (λ a. is_turn_fault a m.drawing.ending) told-is ∙ sym (ended-no_fault m.drawing.ending ending is) in
      let stays = count-stays m.tape.source before now name (subst (λ b. CountsFault b m.tape.source before now) none h.faults) in
      let mark : end_mark later.drawing.ending ≡ end_mark m.drawing.ending = ap (λ (k : MemberState). end_mark k.drawing.ending) same in
      omega (arith, stays, mark)

  -- no count rises more often than drawings end with a failed read
  pub only-on : (begun : ℕ) (pool : List MemberState) (number : ℕ) → slice_get pool number ≡ Some m → before name ≤ begun + all_failures pool → now name ≤ begun + all_failures (slice_set pool number later)
  only-on begun pool number at only =
      let sums = sum_by-set (λ (k : MemberState). end_mark k.drawing.ending) pool number later m (slice_get_within pool number m at) in
      let old = ap (λ (k : MemberState). end_mark k.drawing.ending) (get_or_from_slice_get pool number m m at) in
      let more = ends-then m.drawing.ending refl in
      go (all_failures pool) (all_failures (slice_set pool number later)) _ (end_mark later.drawing.ending) (end_mark m.drawing.ending) (before name) (now name) sums old only more
    where
      go : (all rest a b c x y : ℕ) → rest + a ≡ all + b → a ≡ c → x ≤ begun + all → y + c ≤ x + b → y ≤ begun + rest
      go all rest a b c x y sums old only more = omega (arith, sums, old, only, more)
