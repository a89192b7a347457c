-- An attempt, visit by visit, over a tape whose bits are known.
use Rattle.std.proofs.Common.{◌≡◌, ◌≢◌, ℕ, zero, suc, ◌+◌, ◌-◌, ◌^◌, ◌<◌, arith, Bool, true, false, List, [], ◌∷◌, min, refl, sym, ◌∙◌, ap, subst}
use Rattle.std.specs.Prelude.{Option, Some, None, IfSome, slice_index, slice_get}
use Rattle.bz_model.specs.declared.cell.Bounds.{Bounds}
use Rattle.bz_model.specs.Fraction.{Fraction}
use Rattle.bz_model.specs.Spec.{Spec, body_of}
use Rattle.bz_outside.specs.Outside.{ReadFailed}
use Rattle.bit_tape.specs.Given.{HasBits}
use Rattle.bit_tape.specs.Tape.{TapeSource, CountsFault, bits_of_source}
use Rattle.choice_draw.specs.Draw.{bit_of}
use Rattle.shape_sampler.specs.declared.stepped.Stepped.{Stepped}
use Rattle.shape_sampler.specs.declared.stepped.Stepped.TheVariants.{Moved, Made, Overshot, Straddles, Ended, ReadFault, OutOfMemory}
use Rattle.shape_sampler.specs.Answer.{told_visit, visit_fault_place, is_visit_fault, EndsThere, ChoosesBy, IsVisitByBits}
use Rattle.shape_sampler.specs.State.{SessionState, SessionBelongs, attempt_of, begun_state}
use Rattle.shape_sampler.specs.Visit.{Chooser, Attempt, Visited, visit, begun}
use Rattle.size_window.specs.Redrawn.{visits, visited_next}
use Rattle.entry_replay.specs.Replay.{IsMadeFrom, IsMadeByTable, IsNeverMade}
use Rattle.entry_replay.proofs.Resting.{rest-one, made-rests}

-- After some visits of an attempt the session has it.
pub record IsUnderWay (s : Spec) (F : ℕ) (table : (level node : ℕ) → Bounds) (greatest : ℕ) (bits : ℕ → Option Bool) (start : ℕ) (number : ℕ) (now : SessionState) (used : ℕ) : Type 0 where
  pub visited : (c : Chooser) → ChoosesBy s F table c → visits c (bit_of bits None) number (begun c.spec greatest start) ≡ Visited.Went (attempt_of now used)

-- a shelf without failed reads has none
pub no-fault : (source : TapeSource) → ¬ (CountsFault true source (λ name. 0) (λ name. 0))
no-fault (TapeSource.Named name) h = let e = h.here in let no : ⊥ = omega arith in no
no-fault (TapeSource.Seeded seed) h = h

-- so no read fails in a visit that nothing stopped before
pub no-fault-answer : (answer : Stepped) (stopped : Option Stepped) (source : TapeSource) → stopped ≡ None → CountsFault (is_visit_fault answer stopped) source (λ name. 0) (λ name. 0) → answer ≢ ReadFault
no-fault-answer answer stopped source none h is = no-fault source (subst (λ a. CountsFault (is_visit_fault a None) source (λ name. 0) (λ name. 0)) is (subst (λ o. CountsFault (is_visit_fault answer o) source (λ name. 0) (λ name. 0)) none h))

-- shelves with the same contents are the same
pub same-shelf : (a b : List ℕ) (before now : List ℕ → Option (List ℕ)) → before ≡ (λ name. Some a) → now ≡ (λ name. Some b) → now ≡ before → b ≡ a
same-shelf a b before now is there same = let e : Some b ≡ Some a = ap (λ (f : List ℕ → Option (List ℕ)). f []) (sym there ∙ same ∙ is) in cc

-- the bits of a tape that is still of its source, over the same shelf
pub still-told : (source first : TapeSource) (a b : List ℕ) (bits : Option (ℕ → Option Bool)) → source ≡ first → b ≡ a → bits_of_source first (λ name. Some a) ≡ bits → bits_of_source source (λ name. Some b) ≡ bits
still-told source first a b bits same shelf told = ap (λ t. bits_of_source t (λ name. Some b)) same ∙ ap (λ sh. bits_of_source first (λ name. Some sh)) shelf ∙ told

first-at : (xs : List ℕ) (x : ℕ) → slice_get xs 0 ≡ Some x → slice_index xs 0 ≡ x
first-at [] x is = let no : ⊥ = cc in absurd no
first-at (y ∷ ys) x is = cc

module _ (s : Spec) (F : ℕ) (table : (level node : ℕ) → Bounds) (bits : ℕ → Option Bool) (start : ℕ) where
  -- it begins
  pub way-begins : (x : Fraction) (st : SessionState) → SessionBelongs s x st → IsUnderWay s F table st.whole bits start 0 (begun_state st) start
  way-begins x st b = record {
    visited = λ c by.
        ap (λ (t : Spec). Visited.Went (begun t st.whole start)) by.same_spec
        ∙ ap (λ n. Visited.Went (attempt_of (record (begun_state st) { pending = n ∷ [] }) start)) (first-at s.bodies st.root b.root);
  }

  module _ (greatest number : ℕ) (before now : SessionState) (middle used : ℕ) (answer : Stepped) (told : Option (ℕ → Option Bool)) (is_told : told ≡ Some bits) (way : IsUnderWay s F table greatest bits start number before middle) (exact : IsVisitByBits s F table told before middle answer now used) (some : answer ≢ OutOfMemory) (steady : answer ≢ ReadFault) where
    no-place : (a : Stepped) → a ≢ ReadFault → visit_fault_place a used ≡ None
    no-place Moved h = refl
    no-place Made h = refl
    no-place Overshot h = refl
    no-place (Straddles node cell) h = refl
    no-place Ended h = refl
    no-place ReadFault h = absurd (h refl)
    no-place OutOfMemory h = refl

    -- the answer is that of the next visit
    told-next : (c : Chooser) → ChoosesBy s F table c → visits c (bit_of bits None) (suc number) (begun c.spec greatest start) ≡ told_visit answer now used
    told-next c by =
        let have = subst (λ o. IfSome o (λ bs. HasBits bs middle exact.given)) is_told exact.gave.are_told in
        let ends = subst (λ o. IfSome o (EndsThere answer used)) is_told exact.ended in
        let v = (exact.exact bits have ends c by).same some in
        ap (visited_next c (bit_of bits None)) (way.visited c by)
        ∙ ap (λ place. visit c (bit_of bits place) (attempt_of before middle)) (sym (no-place answer steady))
        ∙ sym v

    pub way-goes : told_visit answer now used ≡ Visited.Went (attempt_of now used) → (next : ℕ) → next ≡ number + 1 → IsUnderWay s F table greatest bits start next now used
    way-goes goes next is = record {
      visited = λ c by. ap (λ n. visits c (bit_of bits None) n (begun c.spec greatest start)) (let z : next ≡ suc number = omega arith in z) ∙ told-next c by ∙ goes;
    }

    pub way-made : told_visit answer now used ≡ Visited.Went (attempt_of now used) → now.pending ≡ [] → IsMadeByTable s F table greatest bits start (attempt_of now used)
    way-made goes none = record { made_so = λ c by. record { number = suc number; comes = told-next c by ∙ goes; rests = none } }

    never : (v : Visited) → told_visit answer now used ≡ v → ((c : Chooser) → visited_next c (bit_of bits None) v ≡ v) → ((a : Attempt) → v ≢ Visited.Went a) → IsNeverMade s F table greatest bits start
    never v is rests differs = record {
      never = λ c by made h.
          differs made (rest-one c (bit_of bits None) (begun c.spec greatest start) (suc number) h.number v (Visited.Went made) (told-next c by ∙ is) (rests c) h.comes (made-rests c (bit_of bits None) made h.rests));
    }

    -- no attempt is made where the visit was over, or stopped
    never-by : (a : Stepped) → answer ≡ a → a ≢ Moved → a ≢ Made → IsNeverMade s F table greatest bits start
    never-by Moved is moved made = absurd (moved refl)
    never-by Made is moved made = absurd (made refl)
    never-by Overshot is moved made = never (Visited.Over (attempt_of now used)) (ap (λ a. told_visit a now used) is) (λ c. refl) (λ a e. let no : ⊥ = cc in no)
    never-by (Straddles node cell) is moved made = never (Visited.Straddled node.0 cell) (ap (λ a. told_visit a now used) is) (λ c. refl) (λ a e. let no : ⊥ = cc in no)
    never-by Ended is moved made = never (Visited.Ended used) (ap (λ a. told_visit a now used) is) (λ c. refl) (λ a e. let no : ⊥ = cc in no)
    never-by ReadFault is moved made = absurd (steady is)
    never-by OutOfMemory is moved made = absurd (some is)

    pub way-never : answer ≢ Moved → answer ≢ Made → IsNeverMade s F table greatest bits start
    way-never moved made = never-by answer refl moved made
