-- Labels that bits give are ideal: a labelling that gives all labels stands for the ideal labelling, for all numbers of its cells.
use Rattle.std.proofs.Common.{◌≡◌, ℕ, Bool, true, false, cond, zero, suc, ◌+◌, ◌*◌, ◌/◌, ◌^◌, ◌<◌, ◌≤◌, List, [], ◌∷◌, ◌++◌, length, Some, None, refl, sym, ◌∙◌, ap, subst, arith, append-nil}
use Rattle.std.specs.Prelude.{nat_le}
use Rattle.std.proofs.Math.Nat.{mul-lt-mul_of_pos_right}
use Rattle.std.proofs.lemmas.Bool.{leb-true}
use Rattle.std.proofs.lemmas.Nat.{pow_pos, div_below}
use Rattle.std.proofs.lemmas.List.Edits.{length-remove}
use Rattle.bz_model.specs.declared.cell.Cell.{Cell}
use Rattle.bz_model.specs.Cell.{IsCell}
use Rattle.bz_model.specs.Labels.{numbers_from}
use Rattle.choice_draw.specs.Decision.{whole_decision}
use Rattle.choice_draw.specs.Draw.{Bit, Draw, draw}
use Rattle.choice_draw.specs.Whole.{Decides}
use Rattle.choice_draw.proofs.WholeNumbers.{decides-begin}
use Rattle.labelling.specs.Answer.{AreIdealLabels}
use Rattle.labelling.specs.LabelsByBits.{Labelling, labels_from, labelling}
use Rattle.labelling.specs.Progress.{ProgressState, one_given}
use Rattle.labelling.proofs.DrawDecided.{draw-decided}
use Rattle.labelling.proofs.LabelsOn.{after_number, unfolds}
use Rattle.labelling.proofs.Naming.{NamesIdeally, names-first, names-on, names-done}
use Rattle.labelling.proofs.Numbers.{length-numbers}

-- A whole number below m that is decided is that of each number of the cell.
record IsWhole (m i : ℕ) (cell : Cell) : Type 0 where
  decides : Decides cell.k cell.b m i
  below : i < m

whole-if : (m i : ℕ) (cell : Cell) (test : Bool) → 0 < m → IsCell cell.k cell.b → nat_le (suc cell.k * m) (suc (cell.k * m / 2 ^ cell.b) * 2 ^ cell.b) ≡ test → cond test (Some (cell.k * m / 2 ^ cell.b)) None ≡ Some i → IsWhole m i cell
whole-if m i cell false some is_cell test e = let none : ⊥ = cc in absurd none
whole-if m i cell true some is_cell test e =
    let same : cell.k * m / 2 ^ cell.b ≡ i = cc in
    let less : cell.k * m < 2 ^ cell.b * m = mul-lt-mul_of_pos_right is_cell.below some in
    let below : cell.k * m < m * 2 ^ cell.b = omega arith in
    subst (λ j. IsWhole m j cell) same (record {
      decides = decides-begin cell.k cell.b m some (leb-true (suc cell.k * m) (suc (cell.k * m / 2 ^ cell.b) * 2 ^ cell.b) test);
      below = div_below (cell.k * m) (2 ^ cell.b) m (pow_pos cell.b) below;
    })

module _ (bit : ℕ → Bit) (n : ℕ) (labels : List ℕ) (cells : List Cell) (end : ℕ) where
  gives-last : (p : ProgressState) (given : List ℕ) (place : ℕ) → NamesIdeally n p → length p.remaining ≤ 1 → given ≡ p.given ++ p.remaining → Labelling.Given given p.cells place ≡ Labelling.Given labels cells end → AreIdealLabels n labels cells
  gives-last p given place before few all e =
      let same_labels : given ≡ labels = cc in
      let same_cells : p.cells ≡ cells = cc in
      subst (λ ls. AreIdealLabels n ls cells) (sym all ∙ same_labels) (subst (λ cs. AreIdealLabels n (p.given ++ p.remaining) cs) same_cells (names-done n p before few))

  gives-after : (k : ℕ) (p : ProgressState) (place : ℕ) (drawn : Draw ℕ) → ((q : ProgressState) (at : ℕ) → NamesIdeally n q → length q.remaining ≡ suc k → labels_from bit (suc k) q.remaining q.given q.cells at ≡ Labelling.Given labels cells end → AreIdealLabels n labels cells)
      → NamesIdeally n p → length p.remaining ≡ suc (suc k) → draw (whole_decision (suc (suc k))) bit place ≡ drawn → after_number bit k p place drawn ≡ Labelling.Given labels cells end → AreIdealLabels n labels cells
  unfolding after_number
  gives-after k p place (Draw.Decided i cell) on before count drawn e =
      let d = draw-decided (whole_decision (suc (suc k))) bit i cell place drawn in
      let w = whole-if (suc (suc k)) i cell (nat_le (suc cell.k * suc (suc k)) (suc (cell.k * suc (suc k) / 2 ^ cell.b) * 2 ^ cell.b)) (omega arith) d.is_cell refl d.decided in
      let below : i < suc (suc k) = w.below in
      let taken = length-remove p.remaining i (omega arith) in
      on (one_given p i cell) (place + cell.b) (names-on n (suc (suc k)) i p cell before count (omega arith) below w.decides) (omega arith) e
  gives-after k p place (Draw.Straddled cell) on before count drawn e = let none : ⊥ = cc in absurd none
  gives-after k p place (Draw.Ended end') on before count drawn e = let none : ⊥ = cc in absurd none
  gives-after k p place (Draw.Failed end') on before count drawn e = let none : ⊥ = cc in absurd none

  none-left : (xs : List ℕ) → length xs ≡ 0 → xs ≡ []
  none-left [] none = refl
  none-left (x ∷ xs) none = absurd (cc)

  gives-from : (m : ℕ) (p : ProgressState) (place : ℕ) → NamesIdeally n p → length p.remaining ≡ m → labels_from bit m p.remaining p.given p.cells place ≡ Labelling.Given labels cells end → AreIdealLabels n labels cells
  gives-from zero p place before count e = gives-last p p.given place before (omega arith) (sym (ap (λ xs. p.given ++ xs) (none-left p.remaining count) ∙ append-nil p.given)) e
  gives-from (suc zero) p place before count e = gives-last p (p.given ++ p.remaining) place before (omega arith) refl e
  gives-from (suc (suc k)) p place before count e = gives-after k p place (draw (whole_decision (suc (suc k))) bit place) (gives-from (suc k)) before count refl (sym (unfolds bit k p place) ∙ e)

-- a labelling by bits that gives all labels gives ideal ones
pub labels-ideal : (bit : ℕ → Bit) (n place : ℕ) (labels : List ℕ) (cells : List Cell) (end : ℕ) → labelling bit n place ≡ Labelling.Given labels cells end → AreIdealLabels n labels cells
labels-ideal bit n place labels cells end e = gives-from bit n labels cells end n (record { remaining = numbers_from 1 n; given = []; cells = [] }) place (names-first n) (length-numbers 1 n) e
