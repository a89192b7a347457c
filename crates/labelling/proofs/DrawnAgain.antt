-- Labels are drawn again from the bits that their cells spell.
use Rattle.std.proofs.Common.{◌≡◌, ℕ, zero, suc, ◌+◌, arith, Bool, List, [], ◌∷◌, ◌++◌, length, append-nil, append_assoc, length-append, refl, sym, ◌∙◌, ap, subst}
use Rattle.std.specs.Prelude.{Option, None, remove, slice_index}
use Rattle.bz_model.specs.declared.cell.Cell.{Cell}
use Rattle.bz_model.specs.Cell.{bits_of, spelled}
use Rattle.bz_model.specs.Labels.{numbers_from}
use Rattle.bit_tape.specs.Given.{HasBits}
use Rattle.bit_tape.proofs.GivenBits.{has_bits-first, has_bits-more}
use Rattle.choice_draw.specs.Decision.{whole_decision}
use Rattle.choice_draw.specs.Draw.{Draw, bit_of, draw}
use Rattle.choice_draw.proofs.LeastCells.{bits-length, draws_least}
use Rattle.choice_draw.proofs.LeastDrawn.{least_is_drawn}
use Rattle.labelling.specs.LabelsByBits.{Labelling, labels_from, labelling}
use Rattle.labelling.specs.Spelled.{LabelsAreDrawnAgain}

-- a number that was drawn is drawn again, wherever a tape has its cell's bits
pub drawn-again : {A : Type 0} (decide : Cell → Option A) (bits : ℕ → Option Bool) (fault : Option ℕ) (start : ℕ) (answer : A) (cell : Cell) → draw decide (bit_of bits fault) start ≡ Draw.Decided answer cell → (other : ℕ → Option Bool) (place : ℕ) → HasBits other place (bits_of cell.b cell.k) → draw decide (bit_of other None) place ≡ Draw.Decided answer cell
drawn-again decide bits fault start answer cell drew other place have =
    let least = draws_least decide bits fault start answer cell drew in
    least_is_drawn decide other None place answer cell (record { is_cell = least.is_cell; spells = have; decides = least.decides; none_before = least.none_before }) tt

-- the bits of a cell, and those of further cells
pub first-cell : (other : ℕ → Option Bool) (place : ℕ) (cell : Cell) (more : List Cell) → HasBits other place (spelled (cell ∷ more)) → HasBits other place (bits_of cell.b cell.k)
first-cell other place cell more have = has_bits-first other place (bits_of cell.b cell.k) (spelled more) have

pub further-cells : (other : ℕ → Option Bool) (place : ℕ) (cell : Cell) (more : List Cell) → HasBits other place (spelled (cell ∷ more)) → HasBits other (place + cell.b) (spelled more)
further-cells other place cell more have = subst (λ n. HasBits other (place + n) (spelled more)) (bits-length cell.b cell.k) (has_bits-more other place (bits_of cell.b cell.k) (spelled more) have)

-- Cells spell as many bits as the first of them has, and as many more as the others spell.
pub spelled-length : (cell : Cell) (more : List Cell) → length (spelled (cell ∷ more)) ≡ cell.b + length (spelled more)
spelled-length cell more = length-append (bits_of cell.b cell.k) (spelled more) ∙ ap (λ n. n + length (spelled more)) (bits-length cell.b cell.k)

-- The cells drawn are further ones after those before, and the labels come again from their bits.
record ComesAgain (n : ℕ) (remaining given : List ℕ) (cells : List Cell) (labels : List ℕ) (all : List Cell) : Type 0 where
  more : List Cell
  whole : all ≡ cells ++ more
  again : (other : ℕ → Option Bool) (place : ℕ) → HasBits other place (spelled more) → labels_from (bit_of other None) n remaining given cells place ≡ Labelling.Given labels all (place + length (spelled more))

module _ (bits : ℕ → Option Bool) (fault : Option ℕ) (labels : List ℕ) (all : List Cell) (end : ℕ) where
  -- a labelling goes on after a number
  goes_on : (tape : ℕ → Option Bool) (fails : Option ℕ) (n : ℕ) (remaining given : List ℕ) (cells : List Cell) (place : ℕ) → Draw ℕ → Labelling
  goes_on tape fails n remaining given cells place d = elim d as (λ _. Labelling) [
    | Draw.Decided i cell ↦ labels_from (bit_of tape fails) (suc n) (remove remaining i) (given ++ slice_index remaining i ∷ []) (cells ++ cell ∷ []) (place + cell.b)
    | Draw.Straddled cell ↦ Labelling.Straddled (suc (suc n)) cell cells (place + cell.b)
    | Draw.Ended stop ↦ Labelling.Ended cells stop
    | Draw.Failed stop ↦ Labelling.Failed cells stop
  ]

  unfolds : (tape : ℕ → Option Bool) (fails : Option ℕ) (n : ℕ) (remaining given : List ℕ) (cells : List Cell) (place : ℕ) → labels_from (bit_of tape fails) (suc (suc n)) remaining given cells place ≡ goes_on tape fails n remaining given cells place (draw (whole_decision (suc (suc n))) (bit_of tape fails) place)
  unfolding goes_on
  unfolds tape fails n remaining given cells place = refl

  Rest : (n : ℕ) → Type 0
  Rest n = (remaining given : List ℕ) (cells : List Cell) (place : ℕ) → labels_from (bit_of bits fault) n remaining given cells place ≡ Labelling.Given labels all end → ComesAgain n remaining given cells labels all

  -- with no number to draw
  done : (n : ℕ) (remaining given : List ℕ) (cells : List Cell) (labels_now : List ℕ) (place : ℕ) → ((tape : ℕ → Option Bool) (fails : Option ℕ) (at : ℕ) → labels_from (bit_of tape fails) n remaining given cells at ≡ Labelling.Given labels_now cells at) → Labelling.Given labels_now cells place ≡ Labelling.Given labels all end → ComesAgain n remaining given cells labels all
  done n remaining given cells labels_now place is e =
      let same_labels : labels_now ≡ labels = cc in
      let same_cells : cells ≡ all = cc in
      record {
        more = [];
        whole = sym same_cells ∙ sym (append-nil cells);
        again = λ other at have. is other None at ∙ ap (λ ls. Labelling.Given ls cells at) same_labels ∙ ap (λ cs. Labelling.Given labels cs at) same_cells ∙ ap (Labelling.Given labels all) (let z : at ≡ at + 0 = omega arith in z);
      }

  one-more : (n : ℕ) (remaining given : List ℕ) (cells : List Cell) (place i : ℕ) (cell : Cell) → draw (whole_decision (suc (suc n))) (bit_of bits fault) place ≡ Draw.Decided i cell → ComesAgain (suc n) (remove remaining i) (given ++ slice_index remaining i ∷ []) (cells ++ cell ∷ []) labels all → ComesAgain (suc (suc n)) remaining given cells labels all
  unfolding goes_on
  one-more n remaining given cells place i cell drew rest = record {
    more = cell ∷ rest.more;
    whole = rest.whole ∙ append_assoc cells (cell ∷ []) rest.more;
    again = λ other at have.
        unfolds other None n remaining given cells at
        ∙ ap (goes_on other None n remaining given cells at) (drawn-again (whole_decision (suc (suc n))) bits fault place i cell drew other at (first-cell other at cell rest.more have))
        ∙ rest.again other (at + cell.b) (further-cells other at cell rest.more have)
        ∙ ap (Labelling.Given labels all) (let l = spelled-length cell rest.more in let e : at + cell.b + length (spelled rest.more) ≡ at + length (spelled (cell ∷ rest.more)) = omega (arith, l) in e);
  }

  after-draw : (n : ℕ) (remaining given : List ℕ) (cells : List Cell) (place : ℕ) (d : Draw ℕ) → Rest (suc n) → draw (whole_decision (suc (suc n))) (bit_of bits fault) place ≡ d → goes_on bits fault n remaining given cells place d ≡ Labelling.Given labels all end → ComesAgain (suc (suc n)) remaining given cells labels all
  unfolding goes_on Rest
  after-draw n remaining given cells place (Draw.Decided i cell) rest drew e = one-more n remaining given cells place i cell drew (rest (remove remaining i) (given ++ slice_index remaining i ∷ []) (cells ++ cell ∷ []) (place + cell.b) e)
  after-draw n remaining given cells place (Draw.Straddled cell) rest drew e = let no : ⊥ = cc in absurd no
  after-draw n remaining given cells place (Draw.Ended stop) rest drew e = let no : ⊥ = cc in absurd no
  after-draw n remaining given cells place (Draw.Failed stop) rest drew e = let no : ⊥ = cc in absurd no

  comes-from : (n : ℕ) → Rest n
  unfolding Rest
  comes-from zero remaining given cells place e = done zero remaining given cells given place (λ tape fails at. refl) e
  comes-from (suc zero) remaining given cells place e = done (suc zero) remaining given cells (given ++ remaining) place (λ tape fails at. refl) e
  comes-from (suc (suc n)) remaining given cells place e = after-draw n remaining given cells place (draw (whole_decision (suc (suc n))) (bit_of bits fault) place) (comes-from (suc n)) refl (sym (unfolds bits fault n remaining given cells place) ∙ e)

  comes : (n start : ℕ) → labelling (bit_of bits fault) n start ≡ Labelling.Given labels all end → ComesAgain n (numbers_from 1 n) [] [] labels all
  unfolding Rest
  comes n start e = comes-from n (numbers_from 1 n) [] [] start e

-- Wherever a tape has the bits that a labelling's cells spell, it gives the same labels with the
-- same cells from there on.
pub labels_are_drawn_again : LabelsAreDrawnAgain
labels_are_drawn_again bits fault n start labels cells end e other place have =
    let h = comes bits fault labels cells end n start e in
    let same : cells ≡ h.more = h.whole in
    h.again other place (subst (λ cs. HasBits other place (spelled cs)) same have) ∙ ap (λ cs. Labelling.Given labels cells (place + length (spelled cs))) (sym same)
