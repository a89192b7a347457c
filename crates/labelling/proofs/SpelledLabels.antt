-- The bits that a labelling used are those that its cells spell.
use Rattle.std.proofs.Common.{◌≡◌, ℕ, zero, suc, ◌+◌, arith, Bool, List, [], ◌∷◌, ◌++◌, length, append-nil, append_assoc, length-append, refl, sym, ◌∙◌, ap, subst}
use Rattle.std.specs.Prelude.{Option, remove, slice_index}
use Rattle.bz_model.specs.declared.cell.Cell.{Cell}
use Rattle.bz_model.specs.Cell.{IsCell, bits_of, spelled}
use Rattle.bz_model.specs.Labels.{numbers_from}
use Rattle.bz_model.proofs.CellLists.{cells_append}
use Rattle.bit_tape.specs.Given.{HasBits}
use Rattle.bit_tape.proofs.GivenBits.{has_bits-append}
use Rattle.choice_draw.specs.Decision.{whole_decision}
use Rattle.choice_draw.specs.Draw.{Draw, bit_of, draw}
use Rattle.choice_draw.specs.LeastCell.{AreBetween, SpellsDraw}
use Rattle.choice_draw.proofs.LeastCells.{bits-length}
use Rattle.choice_draw.proofs.SpelledDraws.{draws_spell}
use Rattle.labelling.specs.LabelsByBits.{Labelling, labels_from}
use Rattle.labelling.specs.Spelled.{AreSpelled, AreCutShort, SpellsLabelling, LabellingsSpell}

-- Two lists of cells one after the other spell the bits of the first, followed by those of the
-- second.
pub spelled-both : (cs ds : List Cell) → spelled (cs ++ ds) ≡ spelled cs ++ spelled ds
spelled-both [] ds = refl
spelled-both (c ∷ cs) ds = ap (λ bs. bits_of c.b c.k ++ bs) (spelled-both cs ds) ∙ sym (append_assoc (bits_of c.b c.k) (spelled cs) (spelled ds))

module _ (bits : ℕ → Option Bool) where
  -- no cell was drawn yet
  pub spelled-none : (start : ℕ) → AreSpelled bits start [] [] start
  spelled-none start = record { here = tt; up_to = omega arith; each = tt }

  -- one cell
  pub spelled-one : (start : ℕ) (cell : Cell) → HasBits bits start (bits_of cell.b cell.k) → IsCell cell.k cell.b → AreSpelled bits start (cell ∷ []) [] (start + cell.b)
  spelled-one start cell here is_cell =
      let alone : (bits_of cell.b cell.k ++ []) ++ [] ≡ bits_of cell.b cell.k = append-nil (bits_of cell.b cell.k ++ []) ∙ append-nil (bits_of cell.b cell.k) in
      record { here = subst (HasBits bits start) (sym alone) here; up_to = ap (λ n. start + n) (sym (ap (λ bs. length bs) alone ∙ bits-length cell.b cell.k)); each = (is_cell, tt) }

  -- the bits of an open number alone
  pub spelled-open : (start : ℕ) (more : List Bool) (place : ℕ) → HasBits bits start more → place ≡ start + length more → AreSpelled bits start [] more place
  spelled-open start more place here up_to = record { here = here; up_to = up_to; each = tt }

  -- the bits of the open number with a cell that straddles
  pub spelled-cell : (start : ℕ) (cell : Cell) → HasBits bits start (bits_of cell.b cell.k) → AreSpelled bits start [] (bits_of cell.b cell.k) (start + cell.b)
  spelled-cell start cell here = spelled-open start (bits_of cell.b cell.k) (start + cell.b) here (ap (λ n. start + n) (sym (bits-length cell.b cell.k)))

  -- cells, and further cells
  pub spelled-then : (start middle place : ℕ) (cells more : List Cell) (open_bits : List Bool) → AreSpelled bits start cells [] middle → AreSpelled bits middle more open_bits place → AreSpelled bits start (cells ++ more) open_bits place
  spelled-then start middle place cells more open_bits one two =
      let first : spelled cells ++ [] ≡ spelled cells = append-nil (spelled cells) in
      let all : spelled (cells ++ more) ++ open_bits ≡ spelled cells ++ (spelled more ++ open_bits) = ap (λ bs. bs ++ open_bits) (spelled-both cells more) ∙ append_assoc (spelled cells) (spelled more) open_bits in
      let at : middle ≡ start + length (spelled cells) = one.up_to ∙ ap (λ bs. start + length bs) first in
      let ends = two.up_to in
      let count = length-append (spelled cells) (spelled more ++ open_bits) in
      record {
        here = subst (HasBits bits start) (sym all) (has_bits-append bits start (spelled cells) (spelled more ++ open_bits) (subst (HasBits bits start) first one.here) (subst (λ n. HasBits bits n (spelled more ++ open_bits)) at two.here));
        up_to = (let e : place ≡ start + length (spelled cells ++ (spelled more ++ open_bits)) = omega (arith, at, ends, count) in e) ∙ ap (λ bs. start + length bs) (sym all);
        each = cells_append cells more one.each two.each;
      }

module _ (bits : ℕ → Option Bool) (fault : Option ℕ) (start : ℕ) where
  -- the labelling goes on with one number less
  goes_on : (n : ℕ) (remaining given : List ℕ) (cells : List Cell) (place : ℕ) → Draw ℕ → Labelling
  goes_on n remaining given cells place d = elim d as (λ _. Labelling) [
    | Draw.Decided i cell ↦ labels_from (bit_of bits fault) (suc n) (remove remaining i) (given ++ slice_index remaining i ∷ []) (cells ++ cell ∷ []) (place + cell.b)
    | Draw.Straddled cell ↦ Labelling.Straddled (suc (suc n)) cell cells (place + cell.b)
    | Draw.Ended end ↦ Labelling.Ended cells end
    | Draw.Failed end ↦ Labelling.Failed cells end
  ]

  unfolds : (n : ℕ) (remaining given : List ℕ) (cells : List Cell) (place : ℕ) → labels_from (bit_of bits fault) (suc (suc n)) remaining given cells place ≡ goes_on n remaining given cells place (draw (whole_decision (suc (suc n))) (bit_of bits fault) place)
  unfolding goes_on
  unfolds n remaining given cells place = refl

  -- the cells so far, and those of one number more
  one-more : (cells : List Cell) (place : ℕ) (cell : Cell) → AreSpelled bits start cells [] place → HasBits bits place (bits_of cell.b cell.k) → IsCell cell.k cell.b → AreSpelled bits start (cells ++ cell ∷ []) [] (place + cell.b)
  one-more cells place cell h here is_cell = spelled-then bits start place (place + cell.b) cells (cell ∷ []) [] h (spelled-one bits place cell here is_cell)

  -- or of one that is left open
  all-of : (cells : List Cell) → cells ++ [] ≡ cells
  all-of cells = append-nil cells

  left-open : (cells : List Cell) (place end : ℕ) (open_bits : List Bool) → AreSpelled bits start cells [] place → AreSpelled bits place [] open_bits end → AreSpelled bits start cells open_bits end
  left-open cells place end open_bits h more = subst (λ cs. AreSpelled bits start cs open_bits end) (all-of cells) (spelled-then bits start place end cells [] open_bits h more)

  cut-short : (cells : List Cell) (place end : ℕ) → AreSpelled bits start cells [] place → AreBetween bits place end → AreCutShort bits start cells end
  cut-short cells place end h more = record { open_bits = more.between; few = more.few; spelled_there = left-open cells place end more.between h (spelled-open bits place more.between end more.here more.up_to) }

  -- what is left of a labelling of so many atoms spells the bits
  Rest : (n : ℕ) → Type 0
  Rest n = (remaining given : List ℕ) (cells : List Cell) (place : ℕ) → AreSpelled bits start cells [] place → SpellsLabelling bits start (labels_from (bit_of bits fault) n remaining given cells place)

  number-spells : (n : ℕ) (remaining given : List ℕ) (cells : List Cell) (place : ℕ) (d : Draw ℕ) → Rest (suc n) → AreSpelled bits start cells [] place → SpellsDraw bits place d → SpellsLabelling bits start (goes_on n remaining given cells place d)
  unfolding goes_on Rest
  number-spells n remaining given cells place (Draw.Decided i cell) rest h drawn = rest (remove remaining i) (given ++ slice_index remaining i ∷ []) (cells ++ cell ∷ []) (place + cell.b) (one-more cells place cell h drawn.0 drawn.1)
  number-spells n remaining given cells place (Draw.Straddled cell) rest h drawn = (left-open cells place (place + cell.b) (bits_of cell.b cell.k) h (spelled-cell bits place cell drawn.0), drawn.2)
  number-spells n remaining given cells place (Draw.Ended end) rest h drawn = cut-short cells place end h drawn
  number-spells n remaining given cells place (Draw.Failed end) rest h drawn = cut-short cells place end h drawn

  from-spells : (n : ℕ) → Rest n
  unfolding Rest
  from-spells zero remaining given cells place h = h
  from-spells (suc zero) remaining given cells place h = h
  from-spells (suc (suc n)) remaining given cells place h =
      subst (SpellsLabelling bits start) (sym (unfolds n remaining given cells place))
      (number-spells n remaining given cells place (draw (whole_decision (suc (suc n))) (bit_of bits fault) place) (from-spells (suc n)) h (draws_spell (whole_decision (suc (suc n))) bits fault place))

-- Every labelling over a tape used the bits that its cells spell, wherever the shelf may fail.
pub labellings_spell : LabellingsSpell
unfolding Rest
labellings_spell bits fault n start = from-spells bits fault start n (numbers_from 1 n) [] [] start (spelled-none bits start)
