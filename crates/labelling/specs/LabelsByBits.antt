-- A labelling as a function of the tape's bits: the numbers that it draws, the labels that they
-- name, and how it ends.
use Rattle.std.specs.Prelude.{ℕ, zero, suc, ◌+◌, List, [], ◌∷◌, ◌++◌, map, sum, remove, slice_index}
use Rattle.bz_model.specs.declared.cell.Cell.{Cell}
use Rattle.bz_model.specs.Labels.{numbers_from}
use Rattle.choice_draw.specs.Decision.{whole_decision}
use Rattle.choice_draw.specs.Draw.{Bit, Draw, draw}

-- A labelling gives all labels, or is cut short: where 60 bits decide no whole number below m,
-- where the tape ends, or where its shelf fails. Told are the cells of the numbers finished, and
-- the place up to which the bits are used.
pub data Labelling : Type 0 where
  Given : (labels : List ℕ) → (cells : List Cell) → (place : ℕ) → Labelling
  Straddled : (m : ℕ) → Cell → (cells : List Cell) → (place : ℕ) → Labelling
  Ended : (cells : List Cell) → (place : ℕ) → Labelling
  Failed : (cells : List Cell) → (place : ℕ) → Labelling

-- The number of bits that cells spell.
abbrev pub bits_in : List Cell → ℕ
bits_in cells = sum (map (λ c. c.b) cells)

-- The labels of n further atoms out of the n remaining labels, least first, after those given
-- before. While two or more remain, a whole number below their number is drawn, and the atom gets
-- the label with so many remaining ones below it. The last atom gets the label left, without a
-- number.
abbrev pub labels_from : (bit : ℕ → Bit) → (n : ℕ) → (remaining given : List ℕ)
    → (cells : List Cell) → (place : ℕ) → Labelling
labels_from bit zero remaining given cells place = Labelling.Given given cells place
labels_from bit (suc zero) remaining given cells place =
    Labelling.Given (given ++ remaining) cells place
labels_from bit (suc (suc n)) remaining given cells place =
    elim (draw (whole_decision (suc (suc n))) bit place) [
      | Draw.Decided i cell ↦ labels_from bit (suc n) (remove remaining i)
          (given ++ slice_index remaining i ∷ []) (cells ++ cell ∷ []) (place + cell.b)
      | Draw.Straddled cell ↦ Labelling.Straddled (suc (suc n)) cell cells (place + cell.b)
      | Draw.Ended end ↦ Labelling.Ended cells end
      | Draw.Failed end ↦ Labelling.Failed cells end
    ]

-- The labelling of n atoms whose first bit is at the place.
abbrev pub labelling : (bit : ℕ → Bit) → (n place : ℕ) → Labelling
labelling bit n place = labels_from bit n (numbers_from 1 n) [] [] place
