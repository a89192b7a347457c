-- A labelling under way.
use Rattle.std.specs.Prelude.{ℕ, List, [], ◌∷◌, ◌++◌, remove, slice_index}
use Rattle.bz_model.specs.declared.cell.Cell.{Cell}

-- These labels remain, least first; these were given to the first atoms, in order; and these are
-- the cells of the numbers drawn for them.
pub record ProgressState : Type 0 where
  pub remaining : List ℕ
  pub given : List ℕ
  pub cells : List Cell

-- The next atom got the label with i remaining labels below it, by the number in the cell.
abbrev pub one_given : ProgressState → (i : ℕ) → Cell → ProgressState
one_given p i cell = record {
  remaining = remove p.remaining i;
  given =
      p.given ++ slice_index p.remaining i ∷ [];
  cells = p.cells ++ cell ∷ [];
}
