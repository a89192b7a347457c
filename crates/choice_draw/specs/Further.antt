-- Cells of further bits.
use Rattle.std.specs.Prelude.{ℕ, ◌+◌, ◌-◌, ◌*◌, ◌/◌, ◌^◌}
use Rattle.bz_model.specs.declared.cell.Cell.{Cell}

-- The cell of a cell's bits and of the first j of sixteen further ones, which are those of a word.
abbrev pub further_cell : Cell → (word j : ℕ) → Cell
further_cell cell word j = record { k = cell.k * 2 ^ j + word / 2 ^ (16 - j); b = cell.b + j }
