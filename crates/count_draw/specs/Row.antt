-- Rows of kept values: those of the first options, up to a place.
use Rattle.std.specs.Prelude.{◌≡◌, ℕ, ◌<◌, ◌≤◌, false, List, length, slice_index}
use Rattle.fixed_enclosure.specs.Rounded.{Side}
use Rattle.fixed_enclosure.specs.Rounded.Side.{Down, Up}
use Rattle.count_draw.specs.declared.partial_sums.Run.{Run}
use Rattle.count_draw.specs.declared.prefix_sums.LowerRow.{LowerRow}
use Rattle.count_draw.specs.declared.prefix_sums.UpperRow.{UpperRow}
use Rattle.count_draw.specs.Table.{Filling, side_value_at, reaches_at, IsRun}

-- The first values of a side are kept, up to the place of a run of its terms.
pub record AreValuesKept (side : Side) (f : ℕ) (t : Filling) (values : List ℕ)
    (run : Run) : Type 0 where
  pub many : length values ≡ 256
  pub inside : run.place < 256
  pub stands : IsRun side f t run.place run.power run.sum
  pub at : (i : ℕ) → i ≤ run.place → slice_index values i ≡ side_value_at side f t i

-- A row keeps lower values, and a run of the lower terms that stands further on.
pub record IsLowerRow (f : ℕ) (t : Filling) (row : LowerRow) : Type 0 where
  pub kept : AreValuesKept Down f t row.values row.run
  pub far : IsRun Down f t row.far.place row.far.power row.far.sum

-- A row keeps upper values.
pub record IsUpperRow (f : ℕ) (t : Filling) (row : UpperRow) : Type 0 where
  pub kept : AreValuesKept Up f t row.values row.run

-- What rows are kept for: the fraction bits and the filling, whose room has no meaning.
pub record RowsKey : Type 0 where
  pub bits : ℕ
  pub filling : Filling

-- A filling with the room left out.
abbrev pub roomless : Filling → Filling
roomless t = record { kind = t.kind; low = t.low; part = t.part; whole = t.whole; room = 0 }

-- Rows are kept for this filling, whatever its room.
pub record AreFor (f : ℕ) (t : Filling) (key : RowsKey) : Type 0 where
  pub bits : key.bits ≡ f
  pub filling : key.filling ≡ roomless t

-- No option up to a place and to the room reaches v.
pub record NoneKept (f : ℕ) (t : Filling) (v place : ℕ) : Type 0 where
  pub upto : (j : ℕ) → t.low ≤ j → j ≤ place → j ≤ t.room → reaches_at f t v j ≡ false
