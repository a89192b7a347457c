-- Which whole number a cell decides, and what bits that are read ahead show of one.
use Rattle.std.specs.Prelude.{◌≡◌, ℕ, ◌-◌, ◌/◌, ◌^◌, ◌<◌, ◌≤◌, Option, None, IfNone}
use Rattle.bz_model.specs.declared.cell.Cell.{Cell}
use Rattle.bz_model.specs.Fraction.{Fraction, floor_times}
use Rattle.bz_model.specs.Cell.{IsInCell}
use Rattle.choice_draw.specs.Decision.{whole_decision}

-- Every number u of the cell (k, b) has i as the whole number below or at u times m.
abbrev pub Decides : (k b m i : ℕ) → Type 0
Decides k b m i = (u : Fraction) → IsInCell k b u → floor_times u m ≡ i

-- The cell of the first b of sixteen bits.
abbrev pub peeked_cell : (word b : ℕ) → Cell
peeked_cell word b = record { k = word / 2 ^ (16 - b); b = b }

-- What the first n of sixteen bits show of a whole number below m: the cell of the least number of
-- them that decides one, and which, or the cell of all of them where none does.
pub record IsSeen (m word n : ℕ) (cell : Cell) (value : Option ℕ) : Type 0 where
  pub first : cell ≡ peeked_cell word cell.b
  pub held : cell.b ≤ n
  pub exact : value ≡ whole_decision m cell
  pub none_before : (b : ℕ) → b < cell.b → whole_decision m (peeked_cell word b) ≡ None
  pub all : IfNone value (cell.b ≡ n)
