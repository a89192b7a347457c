-- The cell of the least number of bits that decides, and the bits that a draw spells.
use Rattle.std.specs.Prelude.{◌≡◌, ℕ, ◌+◌, ◌-◌, ◌/◌, ◌^◌, ◌<◌, ◌≤◌, Bool, List, length, Option}
use Rattle.std.specs.Prelude.{Some, None}
use Rattle.bz_model.specs.declared.cell.Cell.{Cell}
use Rattle.bz_model.specs.Cell.{IsCell, bits_of}
use Rattle.bit_tape.specs.Given.{HasBits}
use Rattle.choice_draw.specs.Draw.{Draw, bit_of, draw}

-- The cell of a cell's first b bits.
abbrev pub front_of : Cell → (b : ℕ) → Cell
front_of cell b = record { k = cell.k / 2 ^ (cell.b - b); b = b }

-- A cell is that of the least number of bits that decides: it has from 1 to 60 bits, which are the
-- tape's from the place on; it decides the answer; and the cell of fewer of its bits decides none.
pub record IsLeastCell {A : Type 0} (decide : Cell → Option A) (bits : ℕ → Option Bool) (place : ℕ)
    (answer : A) (cell : Cell) : Type 0 where
  pub is_cell : IsCell cell.k cell.b
  pub spells : HasBits bits place (bits_of cell.b cell.k)
  pub decides : decide cell ≡ Some answer
  pub none_before : (b : ℕ) → 1 ≤ b → b < cell.b → decide (front_of cell b) ≡ None

-- Wherever a draw over a tape decides an answer, and wherever the shelf may fail, its cell is that
-- of the least number of bits that decides.
abbrev pub DrawsLeast : {A : Type 0} → (decide : Cell → Option A) → Type 0
DrawsLeast {A} decide = (bits : ℕ → Option Bool) (fault : Option ℕ) (place : ℕ) (answer : A)
    (cell : Cell) → draw decide (bit_of bits fault) place ≡ Draw.Decided answer cell
    → IsLeastCell decide bits place answer cell

-- The shelf, where it fails at a place, fails at this place or later.
abbrev pub FailsFrom : (place : ℕ) → (fault : Option ℕ) → Type 0
FailsFrom place None = Unit {0}
FailsFrom place (Some fault) = place ≤ fault

-- Wherever a cell is that of the least number of bits that decides, the draw from its place on has
-- its answer and this cell, if the shelf doesn't fail within its bits. So the bits of a cell draw
-- it again, whatever stands before and after them.
abbrev pub LeastIsDrawn : {A : Type 0} → (decide : Cell → Option A) → Type 0
LeastIsDrawn {A} decide = (bits : ℕ → Option Bool) (fault : Option ℕ) (place : ℕ) (answer : A)
    (cell : Cell) → IsLeastCell decide bits place answer cell → FailsFrom (place + cell.b) fault
    → draw decide (bit_of bits fault) place ≡ Draw.Decided answer cell

-- Bits of a tape from one place to another, fewer than 60.
pub record AreBetween (bits : ℕ → Option Bool) (start end : ℕ) : Type 0 where
  pub between : List Bool
  pub few : length between < 60
  pub here : HasBits bits start between
  pub up_to : end ≡ start + length between

-- The bits that a draw used are those of its cell; where it has none, they are fewer than 60.
abbrev pub SpellsDraw : {A : Type 0} → (bits : ℕ → Option Bool) → (start : ℕ) → Draw A → Type 0
SpellsDraw bits start (Draw.Decided answer cell) = HasBits bits start (bits_of cell.b cell.k)
    × IsCell cell.k cell.b
SpellsDraw bits start (Draw.Straddled cell) = HasBits bits start (bits_of cell.b cell.k)
    × IsCell cell.k cell.b × (cell.b ≡ 60)
SpellsDraw bits start (Draw.Ended place) = AreBetween bits start place
SpellsDraw bits start (Draw.Failed place) = AreBetween bits start place

-- Every draw over a tape used the bits that its cell spells, wherever the shelf may fail.
abbrev pub DrawsSpell : {A : Type 0} → (decide : Cell → Option A) → Type 0
DrawsSpell decide = (bits : ℕ → Option Bool) (fault : Option ℕ) (start : ℕ)
    → SpellsDraw bits start (draw decide (bit_of bits fault) start)
