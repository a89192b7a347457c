-- Draws: bits are taken from a tape until a cell decides.
use Rattle.std.specs.Prelude.{ℕ, zero, suc, ◌+◌, ◌*◌, Bool, true, false, nat_lt, Option, Some, None}
use Rattle.std.specs.Prelude.{if◌then◌else◌}
use Rattle.bz_model.specs.declared.cell.Cell.{Cell}

-- A tape answers with a bit, that it ended, or that its shelf failed.
pub data Bit : Type 0 where
  Given : (bit : Bool) → Bit
  Ended : Bit
  Failed : Bit

-- A draw ends with an answer and its cell, with a cell of 60 bits that straddles, or before an
-- answer, where the tape ended or its shelf failed, the bits up to a place being used.
pub data Draw (A : Type 0) : Type 0 where
  Decided : A → Cell → Draw A
  Straddled : Cell → Draw A
  Ended : (place : ℕ) → Draw A
  Failed : (place : ℕ) → Draw A

-- The bit that a tape has at a place, if it has one.
abbrev pub bit_or_end : Option Bool → Bit
bit_or_end None = Bit.Ended
bit_or_end (Some bit) = Bit.Given bit

-- The tape's answer at a place, where the shelf fails at the place `fault`, if there is one.
abbrev pub bit_of : (tape : ℕ → Option Bool) → (fault : Option ℕ) → (place : ℕ) → Bit
bit_of tape None place = bit_or_end (tape place)
bit_of tape (Some fault) place = if nat_lt place fault then bit_or_end (tape place) else Bit.Failed

-- A bit as a number.
abbrev pub bit_number : Bool → ℕ
bit_number true = 1
bit_number false = 0

-- The half of a cell that one more bit names.
abbrev pub halved : Cell → (bit : Bool) → Cell
halved cell bit = record { k = 2 * cell.k + bit_number bit; b = suc cell.b }

-- The draw that takes at most n more bits, the next of them at the place.
abbrev pub draw_from : {A : Type 0} → (decide : Cell → Option A) → (bit : ℕ → Bit) → (n : ℕ) → Cell
    → (place : ℕ) → Draw A
draw_from decide bit zero cell place = Draw.Straddled cell
draw_from decide bit (suc n) cell place = elim (bit place) [
  | Given v ↦ elim (decide (halved cell v)) [
    | None ↦ draw_from decide bit n (halved cell v) (suc place)
    | Some answer ↦ Draw.Decided answer (halved cell v)
  ]
  | Ended ↦ Draw.Ended place
  | Failed ↦ Draw.Failed place
]

-- A draw whose first bit is at the place: it takes the least number of bits, at most 60, at which
-- its cell decides.
abbrev pub draw : {A : Type 0} → (decide : Cell → Option A) → (bit : ℕ → Bit) → (place : ℕ) → Draw A
draw decide bit place = draw_from decide bit 60 (record { k = 0; b = 0 }) place
