-- What is said of a draw of any kind of answer, and which draw a drawer's answer tells.
use Rattle.std.specs.Prelude.{◌≡◌, ℕ, ◌+◌, ◌<◌, ◌≤◌, Bool, true, false, List, Option, Some, None}
use Rattle.std.specs.Prelude.{IfSome}
use Rattle.bz_model.specs.declared.cell.Cell.{Cell}
use Rattle.bz_model.specs.Cell.{IsCell}
use Rattle.bit_tape.specs.Given.{HasBits, Gave}
use Rattle.choice_draw.specs.declared.drawn.Drawn.{Drawn}
use Rattle.choice_draw.specs.declared.drawn.Drawn.TheVariants.{Value, Straddles, Ended, ReadFault}
use Rattle.choice_draw.specs.Draw.{Draw, bit_of, draw}

-- The place at which the shelf failed, where that ended the draw.
abbrev pub fault_of : {A : Type 0} → Draw A → Option ℕ
fault_of (Draw.Failed place) = Some place
fault_of _ = None

-- Where the tape's end ended the draw, these bits end at its place.
abbrev pub DrawEndsThere : {A : Type 0} → Draw A → (bits : ℕ → Option Bool) → Type 0
DrawEndsThere (Draw.Ended place) bits = bits place ≡ None
DrawEndsThere _ bits = Unit {0}

-- The cell of a draw is a cell, and one that straddles has 60 bits.
abbrev pub HasCell : {A : Type 0} → Draw A → Type 0
HasCell (Draw.Decided answer cell) = IsCell cell.k cell.b
HasCell (Draw.Straddled cell) = IsCell cell.k cell.b × (cell.b ≡ 60)
HasCell _ = Unit {0}

-- The bits used from the start on are those of the draw's cell; where it has none, they are fewer
-- than 60.
abbrev pub UsesBits : {A : Type 0} → Draw A → (start used : ℕ) → Type 0
UsesBits (Draw.Decided answer cell) start used = used ≡ start + cell.b
UsesBits (Draw.Straddled cell) start used = used ≡ start + cell.b
UsesBits (Draw.Ended place) start used = (used ≡ place) × (start ≤ used) × (used < start + 60)
UsesBits (Draw.Failed place) start used = (used ≡ place) × (start ≤ used) × (used < start + 60)

-- A draw of an answer from the start on is the one over the bits that it was given: it was given as
-- many bits as were used, the tape's own where they are told; and over every tape that has these
-- there, and ends where the draw says that it did, it is the draw that the decision fixes, where
-- the shelf fails only if the draw says so.
pub record IsDraw {A : Type 0} (decide : Cell
    → Option A) (told : Option (ℕ → Option Bool)) (start used : ℕ) (answer : Draw A) : Type 0 where
  pub given : List Bool
  pub gave : Gave told start used given
  pub ended : IfSome told (DrawEndsThere answer)
  pub exact : (bits : ℕ → Option Bool) → HasBits bits start given → DrawEndsThere answer bits
      → answer ≡ draw decide (bit_of bits (fault_of answer)) start
  pub cell : HasCell answer
  pub uses : UsesBits answer start used

-- The draw that a drawer's answer tells, `used` being the number of tape bits used afterwards, and
-- `choice` the choice of a value.
abbrev pub told_draw : {A : Type 0} → (choice : ℕ → A) → Drawn → (used : ℕ) → Draw A
told_draw choice (Value value cell) used = Draw.Decided (choice value) cell
told_draw choice (Straddles cell) used = Draw.Straddled cell
told_draw choice Ended used = Draw.Ended used
told_draw choice ReadFault used = Draw.Failed used

-- The answer is that the shelf failed.
abbrev pub is_draw_fault : Drawn → Bool
is_draw_fault ReadFault = true
is_draw_fault _ = false

-- What is said of a value and its cell holds, where the answer is a value.
abbrev pub OnValue : Drawn → (ℕ → Cell → Type 0) → Type 0
OnValue (Value value cell) P = P value cell
OnValue _ P = Unit {0}
