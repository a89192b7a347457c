-- A draw that goes on from a cell, and how it ends.
use Rattle.std.proofs.Common.{◌≡◌, ℕ, Bool, suc, ◌-◌, ◌<◌, Option, Some, None, cond, arith, refl, ◌∙◌, ap}
use Rattle.std.proofs.lemmas.Bool.{lt-ltb, le-ltb}
use Rattle.bz_model.specs.declared.cell.Cell.{Cell}
use Rattle.choice_draw.specs.Draw.{Bit, Draw, bit_or_end, bit_of, halved, draw_from, draw}
use Rattle.choice_draw.specs.LeastCell.{FailsFrom}

-- a draw from the start on goes on from this cell and place: wherever the shelf fails from here on, it ends as the draw from here ends
pub record DrawsOn {A : Type 0} (decide : Cell → Option A) (tape : ℕ → Option Bool) (start : ℕ) (cell : Cell) (place : ℕ) : Type 0 where
  pub same : (fault : Option ℕ) → FailsFrom place fault → draw decide (bit_of tape fault) start ≡ draw_from decide (bit_of tape fault) (60 - cell.b) cell place

-- the cell of no bits
abbrev pub whole_cell : Cell
whole_cell = record { k = 0; b = 0 }

module _ {A : Type 0} (decide : Cell → Option A) (tape : ℕ → Option Bool) (start : ℕ) where
  pub draws-first : DrawsOn decide tape start whole_cell start
  draws-first = record { same = λ fault later. refl }

  -- a bit before the fault is that of the tape
  bit_before : (fault : Option ℕ) (place : ℕ) (v : Bool) → FailsFrom (suc place) fault → tape place ≡ Some v → bit_of tape fault place ≡ Bit.Given v
  bit_before None place v later given = ap bit_or_end given
  bit_before (Some fault) place v later given = ap (λ b. cond b (bit_or_end (tape place)) Bit.Failed) (lt-ltb place fault later) ∙ ap bit_or_end given

  fails_earlier : (fault : Option ℕ) (place : ℕ) → FailsFrom (suc place) fault → FailsFrom place fault
  fails_earlier None place later = tt
  fails_earlier (Some fault) place later = omega arith

  -- what a draw does with a decision, and with the answer to the next bit
  after_decision : (n : ℕ) (fault : Option ℕ) (cell : Cell) (place : ℕ) → Option A → Draw A
  after_decision n fault cell place decision = elim decision as (λ _. Draw A) [ None ↦ draw_from decide (bit_of tape fault) n cell place | Some answer ↦ Draw.Decided answer cell ]

  after_bit : (n : ℕ) (fault : Option ℕ) (cell : Cell) (place : ℕ) → Bit → Draw A
  after_bit n fault cell place bit = elim bit as (λ _. Draw A) [ Bit.Given v ↦ after_decision n fault (halved cell v) (suc place) (decide (halved cell v)) | Bit.Ended ↦ Draw.Ended place | Bit.Failed ↦ Draw.Failed place ]

  unfolds : (n : ℕ) (fault : Option ℕ) (cell : Cell) (place : ℕ) → draw_from decide (bit_of tape fault) (suc n) cell place ≡ after_bit n fault cell place (bit_of tape fault place)
  unfolding after_bit after_decision
  unfolds n fault cell place = refl

  -- what a draw does where a bit is given
  given-decision : (n : ℕ) (fault : Option ℕ) (cell : Cell) (place : ℕ) (v : Bool) (decision : Option A) → FailsFrom (suc place) fault → tape place ≡ Some v → decide (halved cell v) ≡ decision → draw_from decide (bit_of tape fault) (suc n) cell place ≡ after_decision n fault (halved cell v) (suc place) decision
  unfolding after_bit
  given-decision n fault cell place v decision later given decided = unfolds n fault cell place ∙ ap (after_bit n fault cell place) (bit_before fault place v later given) ∙ ap (after_decision n fault (halved cell v) (suc place)) decided

  module _ (cell : Cell) (place : ℕ) (here : DrawsOn decide tape start cell place) where
    more_bits : cell.b < 60 → 60 - cell.b ≡ suc (60 - suc cell.b)
    more_bits more = omega arith

    -- a draw from here, with the number of bits that are left
    from_here : (fault : Option ℕ) → FailsFrom place fault → cell.b < 60 → draw decide (bit_of tape fault) start ≡ draw_from decide (bit_of tape fault) (suc (60 - suc cell.b)) cell place
    from_here fault later more = here.same fault later ∙ ap (λ n. draw_from decide (bit_of tape fault) n cell place) (more_bits more)

    -- a bit that decides nothing leads on
    pub draws-on : (v : Bool) → cell.b < 60 → tape place ≡ Some v → decide (halved cell v) ≡ None → DrawsOn decide tape start (halved cell v) (suc place)
    unfolding after_decision
    draws-on v more given undecided = record { same = λ fault later. from_here fault (fails_earlier fault place later) more ∙ given-decision (60 - suc cell.b) fault cell place v None later given undecided }

    -- a bit that decides ends the draw
    pub draws-decided : (v : Bool) (answer : A) → cell.b < 60 → tape place ≡ Some v → decide (halved cell v) ≡ Some answer → draw decide (bit_of tape None) start ≡ Draw.Decided answer (halved cell v)
    unfolding after_decision
    draws-decided v answer more given decided = from_here None tt more ∙ given-decision (60 - suc cell.b) None cell place v (Some answer) tt given decided

    -- so does the end of the tape
    pub draws-ended : cell.b < 60 → tape place ≡ None → draw decide (bit_of tape None) start ≡ Draw.Ended place
    unfolding after_bit
    draws-ended more ended = from_here None tt more ∙ unfolds (60 - suc cell.b) None cell place ∙ ap (after_bit (60 - suc cell.b) None cell place) (ap bit_or_end ended)

    -- and a shelf that fails here
    pub draws-failed : cell.b < 60 → draw decide (bit_of tape (Some place)) start ≡ Draw.Failed place
    unfolding after_bit
    draws-failed more = from_here (Some place) (omega arith) more ∙ unfolds (60 - suc cell.b) (Some place) cell place ∙ ap (after_bit (60 - suc cell.b) (Some place) cell place) (ap (λ b. cond b (bit_or_end (tape place)) Bit.Failed) (le-ltb place place (omega arith)))

    -- and 60 bits that decide nothing
    pub draws-straddled : cell.b ≡ 60 → draw decide (bit_of tape None) start ≡ Draw.Straddled cell
    draws-straddled all = here.same None tt ∙ ap (λ n. draw_from decide (bit_of tape None) n cell place) (let none : 60 - cell.b ≡ 0 = omega arith in none)
