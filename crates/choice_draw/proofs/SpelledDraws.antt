-- The bits that a draw used are those that its cell spells.
use Rattle.std.proofs.Common.{◌≡◌, ℕ, zero, suc, ◌+◌, ◌^◌, ◌<◌, ◌≤◌, arith, Bool, [], ◌∷◌, length, refl, sym, ◌∙◌, ap, subst, Option, Some, None}
use Rattle.bz_model.specs.declared.cell.Cell.{Cell}
use Rattle.bz_model.specs.Cell.{bits_of}
use Rattle.bit_tape.specs.Given.{HasBits}
use Rattle.bit_tape.proofs.GivenBits.{has_bits-append}
use Rattle.choice_draw.specs.Draw.{Bit, Draw, bit_of, halved, draw_from, draw}
use Rattle.choice_draw.specs.LeastCell.{AreBetween, SpellsDraw, DrawsSpell}
use Rattle.choice_draw.proofs.DrawsOn.{whole_cell}
use Rattle.choice_draw.proofs.LeastCells.{bits-length, halved-bits, half-below, given-told}

module _ {A : Type 0} (decide : Cell → Option A) (bits : ℕ → Option Bool) (fault : Option ℕ) (start : ℕ) where
  -- the cell has the bits up to the place, and n more may be taken
  record SpellsSoFar (n : ℕ) (cell : Cell) (place : ℕ) : Type 0 where
    pub room : cell.b + n ≡ 60
    pub below : cell.k < 2 ^ cell.b
    pub up_to : place ≡ start + cell.b
    pub spells : HasBits bits start (bits_of cell.b cell.k)

  half-spells : (n : ℕ) (cell : Cell) (place : ℕ) (v : Bool) → SpellsSoFar (suc n) cell place → bits place ≡ Some v → SpellsSoFar n (halved cell v) (suc place)
  half-spells n cell place v h given =
      let at : place ≡ start + length (bits_of cell.b cell.k) = h.up_to ∙ ap (λ m. start + m) (sym (bits-length cell.b cell.k)) in
      record {
        room = let e = h.room in omega arith;
        below = half-below cell.k cell.b v h.below;
        up_to = let e = h.up_to in omega arith;
        spells = subst (HasBits bits start) (sym (halved-bits cell.b cell.k v)) (has_bits-append bits start (bits_of cell.b cell.k) (v ∷ []) h.spells (subst (λ p. HasBits bits p (v ∷ [])) at (given, tt)));
      }

  between : (n : ℕ) (cell : Cell) (place : ℕ) → SpellsSoFar (suc n) cell place → AreBetween bits start place
  between n cell place h = record {
    between = bits_of cell.b cell.k;
    few = subst (λ m. m < 60) (sym (bits-length cell.b cell.k)) (let e = h.room in omega arith);
    here = h.spells;
    up_to = h.up_to ∙ ap (λ m. start + m) (sym (bits-length cell.b cell.k));
  }

  Rest : (n : ℕ) → Type 0
  Rest n = (cell : Cell) (place : ℕ) → SpellsSoFar n cell place → SpellsDraw bits start (draw_from decide (bit_of bits fault) n cell place)

  decision-spells : (n : ℕ) (cell : Cell) (place : ℕ) (decision : Option A) → 1 ≤ cell.b → Rest n → SpellsSoFar n cell place → SpellsDraw bits start (elim decision as (λ _. Draw A) [ None ↦ draw_from decide (bit_of bits fault) n cell place | Some a ↦ Draw.Decided a cell ])
  unfolding Rest
  decision-spells n cell place None some rest h = rest cell place h
  decision-spells n cell place (Some a) some rest h = (h.spells, record { some_bits = some; few_bits = let e = h.room in omega arith; below = h.below })

  bit-spells : (n : ℕ) (cell : Cell) (place : ℕ) (b : Bit) → Rest n → SpellsSoFar (suc n) cell place → bit_of bits fault place ≡ b
      → SpellsDraw bits start (elim b as (λ _. Draw A) [ Bit.Given v ↦ elim (decide (halved cell v)) [ None ↦ draw_from decide (bit_of bits fault) n (halved cell v) (suc place) | Some a ↦ Draw.Decided a (halved cell v) ] | Bit.Ended ↦ Draw.Ended place | Bit.Failed ↦ Draw.Failed place ])
  bit-spells n cell place (Bit.Given v) rest h is = decision-spells n (halved cell v) (suc place) (decide (halved cell v)) (omega arith) rest (half-spells n cell place v h (given-told bits fault place v is))
  bit-spells n cell place Bit.Ended rest h is = between n cell place h
  bit-spells n cell place Bit.Failed rest h is = between n cell place h

  from-spells : (n : ℕ) → Rest n
  unfolding Rest
  from-spells zero cell place h = (h.spells, record { some_bits = let e = h.room in omega arith; few_bits = let e = h.room in omega arith; below = h.below }, let e = h.room in omega arith)
  from-spells (suc n) cell place h = bit-spells n cell place (bit_of bits fault place) (from-spells n) h refl

  draw-spells : SpellsDraw bits start (draw decide (bit_of bits fault) start)
  unfolding Rest
  draw-spells = from-spells 60 whole_cell start (record { room = refl; below = omega arith; up_to = omega arith; spells = tt })

-- Every draw over a tape used the bits that its cell spells, wherever the shelf may fail.
pub draws_spell : {A : Type 0} (decide : Cell → Option A) → DrawsSpell decide
draws_spell decide bits fault start = draw-spells decide bits fault start
