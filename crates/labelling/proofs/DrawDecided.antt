-- What a draw's answer says: its cell is one, and decides the answer.
use Rattle.std.proofs.Common.{◌≡◌, ℕ, Bool, true, false, zero, suc, ◌+◌, ◌*◌, ◌^◌, ◌<◌, ◌≤◌, Option, Some, None, refl, ◌∙◌, ap, subst, arith}
use Rattle.std.proofs.Math.Nat.{pow-suc}
use Rattle.bz_model.specs.declared.cell.Cell.{Cell}
use Rattle.bz_model.specs.Cell.{IsCell}
use Rattle.choice_draw.specs.Draw.{Bit, Draw, halved, draw_from, draw}

-- the cell has so many bits, and lies below 1
pub record IsBelowOne (cell : Cell) (n : ℕ) : Type 0 where
  pub bits : cell.b + n ≡ 60
  pub below : cell.k < 2 ^ cell.b

-- this cell decides this answer
pub record Decides {A : Type 0} (decide : Cell → Option A) (answer : A) (cell : Cell) : Type 0 where
  pub decided : decide cell ≡ Some answer
  pub is_cell : IsCell cell.k cell.b

doubled : (k b v : ℕ) → v ≤ 1 → k < 2 ^ b → 2 * k + v < 2 ^ suc b
doubled k b v small h = rw (pow-suc 2 b) (omega arith)

halved-below : (cell : Cell) (n : ℕ) (v : Bool) → IsBelowOne cell (suc n) → IsBelowOne (halved cell v) n
halved-below cell n true h = record { bits = let e = h.bits in omega arith; below = doubled cell.k cell.b 1 (omega arith) h.below }
halved-below cell n false h = record { bits = let e = h.bits in omega arith; below = doubled cell.k cell.b 0 (omega arith) h.below }

module _ {A : Type 0} (decide : Cell → Option A) (bit : ℕ → Bit) (answer : A) (end : Cell) where
  after_answer : (n : ℕ) (cell : Cell) (place : ℕ) (v : Bool) (o : Option A) → IsBelowOne cell (suc n) → (draw_from decide bit n (halved cell v) (suc place) ≡ Draw.Decided answer end → Decides decide answer end) → decide (halved cell v) ≡ o
      → (elim o as (λ _. Draw A) [ None ↦ draw_from decide bit n (halved cell v) (suc place) | Some a ↦ Draw.Decided a (halved cell v) ]) ≡ Draw.Decided answer end → Decides decide answer end
  after_answer n cell place v None below rest not_yet e = rest e
  after_answer n cell place v (Some a) below rest decided e =
      let same : a ≡ answer = cc in
      let here : halved cell v ≡ end = cc in
      let b = halved-below cell n v below in
      subst (λ c. Decides decide answer c) here (record {
        decided = decided ∙ ap Some same;
        is_cell = record { some_bits = omega arith; few_bits = let e = b.bits in omega arith; below = b.below };
      })

  after_bit : (n : ℕ) (cell : Cell) (place : ℕ) (b : Bit) → IsBelowOne cell (suc n) → ((v : Bool) → draw_from decide bit n (halved cell v) (suc place) ≡ Draw.Decided answer end → Decides decide answer end)
      → (elim b as (λ _. Draw A) [ Bit.Given v ↦ elim (decide (halved cell v)) [ None ↦ draw_from decide bit n (halved cell v) (suc place) | Some a ↦ Draw.Decided a (halved cell v) ] | Bit.Ended ↦ Draw.Ended place | Bit.Failed ↦ Draw.Failed place ]) ≡ Draw.Decided answer end → Decides decide answer end
  after_bit n cell place (Bit.Given v) below rest e = after_answer n cell place v (decide (halved cell v)) below (rest v) refl e
  after_bit n cell place Bit.Ended below rest e = let none : ⊥ = cc in absurd none
  after_bit n cell place Bit.Failed below rest e = let none : ⊥ = cc in absurd none

  from-decided : (n : ℕ) (cell : Cell) (place : ℕ) → IsBelowOne cell n → draw_from decide bit n cell place ≡ Draw.Decided answer end → Decides decide answer end
  from-decided zero cell place below e = let none : ⊥ = cc in absurd none
  from-decided (suc n) cell place below e = after_bit n cell place (bit place) below (λ v. from-decided n (halved cell v) (suc place) (halved-below cell n v below)) e

  -- a draw's answer is what its cell decides
  pub draw-decided : (place : ℕ) → draw decide bit place ≡ Draw.Decided answer end → Decides decide answer end
  draw-decided place e = from-decided 60 (record { k = 0; b = 0 }) place (record { bits = refl; below = omega arith }) e
