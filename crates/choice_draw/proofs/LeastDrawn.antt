-- A cell that is that of the least number of bits that decides is drawn.
use Rattle.std.proofs.Common.{◌≡◌, ℕ, zero, suc, ◌+◌, ◌-◌, ◌*◌, ◌/◌, ◌%◌, ◌^◌, ◌<◌, ◌≤◌, arith, Bool, cond, refl, sym, ◌∙◌, ap, subst, Option, Some, None}
use Rattle.std.specs.Prelude.{eqb}
use Rattle.std.proofs.Math.Nat.{pow-succ', div-one, div-div-eq-div-mul}
use Rattle.std.proofs.lemmas.Bool.{lt-ltb}
use Rattle.std.proofs.lemmas.Nat.{mod_below, div-add-mod', div-mul-add}
use Rattle.bz_model.specs.declared.cell.Cell.{Cell}
use Rattle.bz_model.specs.Cell.{bits_of}
use Rattle.bit_tape.specs.Given.{HasBits}
use Rattle.choice_draw.specs.Draw.{Bit, Draw, bit_or_end, bit_of, bit_number, halved, draw_from}
use Rattle.choice_draw.specs.LeastCell.{front_of, FailsFrom, LeastIsDrawn}

-- a number below 2 is that of the test whether it is 1
number-of : (r : ℕ) → r < 2 → bit_number (eqb r 1) ≡ r
number-of zero small = refl
number-of (suc zero) small = refl
number-of (suc (suc r)) small = absurd (omega arith)

with-lowest : (q : ℕ) → 2 * (q / 2) + bit_number (eqb (q % 2) 1) ≡ q
with-lowest q =
    let low = number-of (q % 2) (mod_below q 2 (omega arith)) in
    let parts = div-add-mod' q 2 in
    ap (λ n. 2 * (q / 2) + n) low ∙ (let e : 2 * (q / 2) + q % 2 ≡ q = omega (arith, parts) in e)

-- one bit more of a number
pub next-number : (k m : ℕ) → 2 * (k / 2 ^ suc m) + bit_number (eqb (k / 2 ^ m % 2) 1) ≡ k / 2 ^ m
next-number k m =
    let twice : 2 ^ suc m ≡ 2 * 2 ^ m = pow-succ' 2 m in
    let turned : 2 ^ suc m ≡ 2 ^ m * 2 = omega (arith, twice) in
    let half : k / 2 ^ suc m ≡ k / 2 ^ m / 2 = ap (λ w. k / w) turned ∙ sym (div-div-eq-div-mul k (2 ^ m) 2) in
    ap (λ n. 2 * n + bit_number (eqb (k / 2 ^ m % 2) 1)) half ∙ with-lowest (k / 2 ^ m)

fails-next : (fault : Option ℕ) (place m : ℕ) → FailsFrom (place + suc m) fault → FailsFrom (suc place) fault
fails-next None place m later = tt
fails-next (Some fault) place m later = omega arith

fails-on : (fault : Option ℕ) (place m : ℕ) → FailsFrom (place + suc m) fault → FailsFrom (suc place + m) fault
fails-on None place m later = tt
fails-on (Some fault) place m later = omega arith

-- a bit before the fault is that of the tape
bit-before : (bits : ℕ → Option Bool) (fault : Option ℕ) (place : ℕ) (v : Bool) → FailsFrom (suc place) fault → bits place ≡ Some v → bit_of bits fault place ≡ Bit.Given v
bit-before bits None place v later there = ap bit_or_end there
bit-before bits (Some fault) place v later there = ap (λ b. cond b (bit_or_end (bits place)) Bit.Failed) (lt-ltb place fault later) ∙ ap bit_or_end there

module _ {A : Type 0} (decide : Cell → Option A) (bits : ℕ → Option Bool) (fault : Option ℕ) (answer : A) (cell : Cell) where
  -- the cell of its first j bits, of which it has m more
  abbrev first : (m j : ℕ) → Cell
  first m j = record { k = cell.k / 2 ^ m; b = j }

  half-is : (m j : ℕ) → halved (first (suc m) j) (eqb (cell.k / 2 ^ m % 2) 1) ≡ first m (suc j)
  half-is m j = ap (λ k. record { k = k; b = suc j }) (next-number cell.k m)

  first-front : (m j : ℕ) → j + m ≡ cell.b → first m j ≡ front_of cell j
  first-front m j e = ap (λ n. record { k = cell.k / 2 ^ n; b = j }) (let f : m ≡ cell.b - j = omega arith in f)

  first-all : (j : ℕ) → j ≡ cell.b → first 0 j ≡ cell
  first-all j e = ap (λ k. record { k = k; b = j }) (div-one cell.k) ∙ ap (λ b. record { k = cell.k; b = b }) e

  -- what a draw does with a decision, and with the answer to the next bit
  after_decision : (n : ℕ) (half : Cell) (place : ℕ) → Option A → Draw A
  after_decision n half place decision = elim decision as (λ _. Draw A) [ None ↦ draw_from decide (bit_of bits fault) n half place | Some a ↦ Draw.Decided a half ]

  after_bit : (n : ℕ) (c : Cell) (place : ℕ) → Bit → Draw A
  after_bit n c place bit = elim bit as (λ _. Draw A) [ Bit.Given v ↦ after_decision n (halved c v) (suc place) (decide (halved c v)) | Bit.Ended ↦ Draw.Ended place | Bit.Failed ↦ Draw.Failed place ]

  unfolds : (n : ℕ) (c : Cell) (place : ℕ) → draw_from decide (bit_of bits fault) (suc n) c place ≡ after_bit n c place (bit_of bits fault place)
  unfolding after_bit after_decision
  unfolds n c place = refl

  -- a bit that is given, and what is decided then
  given-decision : (n : ℕ) (c : Cell) (place : ℕ) (v : Bool) (half : Cell) (decision : Option A) → FailsFrom (suc place) fault → bits place ≡ Some v → halved c v ≡ half → decide half ≡ decision → draw_from decide (bit_of bits fault) (suc n) c place ≡ after_decision n half (suc place) decision
  unfolding after_bit
  given-decision n c place v half decision later there is decided =
      unfolds n c place ∙ ap (after_bit n c place) (bit-before bits fault place v later there) ∙ ap (λ h. after_decision n h (suc place) (decide h)) is ∙ ap (after_decision n half (suc place)) decided

  module _ (none : (b : ℕ) → 1 ≤ b → b < cell.b → decide (front_of cell b) ≡ None) (decided : decide cell ≡ Some answer) where
    -- from its first j bits on, with m more
    drawn-from : (m n j place : ℕ) → j + suc m ≡ cell.b → suc m ≤ n → HasBits bits place (bits_of (suc m) cell.k) → FailsFrom (place + suc m) fault → draw_from decide (bit_of bits fault) n (first (suc m) j) place ≡ Draw.Decided answer cell
    unfolding after_decision
    drawn-from m zero j place whole few have later = absurd (omega arith)
    drawn-from zero (suc n) j place whole few have later =
        given-decision n (first 1 j) place (eqb (cell.k / 2 ^ 0 % 2) 1) cell (Some answer) (fails-next fault place 0 later) have.0 (half-is 0 j ∙ first-all (suc j) (omega arith)) decided
    drawn-from (suc m) (suc n) j place whole few have later =
        given-decision n (first (suc (suc m)) j) place (eqb (cell.k / 2 ^ suc m % 2) 1) (first (suc m) (suc j)) None (fails-next fault place (suc m) later) have.0 (half-is (suc m) j) (ap decide (first-front (suc m) (suc j) (omega arith)) ∙ none (suc j) (omega arith) (omega arith))
        ∙ drawn-from m n (suc j) (suc place) (omega arith) (omega arith) have.1 (fails-on fault place (suc m) later)

-- a number below 2^b has no bit above the b-th
pub none-above : (k w : ℕ) → k < w → 0 ≡ k / w
none-above k w below = sym (ap (λ n. n / w) (let e : k ≡ 0 * w + k = omega arith in e) ∙ div-mul-add 0 w k below)

-- A cell of the least number of bits that decides is drawn with its answer, if the shelf doesn't
-- fail within its bits.
pub least_is_drawn : {A : Type 0} (decide : Cell → Option A) → LeastIsDrawn decide
least_is_drawn decide bits fault place answer cell least later =
    let c = least.is_cell in
    let m = cell.b - 1 in
    let all : suc m ≡ cell.b = let some = c.some_bits in omega arith in
    let empty : 0 ≡ cell.k / 2 ^ suc m = none-above cell.k (2 ^ suc m) (subst (λ n. cell.k < 2 ^ n) (sym all) c.below) in
    ap (λ k. draw_from decide (bit_of bits fault) 60 (record { k = k; b = 0 }) place) empty
    ∙ drawn-from decide bits fault answer cell least.none_before least.decides m 60 0 place (omega arith) (let few = c.few_bits in omega arith) (subst (λ n. HasBits bits place (bits_of n cell.k)) (sym all) least.spells) (subst (λ n. FailsFrom (place + n) fault) (sym all) later)
