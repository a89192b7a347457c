-- A draw's cell is that of the least number of bits that decides.
use Rattle.std.proofs.Common.{◌≡◌, ℕ, zero, suc, ◌+◌, ◌-◌, ◌*◌, ◌/◌, ◌%◌, ◌^◌, ◌<◌, ◌≤◌, arith, Bool, true, false, cond, [], ◌∷◌, ◌++◌, length, refl, sym, ◌∙◌, ap, subst, Option, Some, None}
use Rattle.std.specs.Prelude.{eqb, nat_lt}
use Rattle.std.proofs.Math.Decide.{dec_le}
use Rattle.std.proofs.Math.Nat.{pow-succ', div-one}
use Rattle.std.proofs.lemmas.Nat.{pow_pos, mod_below, div-add-mod', div-mul-add}
use Rattle.bz_model.specs.declared.cell.Cell.{Cell}
use Rattle.bz_model.specs.Cell.{bits_of}
use Rattle.bit_tape.specs.Given.{HasBits}
use Rattle.bit_tape.proofs.GivenBits.{has_bits-append}
use Rattle.choice_draw.specs.Draw.{Bit, Draw, bit_or_end, bit_of, bit_number, halved, draw_from, draw}
use Rattle.choice_draw.specs.LeastCell.{front_of, IsLeastCell, DrawsLeast}
use Rattle.choice_draw.proofs.DrawsOn.{whole_cell}

-- The list of the b lowest bits of a number has length b.
pub bits-length : (b k : ℕ) → length (bits_of b k) ≡ b
bits-length zero k = refl
bits-length (suc b) k = ap suc (bits-length b k)

-- the bit above the lowest ones stays where one more bit is put below them
placed : (k v q r p s : ℕ) → q * p + r ≡ k → s ≡ 2 * p → 2 * k + v ≡ q * s + (2 * r + v)
placed k v q r p s e f = let g : q * s ≡ 2 * (q * p) = ap (λ n. q * n) f ∙ omega arith in omega (arith, e, g)

fits : (r v p s : ℕ) → r < p → v < 2 → s ≡ 2 * p → 2 * r + v < s
fits r v p s h k e = omega (arith, h, k, e)

shifted : (k b v : ℕ) → v < 2 → (2 * k + v) / 2 ^ suc b ≡ k / 2 ^ b
shifted k b v h =
    let p = pow_pos b in
    let low = mod_below k (2 ^ b) p in
    let parts = div-add-mod' k (2 ^ b) in
    let twice : 2 ^ suc b ≡ 2 * 2 ^ b = pow-succ' 2 b in
    let whole : 2 * k + v ≡ k / 2 ^ b * 2 ^ suc b + (2 * (k % 2 ^ b) + v) = placed k v (k / 2 ^ b) (k % 2 ^ b) (2 ^ b) (2 ^ suc b) parts twice in
    ap (λ n. n / 2 ^ suc b) whole ∙ div-mul-add (k / 2 ^ b) (2 ^ suc b) (2 * (k % 2 ^ b) + v) (fits (k % 2 ^ b) v (2 ^ b) (2 ^ suc b) low h twice)

lowest : (k : ℕ) (v : Bool) → eqb ((2 * k + bit_number v) / 2 ^ 0 % 2) 1 ≡ v
lowest k true = let n : (2 * k + 1) / 2 ^ 0 % 2 ≡ 1 = ap (λ m. m % 2) (div-one (2 * k + 1)) ∙ omega arith in ap (λ m. eqb m 1) n
lowest k false = let n : (2 * k + 0) / 2 ^ 0 % 2 ≡ 0 = ap (λ m. m % 2) (div-one (2 * k + 0)) ∙ omega arith in ap (λ m. eqb m 1) n

number-small : (v : Bool) → bit_number v < 2
number-small true = omega arith
number-small false = omega arith

-- the bits of a cell's half are those of the cell, and one more
pub halved-bits : (b k : ℕ) (v : Bool) → bits_of (suc b) (2 * k + bit_number v) ≡ bits_of b k ++ v ∷ []
halved-bits zero k v = ap (λ x. x ∷ []) (lowest k v)
halved-bits (suc b) k v =
    ap (λ n. eqb (n % 2) 1 ∷ bits_of (suc b) (2 * k + bit_number v)) (shifted k b (bit_number v) (number-small v)) ∙ ap (λ bs. eqb (k / 2 ^ b % 2) 1 ∷ bs) (halved-bits b k v)

-- fewer bits of a half are those of the cell
front-halved : (cell : Cell) (v : Bool) (j : ℕ) → j ≤ cell.b → front_of (halved cell v) j ≡ front_of cell j
front-halved cell v j le =
    let e : suc cell.b - j ≡ suc (cell.b - j) = omega arith in
    ap (λ k. record { k = k; b = j }) (ap (λ m. (2 * cell.k + bit_number v) / 2 ^ m) e ∙ shifted cell.k (cell.b - j) (bit_number v) (number-small v))

-- all bits of a cell are its own
front-all : (cell : Cell) (j : ℕ) → j ≡ cell.b → front_of cell j ≡ cell
front-all cell j e =
    let none : cell.b - j ≡ 0 = omega arith in
    ap (λ k. record { k = k; b = j }) (ap (λ m. cell.k / 2 ^ m) none ∙ div-one cell.k) ∙ ap (λ b. record { k = cell.k; b = b }) e

-- If a number k is below 2^b, then 2k plus a bit is below 2^(b+1).
pub half-below : (k b : ℕ) (v : Bool) → k < 2 ^ b → 2 * k + bit_number v < 2 ^ suc b
half-below k b v h = let twice : 2 ^ suc b ≡ 2 * 2 ^ b = pow-succ' 2 b in let small = number-small v in omega (arith, twice, small)

-- a bit that is given is the tape's
given-is : (o : Option Bool) (v : Bool) → bit_or_end o ≡ Bit.Given v → o ≡ Some v
given-is None v e = absurd (cc)
given-is (Some w) v e = cc

-- Where a tape gives a bit at a place, with a shelf that may fail or not, the tape has this bit
-- there.
pub given-told : (bits : ℕ → Option Bool) (fault : Option ℕ) (place : ℕ) (v : Bool) → bit_of bits fault place ≡ Bit.Given v → bits place ≡ Some v
given-told bits None place v e = given-is (bits place) v e
given-told bits (Some fault) place v e = go (nat_lt place fault) e
  where
    go : (b : Bool) → cond b (bit_or_end (bits place)) Bit.Failed ≡ Bit.Given v → bits place ≡ Some v
    go true f = given-is (bits place) v f
    go false f = absurd (cc)

module _ {A : Type 0} (decide : Cell → Option A) (bits : ℕ → Option Bool) (fault : Option ℕ) (start : ℕ) (answer : A) (end : Cell) where
  -- the cell has the bits up to the place, n more may be taken, and none of its fronts decides, nor does it
  record IsUndecided (n : ℕ) (cell : Cell) (place : ℕ) : Type 0 where
    pub room : cell.b + n ≡ 60
    pub below : cell.k < 2 ^ cell.b
    pub up_to : start + cell.b ≡ place
    pub spells : HasBits bits start (bits_of cell.b cell.k)
    pub none : (b : ℕ) → 1 ≤ b → b ≤ cell.b → decide (front_of cell b) ≡ None

  half-spells : (n : ℕ) (cell : Cell) (place : ℕ) (v : Bool) → IsUndecided n cell place → bits place ≡ Some v → HasBits bits start (bits_of (suc cell.b) (2 * cell.k + bit_number v))
  half-spells n cell place v u given =
      let at : place ≡ start + length (bits_of cell.b cell.k) = sym (ap (λ m. start + m) (bits-length cell.b cell.k) ∙ u.up_to) in
      subst (HasBits bits start) (sym (halved-bits cell.b cell.k v)) (has_bits-append bits start (bits_of cell.b cell.k) (v ∷ []) u.spells (subst (λ p. HasBits bits p (v ∷ [])) at (given, tt)))

  half-undecided : (n : ℕ) (cell : Cell) (place : ℕ) (v : Bool) → IsUndecided (suc n) cell place → bits place ≡ Some v → decide (halved cell v) ≡ None → IsUndecided n (halved cell v) (suc place)
  half-undecided n cell place v u given not_yet = record {
    room = let e = u.room in omega arith;
    below = half-below cell.k cell.b v u.below;
    up_to = let e = u.up_to in omega arith;
    spells = half-spells (suc n) cell place v u given;
    none = λ b some few. elim (dec_le b cell.b) [
      | yes h ↦ ap decide (front-halved cell v b h) ∙ u.none b some h
      | no h ↦ let all : b ≡ suc cell.b = omega (arith, h) in ap decide (front-all (halved cell v) b all) ∙ not_yet
    ];
  }

  half-least : (n : ℕ) (cell : Cell) (place : ℕ) (v : Bool) → IsUndecided (suc n) cell place → bits place ≡ Some v → decide (halved cell v) ≡ Some answer → IsLeastCell decide bits start answer (halved cell v)
  half-least n cell place v u given decided = record {
    is_cell = record { some_bits = omega arith; few_bits = let e = u.room in omega arith; below = half-below cell.k cell.b v u.below };
    spells = half-spells (suc n) cell place v u given;
    decides = decided;
    none_before = λ b some few. ap decide (front-halved cell v b (omega arith)) ∙ u.none b some (omega arith);
  }

  Rest : (n : ℕ) → Type 0
  Rest n = (cell : Cell) (place : ℕ) → IsUndecided n cell place → draw_from decide (bit_of bits fault) n cell place ≡ Draw.Decided answer end → IsLeastCell decide bits start answer end

  after-decision : (n : ℕ) (cell : Cell) (place : ℕ) (v : Bool) (o : Option A) → Rest n → IsUndecided (suc n) cell place → bits place ≡ Some v → decide (halved cell v) ≡ o
      → (elim o as (λ _. Draw A) [ None ↦ draw_from decide (bit_of bits fault) n (halved cell v) (suc place) | Some a ↦ Draw.Decided a (halved cell v) ]) ≡ Draw.Decided answer end → IsLeastCell decide bits start answer end
  unfolding Rest
  after-decision n cell place v None rest u given not_yet e = rest (halved cell v) (suc place) (half-undecided n cell place v u given not_yet) e
  after-decision n cell place v (Some a) rest u given decided e =
      let same : a ≡ answer = cc in
      let here : halved cell v ≡ end = cc in
      subst (λ c. IsLeastCell decide bits start answer c) here (half-least n cell place v u given (decided ∙ ap Some same))

  after-bit : (n : ℕ) (cell : Cell) (place : ℕ) (b : Bit) → Rest n → IsUndecided (suc n) cell place → bit_of bits fault place ≡ b
      → (elim b as (λ _. Draw A) [ Bit.Given v ↦ elim (decide (halved cell v)) [ None ↦ draw_from decide (bit_of bits fault) n (halved cell v) (suc place) | Some a ↦ Draw.Decided a (halved cell v) ] | Bit.Ended ↦ Draw.Ended place | Bit.Failed ↦ Draw.Failed place ]) ≡ Draw.Decided answer end → IsLeastCell decide bits start answer end
  after-bit n cell place (Bit.Given v) rest u is e = after-decision n cell place v (decide (halved cell v)) rest u (given-told bits fault place v is) refl e
  after-bit n cell place Bit.Ended rest u is e = let none : ⊥ = cc in absurd none
  after-bit n cell place Bit.Failed rest u is e = let none : ⊥ = cc in absurd none

  from-undecided : (n : ℕ) → Rest n
  unfolding Rest
  from-undecided zero cell place u e = let none : ⊥ = cc in absurd none
  from-undecided (suc n) cell place u e = after-bit n cell place (bit_of bits fault place) (from-undecided n) u refl e

  draw-least : draw decide (bit_of bits fault) start ≡ Draw.Decided answer end → IsLeastCell decide bits start answer end
  unfolding Rest
  draw-least e = from-undecided 60 whole_cell start (record { room = refl; below = omega arith; up_to = omega arith; spells = tt; none = λ b some few. absurd (omega arith) }) e

-- Wherever a draw over a tape decides an answer, its cell is that of the least number of bits that
-- decides.
pub draws_least : {A : Type 0} (decide : Cell → Option A) → DrawsLeast decide
draws_least decide bits fault place answer cell e = draw-least decide bits fault place answer cell e
