-- Sums of exponents.
use Rattle.std.proofs.Common.{◌≡◌, ℕ, suc, ◌+◌, ◌*◌, ◌/◌, ◌^◌, ◌<◌, ◌≤◌, ◌⊎◌, inl, inr, arith, refl, ◌∙◌, ap}
use Rattle.std.specs.Prelude.{ℤ, pos, negsuc, ◌+ℤ◌, max}
use Rattle.std.proofs.lemmas.Int.{ints, to_z-of_z}
use mir.Val.{SFits, of_z, to_z}
use mir.Syntax.{w64}
use borrow.Author.Differences.{up, down}
use Rattle.std.proofs.Math.Nat.{mul-le-mul_right}
use Rattle.bz_model.specs.Fraction.{times, ratio}
use Rattle.chance_law.specs.declared.scaled.Scaled.{Scaled}
use Rattle.chance_law.specs.Scaled.{rise, fall, value, IsScaled, IsNearZero, IsRoundedDown}
use Rattle.chance_law.proofs.Rounding.{power-sum}
use Rattle.chance_law.proofs.Determined.{quotient-down}

rise-is : (z : ℤ) → rise z ≡ up z
rise-is (pos n) = refl
rise-is (negsuc n) = refl

fall-is : (z : ℤ) → fall z ≡ down z
fall-is (pos n) = refl
fall-is (negsuc n) = refl

-- an exponent that is the sum of two and a whole number
pub sum-of-two : (x y z : ℤ) (k : ℕ) → z ≡ (x +ℤ y) +ℤ pos k → rise z + (fall x + fall y) ≡ fall z + (rise x + rise y) + k
sum-of-two x y z k e =
    let a = rise-is x in let b = rise-is y in let c = rise-is z in
    let d = fall-is x in let f = fall-is y in let g = fall-is z in
    omega (arith, ints)

-- the product of two scaled numbers, rounded down
pub product-down : (s t r : Scaled) (k : ℕ) → IsScaled r → r.e ≡ (s.e +ℤ t.e) +ℤ pos k → r.m * 2 ^ k ≤ s.m * t.m → s.m * t.m < (r.m + 1) * 2 ^ k → IsRoundedDown (times (value s) (value t)) r
product-down s t r k is e lo hi = quotient-down (times (value s) (value t)) r (s.m * t.m) 1 (rise s.e + rise t.e) (fall s.e + fall t.e) 0 k is num den (let x = sum-of-two s.e t.e r.e k e in omega arith) (omega arith) (omega arith)
  where
    num : ((s.m * 2 ^ rise s.e) * (t.m * 2 ^ rise t.e)) * 2 ^ 0 ≡ (s.m * t.m) * 2 ^ (rise s.e + rise t.e)
    num = let p = power-sum (rise s.e) (rise t.e) in swap s.m t.m (2 ^ rise s.e) (2 ^ rise t.e) (2 ^ (rise s.e + rise t.e)) p
      where
        swap : (a b x y z : ℕ) → z ≡ x * y → ((a * x) * (b * y)) * 1 ≡ (a * b) * z
        swap a b x y z h = rw h (omega arith)

    den : 2 ^ fall s.e * 2 ^ fall t.e ≡ 1 * 2 ^ (fall s.e + fall t.e)
    den = let p = power-sum (fall s.e) (fall t.e) in omega arith

-- an exponent is not both above and below 0
apart : (z : ℤ) → (rise z ≡ 0) ⊎ (fall z ≡ 0)
apart (pos n) = inr refl
apart (negsuc n) = inl refl

-- The sum of x, y and a natural k is above 0 by at most k more than x and y are together, and below
-- 0 by at most as much as they are.
pub sum-near : (x y z : ℤ) (k : ℕ) → z ≡ (x +ℤ y) +ℤ pos k → (rise z ≤ rise x + rise y + k) × (fall z ≤ fall x + fall y)
sum-near x y z k e =
    let a = sum-of-two x y z k e in
    elim (apart z) [ inl h ↦ (omega arith, omega arith) | inr h ↦ (omega arith, omega arith) ]

-- of a quotient: at most 64 digits are left out after 64 further ones
pub quotient-near : (x z : ℤ) (k : ℕ) → k ≤ 64 → z ≡ (x +ℤ negsuc 63) +ℤ pos k → (rise z ≤ rise x) × (fall z ≤ fall x + 64)
quotient-near x z k few e =
    let a = sum-of-two x (negsuc 63) z k e in
    elim (apart z) [ inl h ↦ (omega arith, omega arith) | inr h ↦ (omega arith, omega arith) ]

-- one part in a whole number of a scaled number, rounded down
pub part-down : (s r : Scaled) (d k : ℕ) → 1 ≤ d → IsScaled r → r.e ≡ (s.e +ℤ negsuc 63) +ℤ pos k → r.m * 2 ^ k ≤ (s.m * 2 ^ 64) / d → (s.m * 2 ^ 64) / d < (r.m + 1) * 2 ^ k → IsRoundedDown (times (value s) (ratio 1 d)) r
part-down s r d k some is e lo hi = quotient-down (times (value s) (ratio 1 d)) r (s.m * 2 ^ 64) d (rise s.e) (fall s.e) 64 k is num den (let x = sum-of-two s.e (negsuc 63) r.e k e in omega arith) below above
  where
    num : ((s.m * 2 ^ rise s.e) * 1) * 2 ^ 64 ≡ (s.m * 2 ^ 64) * 2 ^ rise s.e
    num = omega arith

    den : 2 ^ fall s.e * max d 1 ≡ d * 2 ^ fall s.e
    den = turned (2 ^ fall s.e) d (max d 1) (omega arith)
      where
        turned : (a b c : ℕ) → c ≡ b → a * c ≡ b * a
        turned a b c h = rw h (omega arith)

    below : (r.m * 2 ^ k) * d ≤ s.m * 2 ^ 64
    below = back (r.m * 2 ^ k) (s.m * 2 ^ 64) d some lo
      where
        back : (a n d : ℕ) → 1 ≤ d → a ≤ n / d → a * d ≤ n
        back a n d h le = let u = mul-le-mul_right d le in omega arith

    above : s.m * 2 ^ 64 < (suc r.m * 2 ^ k) * d
    above = back (s.m * 2 ^ 64) (suc r.m * 2 ^ k) d some (omega arith)
      where
        back : (n a d : ℕ) → 1 ≤ d → n / d < a → n < a * d
        back n a d h lt = let u = mul-le-mul_right d lt in omega arith

near-fits : (x : ℤ) → IsNearZero (2 ^ 61) x → SFits w64 x
near-fits (pos n) h = record { sfits = (let a = h.above in omega arith) }
near-fits (negsuc n) h = record { sfits = (let a = h.below in omega arith) }

-- exponents that were passed on as 64 bits
pub passed : (x y z : ℤ) (k : ℕ) → IsNearZero (2 ^ 61) x → IsNearZero (2 ^ 61) y → SFits w64 z → z ≡ (to_z w64 (of_z w64 x) +ℤ to_z w64 (of_z w64 y)) +ℤ pos k → to_z w64 (of_z w64 z) ≡ (x +ℤ y) +ℤ pos k
passed x y z k a b c e = to_z-of_z w64 z c ∙ e ∙ ap (λ u. (u +ℤ to_z w64 (of_z w64 y)) +ℤ pos k) (to_z-of_z w64 x (near-fits x a)) ∙ ap (λ u. (x +ℤ u) +ℤ pos k) (to_z-of_z w64 y (near-fits y b))
