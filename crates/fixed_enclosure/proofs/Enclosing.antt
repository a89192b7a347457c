-- On which side of the exact result the rounded atom, sum and product lie.
use Rattle.std.proofs.Common.{◌≡◌, ℕ, ◌+◌, ◌*◌, ◌/◌, ◌^◌, ◌<◌, ◌≤◌, Some, subst, arith}
use Rattle.std.proofs.Math.Nat.{div-mul-le_self, mul-le-mul_right, le_trans}
use Rattle.std.proofs.lemmas.Nat.{pow_pos}
use Rattle.fixed_enclosure.specs.Rounded.{quotient_up, atom_down, atom_up, add_down, add_up, mul_down, mul_up}
use Rattle.fixed_enclosure.specs.Enclosure.{IsAtMostQuotient, IsAtLeastQuotient, IsAtMostSum, IsAtLeastSum, IsAtMostProduct, IsAtLeastProduct}
use Rattle.fixed_enclosure.proofs.Quotients.{quotient_up-above, saturated-le, if_fits-same}

-- The lower sum is at most the sum.
pub add_down-below : (a b : ℕ) → IsAtMostSum a b (add_down a b)
add_down-below a b = saturated-le (a + b)

-- The upper sum is the sum.
pub add_up-same : (a b v : ℕ) → add_up a b ≡ Some v → a + b ≡ v
add_up-same a b v e = if_fits-same (a + b) v e

-- The upper sum is at least the sum.
pub add_up-above : (a b v : ℕ) → add_up a b ≡ Some v → IsAtLeastSum a b v
add_up-above a b v e = let same = add_up-same a b v e in omega arith

-- The lower product is at most the product.
pub mul_down-below : (f a b : ℕ) → IsAtMostProduct f a b (mul_down f a b)
mul_down-below f a b = le_trans (mul-le-mul_right (2 ^ f) (saturated-le (a * b / 2 ^ f))) (div-mul-le_self (a * b) (2 ^ f))

-- The upper product is at least the product.
pub mul_up-above : (f a b v : ℕ) → mul_up f a b ≡ Some v → IsAtLeastProduct f a b v
mul_up-above f a b v e = subst (λ q. a * b ≤ q * 2 ^ f) (if_fits-same (quotient_up (a * b) (2 ^ f)) v e) (quotient_up-above (a * b) (2 ^ f) (pow_pos f))

-- The lower atom is at most num / den.
pub atom_down-below : (f num den : ℕ) → IsAtMostQuotient f num den (atom_down f num den)
atom_down-below f num den = le_trans (mul-le-mul_right den (saturated-le (num * 2 ^ f / den))) (div-mul-le_self (num * 2 ^ f) den)

-- The upper atom is at least num / den.
pub atom_up-above : (f num den v : ℕ) → 0 < den → atom_up f num den ≡ Some v → IsAtLeastQuotient f num den v
atom_up-above f num den v p e = subst (λ q. num * 2 ^ f ≤ q * den) (if_fits-same (quotient_up (num * 2 ^ f) den) v e) (quotient_up-above (num * 2 ^ f) den p)
