-- Quotients rounded up, and numbers that fit in 64 bits.
use Rattle.std.proofs.Common.{◌≡◌, ℕ, suc, ◌+◌, ◌-◌, ◌*◌, ◌/◌, ◌<◌, ◌≤◌, min, Bool, true, false, Option, Some, None, if◌then◌else◌, cond, refl, ap, arith}
use Rattle.std.proofs.Math.Nat.{lt-div-mul-add, mul-le-mul_left}
use Rattle.std.proofs.lemmas.Nat.{div_below}
use Rattle.std.proofs.lemmas.Bool.{le-leb, lt-leb}
use Rattle.fixed_enclosure.specs.Rounded.{greatest, saturated, fits, if_fits, quotient_up}

-- A quotient rounded up, times the divisor, is at least the number.
pub quotient_up-above : (n d : ℕ) → 0 < d → n ≤ quotient_up n d * d
quotient_up-above n d p = let h = lt-div-mul-add {a = n + (d - 1)} {b = d} p in omega (arith, h)

-- A quotient rounded up is the least number that, times the divisor, is at least the number.
pub quotient_up-least : (n d q : ℕ) → 0 < d → n ≤ q * d → quotient_up n d ≤ q
quotient_up-least n d q p h = let b : (n + (d - 1)) / d < suc q = div_below (n + (d - 1)) d (suc q) p (omega arith) in omega arith

-- A greater number and a lesser divisor give no lesser quotient.
pub quotient_up-monotone : (n m c d : ℕ) → 0 < d → d ≤ c → n ≤ m → quotient_up n c ≤ quotient_up m d
quotient_up-monotone n m c d p h k = quotient_up-least n c (quotient_up m d) (omega arith) (omega (arith, quotient_up-above m d p, mul-le-mul_left (quotient_up m d) h))

-- A saturated number is at most the number.
pub saturated-le : (n : ℕ) → saturated n ≤ n
saturated-le n = least n greatest
  where
    least : (a b : ℕ) → min a b ≤ a
    least a b = omega arith

-- A number that is there because it fits is the number itself.
pub fitting : (b : Bool) (n : ℕ) {v : ℕ} → (if b then Some n else None) ≡ Some v → n ≡ v
fitting true n e = cc
fitting false n e = absurd (cc)

-- A value behind a test is there where the test passes.
pub guarded : (b : Bool) (o : Option ℕ) {v : ℕ} → (if b then o else None) ≡ Some v → (b ≡ true) × (o ≡ Some v)
guarded true o e = (refl, e)
guarded false o e = absurd (cc)

-- What fits is the number itself.
pub if_fits-same : (n v : ℕ) → if_fits n ≡ Some v → n ≡ v
if_fits-same n v e = fitting (fits n) n e

-- A number up to the greatest one fits.
pub if_fits-within : (n : ℕ) → n ≤ greatest → if_fits n ≡ Some n
if_fits-within n h = ap (λ b. cond b (Some n) None) (le-leb n greatest h)

-- A number above the greatest one does not.
pub if_fits-past : (n : ℕ) → greatest < n → if_fits n ≡ None
if_fits-past n h = ap (λ b. cond b (Some n) None) (lt-leb n greatest h)
