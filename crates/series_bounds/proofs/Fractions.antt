-- Fractions: products, differences and values at F fraction bits.
use Rattle.std.proofs.Common.{ℕ, ◌+◌, ◌*◌, ◌^◌, ◌<◌, ◌≤◌, arith}
use Rattle.std.proofs.Math.Nat.{mul-le-mul_right, le_of_mul-le-mul_right}
use Rattle.bz_model.specs.Fraction.{Fraction, AtMost, plus, times, whole, units}
pub use Rattle.bz_model.proofs.Fractions.{AtMost-trans, AtMost-refl, plus-mono, times-mono, plus-assoc, plus-assoc', times-plus, times-plus'}

-- The product (a * b) * c of fractions is at most a * (b * c).
pub times-assoc : (a b c : Fraction) → AtMost (times (times a b) c) (times a (times b c))
times-assoc a b c = omega arith

-- The product a * (b * c) of fractions is at most (a * b) * c.
pub times-assoc' : (a b c : Fraction) → AtMost (times a (times b c)) (times (times a b) c)
times-assoc' a b c = omega arith

pub times-swap : (a b c : Fraction) → AtMost (times a (times b c)) (times b (times a c))
times-swap a b c = omega arith

pub times-comm : (a b : Fraction) → AtMost (times a b) (times b a)
times-comm a b = omega arith

pub times-zero : (a : Fraction) → AtMost (times a (whole 0)) (whole 0)
times-zero a = omega arith

-- Each fraction is at least 0.
pub zero-least : (a : Fraction) → AtMost (whole 0) a
zero-least a = omega arith

pub plus-left : (a b : Fraction) → AtMost a (plus a b)
plus-left a b = omega arith

-- A fraction b is at most the sum a + b.
pub plus-right : (a b : Fraction) → AtMost b (plus a b)
plus-right a b = omega arith

cancel_nat : (k a a' b b' : ℕ) → 0 < k → (k * a) * (1 * b') ≤ (k * b) * (1 * a') → a * b' ≤ b * a'
cancel_nat k a a' b b' p h = le_of_mul-le-mul_right {k = k} (omega (arith, h)) p

-- a positive whole factor goes from both sides
pub cancel : {k : ℕ} {a b : Fraction} → 0 < k → AtMost (times (whole k) a) (times (whole k) b) → AtMost a b
cancel {k} {a} {b} p h = record { cross = cancel_nat k a.num a.den b.num b.den p h.cross }

units_plus_nat : (D a b : ℕ) → (a * D + b * D) * D ≤ (a + b) * (D * D)
units_plus_nat D a b = omega arith

units_plus_nat' : (D a b : ℕ) → (a + b) * (D * D) ≤ (a * D + b * D) * D
units_plus_nat' D a b = omega arith

-- The sum of a / 2^F and b / 2^F is at most (a + b) / 2^F.
pub units-plus : (F a b : ℕ) → AtMost (plus (units F a) (units F b)) (units F (a + b))
units-plus F a b = record { cross = units_plus_nat (2 ^ F) a b }

-- The value (a + b) / 2^F is at most the sum of a / 2^F and b / 2^F.
pub units-plus' : (F a b : ℕ) → AtMost (units F (a + b)) (plus (units F a) (units F b))
units-plus' F a b = record { cross = units_plus_nat' (2 ^ F) a b }

-- Where a is at most b, the value a / 2^F is at most b / 2^F.
pub units-mono : (F : ℕ) {a b : ℕ} → a ≤ b → AtMost (units F a) (units F b)
units-mono F {a} {b} h = record { cross = mul-le-mul_right (2 ^ F) h }
