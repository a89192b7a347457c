-- Bounds that pass a test of a cell decide for each number of the cell.
use Rattle.std.proofs.Common.{ℕ, suc, ◌+◌, ◌*◌, ◌^◌, ◌<◌, ◌≤◌, arith}
use Rattle.std.proofs.Math.Nat.{mul-pos, mul-le-mul_right}
use Rattle.std.proofs.lemmas.Nat.{pow_pos}
use Rattle.bz_model.specs.Fraction.{Fraction, IsUniform, units}
use Rattle.bz_model.specs.Spec.{Spec}
use Rattle.bz_model.specs.Object.{Belongs}
use Rattle.bz_model.specs.Totals.{Above, Below}
use Rattle.bz_model.specs.Ideal.{Before, Upto}
use Rattle.bz_model.specs.Cell.{IsInCell}
use Rattle.bz_laws.proofs.Fractions.{AtMost-trans, AtMost-refl, plus-mono, times-mono}

-- p/q is u, n is 2^b, d is 2^F
gap_nat : (p q k n hi lo d : ℕ) → 0 < hi → p * n < suc k * q → suc k * hi ≤ n * lo → (p * hi * (q * (n * d)) + 1 * (q * d)) * d ≤ lo * (q * d * (q * (n * d)))
gap_nat p q k n hi lo d pos c h =
    let a : suc (p * n) * hi ≤ suc k * q * hi = mul-le-mul_right hi c in
    let b : suc k * hi * q ≤ n * lo * q = mul-le-mul_right q h in
    let e : p * hi * n + 1 ≤ lo * q * n = omega arith in
    omega (arith, mul-le-mul_right (q * d * d) e)

-- the first test: each number of the cell is before the option's end
pub passes : (s : Spec) (x u : Fraction) (k b F e i lo hi : ℕ) → 0 < hi → Above x (units F hi) (Belongs s e) → Below x (units F lo) (Upto s e i) → suc k * hi ≤ 2 ^ b * lo → IsInCell k b u → Before s x u e i
passes s x u k b F e i lo hi pos up down h cell = record {
  list = down.list;
  sample = down.sample;
  gap = u.den * (2 ^ b * 2 ^ F);
  gap_pos = mul-pos u.positive (mul-pos (pow_pos b) (pow_pos F));
  reached = λ os s.
      AtMost-trans (plus-mono (times-mono (AtMost-refl u) (up.holds os s)) (AtMost-refl _))
      (AtMost-trans {b = units F lo} (record { cross = gap_nat u.num u.den k (2 ^ b) hi lo (2 ^ F) pos cell.to h }) down.reached);
}

-- against a gap of 1/g
close_nat : (p q k n lo hi d g : ℕ) → 0 < q → 0 < n → 0 < d → 0 < g → k * q ≤ p * n → n * hi ≤ k * lo → (p * lo * g + 1 * (q * d)) * d ≤ hi * (q * d * g) → ⊥
close_nat p q k n lo hi d g qp np dp gp c h r =
    let a : k * q * lo ≤ p * n * lo = mul-le-mul_right lo c in
    let b : n * hi * q ≤ k * lo * q = mul-le-mul_right q h in
    let e : hi * q * n ≤ p * lo * n = omega arith in
    let e2 : hi * q * n * (g * d) ≤ p * lo * n * (g * d) = mul-le-mul_right (g * d) e in
    let r2 : (p * lo * g + 1 * (q * d)) * d * n ≤ hi * (q * d * g) * n = mul-le-mul_right n r in
    let pos : 0 < q * d * d * n = mul-pos (mul-pos (mul-pos qp dp) dp) np in
    omega arith

-- the second test: no number of the cell is before the option's end
pub fails : (s : Spec) (x u : Fraction) (k b F e i lo hi : ℕ) → Below x (units F lo) (Belongs s e) → Above x (units F hi) (Upto s e i) → 2 ^ b * hi ≤ k * lo → IsInCell k b u → ¬ (Before s x u e i)
fails s x u k b F e i lo hi down up h cell before =
    close_nat u.num u.den k (2 ^ b) lo hi (2 ^ F) before.gap u.positive (pow_pos b) (pow_pos F) before.gap_pos cell.from h
    (AtMost-trans (plus-mono (times-mono (AtMost-refl u) down.reached) (AtMost-refl _))
    (AtMost-trans (before.reached down.list down.sample) (up.holds before.list before.sample))).cross

-- a number of a cell below 1 is below 1
pub uniform : (k b : ℕ) (u : Fraction) → k < 2 ^ b → IsInCell k b u → IsUniform u
uniform k b u h cell =
    let a : u.num * 2 ^ b < u.den * 2 ^ b = let c : suc k * u.den ≤ 2 ^ b * u.den = mul-le-mul_right u.den h in let d = cell.to in omega arith in
    let out : u.den ≤ u.num → ⊥ = λ le. let m : u.den * 2 ^ b ≤ u.num * 2 ^ b = mul-le-mul_right (2 ^ b) le in omega arith in
    omega (arith, out)
