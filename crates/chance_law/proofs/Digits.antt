-- The highest 64 digits of a whole number.
use Rattle.std.proofs.Common.{◌≡◌, ℕ, suc, ◌+◌, ◌-◌, ◌*◌, ◌/◌, ◌^◌, ◌<◌, ◌≤◌, arith, ap, min}
use Rattle.std.proofs.Math.Nat.{mul-le-mul_right}
use Rattle.std.proofs.lemmas.Nat.{pow_pos, leading_top}
use lib.Count.{count_leading_zeros}
use Rattle.chance_law.proofs.Rounding.{Powers, powers, power-sum}

quotient_at_least : (a n d : ℕ) → 0 < d → a * d ≤ n → a ≤ n / d
quotient_at_least a n d h le =
    let out : n / d + 1 ≤ a → ⊥ = λ k. (let u = mul-le-mul_right d k in omega arith) in
    omega (arith, out)

quotient_below : (a n d : ℕ) → 0 < d → n < a * d → n / d < a
quotient_below a n d h lt =
    let out : a ≤ n / d → ⊥ = λ k. (let u = mul-le-mul_right d k in omega arith) in
    omega (arith, out)

exponent_at_least : (i j : ℕ) → 2 ^ i < 2 ^ suc j → i ≤ j
exponent_at_least i j lt = elim (powers i (suc j)) [
  | Powers.same e f ↦ absurd (omega arith)
  | Powers.less l f ↦ omega arith
  | Powers.more l f ↦ let z : 0 < 2 ^ suc j = pow_pos (suc j) in absurd (omega arith)
]

-- A number from 2^63 to below 2^128, with its binary digits past the highest 64 left out, has
-- exactly 64 binary digits.
pub highest : (n left : ℕ) → 2 ^ 63 ≤ n → n < 2 ^ 128 → left ≡ 64 - min (count_leading_zeros 128 n) 64 → (2 ^ 63 ≤ n / 2 ^ left) × (n / 2 ^ left < 2 ^ 64)
highest n left from below is =
    let t = leading_top 128 n (omega arith) below in
    let j = t.0 in
    let a = t.1 in
    let b = t.2 in
    let c = t.3 in
    let ge : 63 ≤ j = exponent_at_least 63 j (omega arith) in
    let same : 63 + left ≡ j = omega arith in
    let next : 64 + left ≡ suc j = omega arith in
    let p : 2 ^ (63 + left) ≡ 2 ^ 63 * 2 ^ left = power-sum 63 left in
    let q : 2 ^ (64 + left) ≡ 2 ^ 64 * 2 ^ left = power-sum 64 left in
    let u : 2 ^ (63 + left) ≡ 2 ^ j = ap (λ z. 2 ^ z) same in
    let v : 2 ^ (64 + left) ≡ 2 ^ suc j = ap (λ z. 2 ^ z) next in
    (quotient_at_least (2 ^ 63) n (2 ^ left) (pow_pos left) (omega arith), quotient_below (2 ^ 64) n (2 ^ left) (pow_pos left) (omega arith))

-- A whole number of up to 64 digits, moved up by its leading zeros, has 64 digits.
pub whole-digits : (n z : ℕ) → 1 ≤ n → n < 2 ^ 64 → z ≡ count_leading_zeros 64 n → (2 ^ 63 ≤ n * 2 ^ z) × (n * 2 ^ z < 2 ^ 64)
whole-digits n z from below is =
    let t = leading_top 64 n (omega arith) below in
    let j = t.0 in
    let c = t.1 in
    let a = t.2 in
    let b = t.3 in
    let same : j + z ≡ 63 = omega arith in
    let p : 2 ^ (j + z) ≡ 2 ^ j * 2 ^ z = power-sum j z in
    let q : 2 ^ (suc j + z) ≡ 2 ^ suc j * 2 ^ z = power-sum (suc j) z in
    let u : 2 ^ (j + z) ≡ 2 ^ 63 = ap (λ i. 2 ^ i) same in
    let v : 2 ^ (suc j + z) ≡ 2 ^ 64 = ap (λ i. 2 ^ i) (let e : suc j + z ≡ 64 = omega arith in e) in
    let l = mul-le-mul_right (2 ^ z) a in
    let h = mul-le-mul_right (2 ^ z) b in
    let some : 0 < 2 ^ z = pow_pos z in
    (omega arith, omega arith)
