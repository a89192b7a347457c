-- The whole number that a cell decides is that of each number of the cell, and a straddling cell has numbers of two.
use Rattle.std.proofs.Common.{◌≡◌, ℕ, suc, ◌+◌, ◌*◌, ◌/◌, ◌^◌, ◌<◌, ◌≤◌, arith}
use Rattle.std.proofs.Math.Nat.{mul-le-mul_right, le_of_mul-le-mul_right, div-mul-le_self, lt-div-mul-add}
use Rattle.std.proofs.lemmas.Nat.{pow_pos, div_below, le-div}
use Rattle.bz_model.specs.Fraction.{fraction_of}
use Rattle.bz_model.specs.Cell.{IsInCell}
use Rattle.choice_draw.specs.Whole.{Decides}

-- the only quotient between these
pub quotient_is : (n d i : ℕ) → 0 < d → i * d ≤ n → n < suc i * d → n / d ≡ i
quotient_is n d i pos from below = let at_least = le-div i n d pos from in let less = div_below n d (suc i) pos below in omega arith

-- p/q is the number, w is 2^b, i is the whole number of the cell's begin
floor_from : (p q k w m i : ℕ) → 0 < w → i * w ≤ k * m → k * q ≤ p * w → i * q ≤ p * m
floor_from p q k w m i pos begin from =
    let a : i * w * q ≤ k * m * q = mul-le-mul_right q begin in
    let b : k * q * m ≤ p * w * m = mul-le-mul_right m from in
    le_of_mul-le-mul_right {k = w} (omega arith) pos

floor_to : (p q k w m i : ℕ) → 0 < w → 0 < m → suc k * m ≤ suc i * w → p * w < suc k * q → p * m < suc i * q
floor_to p q k w m i wpos mpos end to =
    let a : suc k * m * q ≤ suc i * w * q = mul-le-mul_right q end in
    let b : suc (p * w) * m ≤ suc k * q * m = mul-le-mul_right m to in
    let out : suc i * q ≤ p * m → ⊥ = λ le. let c : suc i * q * w ≤ p * m * w = mul-le-mul_right w le in omega arith in
    omega (arith, out)

-- each number of the cell has the whole number of its begin, where the cell ends at or before that number's end
pub decides-begin : (k b m : ℕ) → 0 < m → suc k * m ≤ suc (k * m / 2 ^ b) * 2 ^ b → Decides k b m (k * m / 2 ^ b)
decides-begin k b m pos end u inside =
    let w_pos : 0 < 2 ^ b = pow_pos b in
    let i : ℕ = k * m / 2 ^ b in
    let begin : k * m / 2 ^ b * 2 ^ b ≤ k * m = div-mul-le_self (k * m) (2 ^ b) in
    quotient_is (u.num * m) u.den (k * m / 2 ^ b) u.positive (floor_from u.num u.den k (2 ^ b) m (k * m / 2 ^ b) w_pos begin inside.from) (floor_to u.num u.den k (2 ^ b) m (k * m / 2 ^ b) w_pos pos end inside.to)

-- the begin of a cell lies in it
begin_inside : (k b : ℕ) → IsInCell k b (fraction_of k (2 ^ b) (pow_pos b))
begin_inside k b = record { from = omega arith; to = let pos : 0 < 2 ^ b = pow_pos b in omega arith }

-- (i + 1) / m lies in a cell that begins before it and ends after it
end_inside : (k b m i : ℕ) → (pos : 0 < m) → k * m < suc i * 2 ^ b → suc i * 2 ^ b < suc k * m → IsInCell k b (fraction_of (suc i) m pos)
end_inside k b m i pos begin end = record { from = omega arith; to = omega arith }

-- a cell that ends after the end of its begin's whole number decides nothing
pub straddles-none : (k b m : ℕ) → 0 < m → suc (k * m / 2 ^ b) * 2 ^ b < suc k * m → (i : ℕ) → ¬ (Decides k b m i)
straddles-none k b m pos end i all =
    let first : k * m / 2 ^ b ≡ i = all (fraction_of k (2 ^ b) (pow_pos b)) (begin_inside k b) in
    let begin : k * m < k * m / 2 ^ b * 2 ^ b + 2 ^ b = lt-div-mul-add (pow_pos b) in
    let second : suc (k * m / 2 ^ b) * m / m ≡ i = all (fraction_of (suc (k * m / 2 ^ b)) m pos) (end_inside k b m (k * m / 2 ^ b) pos (omega arith) end) in
    let back : suc (k * m / 2 ^ b) * m / m ≡ suc (k * m / 2 ^ b) = quotient_is (suc (k * m / 2 ^ b) * m) m (suc (k * m / 2 ^ b)) pos (omega arith) (omega arith) in
    omega arith
