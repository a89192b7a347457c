-- A product divided by a power of 2, the factor taken in two halves, and quotients taken one after the other.
use Rattle.std.proofs.Common.{◌≡◌, ℕ, suc, ◌+◌, ◌-◌, ◌*◌, ◌/◌, ◌%◌, ◌^◌, ◌<◌, ◌≤◌, sym, ◌∙◌, ap, arith, pow_pos, pow-add}
use Rattle.std.proofs.Math.Nat.{mul-add-div_right, div-div-eq-div-mul, div-le_of_le-mul, pow-le-pow_right, mul-le-mul_right, mul-pos, mod-add-div, le_antisymm}
use Rattle.std.proofs.lemmas.Nat.{mul-le}
use Rattle.fixed_enclosure.specs.Rounded.{quotient_up}
use Rattle.fixed_enclosure.proofs.Quotients.{quotient_up-above, quotient_up-least}

split_nat : (q l a r w d h c : ℕ) → w * d ≡ h → l + h * q ≡ c → q * a * w * d + (l * a + r) ≡ c * a + r
split_nat q l a r w d h c e k = let m : q * a * (w * d) ≡ q * a * h = ap (λ x. q * a * x) e in let n : (l + h * q) * a ≡ c * a = ap (λ x. x * a) k in omega (arith, m, n)

-- The upper half's product is divided without a rest.
pub halves : (f c a r : ℕ) → f ≤ 64 → c / 2 ^ 64 * a * 2 ^ (64 - f) + (c % 2 ^ 64 * a + r) / 2 ^ f ≡ (c * a + r) / 2 ^ f
halves f c a r h =
    sym (mul-add-div_right (pow_pos f) (c / 2 ^ 64 * a * 2 ^ (64 - f)) (c % 2 ^ 64 * a + r))
    ∙ ap (λ n. n / 2 ^ f) (split_nat (c / 2 ^ 64) (c % 2 ^ 64) a r (2 ^ (64 - f)) (2 ^ f) (2 ^ 64) c whole (mod-add-div c (2 ^ 64)))
  where
    whole : 2 ^ (64 - f) * 2 ^ f ≡ 2 ^ 64
    whole = let s : 64 - f + f ≡ 64 = omega arith in sym (pow-add 2 (64 - f) f) ∙ ap (λ k. 2 ^ k) s

-- The result has at most 125 bits.
pub scaled-within : (f c a r : ℕ) → 24 ≤ f → c < 2 ^ 85 → a < 2 ^ 64 → r < 2 ^ f → (c * a + r) / 2 ^ f ≤ 2 ^ 125
scaled-within f c a r h k l m =
    let grows : 2 ^ 24 ≤ 2 ^ f = pow-le-pow_right (omega arith) h in
    let product : c * a ≤ (2 ^ 85 - 1) * (2 ^ 64 - 1) = mul-le c a (2 ^ 85 - 1) (2 ^ 64 - 1) (omega arith) (omega arith) in
    div-le_of_le-mul (2 ^ f) (omega (arith, grows, product))

-- A quotient divided again is the quotient by the product.
pub divided_again : (n d k : ℕ) → n / d / (k + 1) ≡ n / (suc k * d)
divided_again n d k = div-div-eq-div-mul n d (k + 1) ∙ ap (λ m. n / m) (order d k)
  where
    order : (d k : ℕ) → d * (k + 1) ≡ suc k * d
    order d k = omega arith

least_nat : (n q r d k : ℕ) → n ≤ q * d → q ≤ r * (k + 1) → n ≤ r * (suc k * d)
least_nat n q r d k h l = omega (arith, h, mul-le-mul_right d l)

-- So it is rounded up.
pub rounded_again : (n d k : ℕ) → 0 < d → (quotient_up n d + k) / (k + 1) ≡ quotient_up n (suc k * d)
rounded_again n d k p = ap (λ m. (quotient_up n d + m) / (k + 1)) (one_less k) ∙ le_antisymm below above
  where
    one_less : (k : ℕ) → k ≡ k + 1 - 1
    one_less k = omega arith

    both : 0 < suc k * d
    both = mul-pos (omega arith) p

    below : quotient_up (quotient_up n d) (k + 1) ≤ quotient_up n (suc k * d)
    below = quotient_up-least (quotient_up n d) (k + 1) (quotient_up n (suc k * d)) (omega arith) (quotient_up-least n d (quotient_up n (suc k * d) * (k + 1)) p (let h : n ≤ quotient_up n (suc k * d) * (suc k * d) = quotient_up-above n (suc k * d) both in omega (arith, h)))

    above : quotient_up n (suc k * d) ≤ quotient_up (quotient_up n d) (k + 1)
    above = quotient_up-least n (suc k * d) (quotient_up (quotient_up n d) (k + 1)) both (least_nat n (quotient_up n d) (quotient_up (quotient_up n d) (k + 1)) d k (quotient_up-above n d p) (quotient_up-above (quotient_up n d) (k + 1) (omega arith)))
