-- Equal fractions are rounded to the same scaled numbers, and the fractions that the walk rounds.
use Rattle.std.proofs.Common.{◌≡◌, ℕ, ◌+◌, ◌*◌, ◌^◌, ◌<◌, ◌≤◌, arith, ap, sym, ◌∙◌}
use Rattle.std.specs.Prelude.{max}
use Rattle.std.proofs.Math.Nat.{mul-pos}
use Rattle.bz_model.specs.Fraction.{Fraction, times, whole, ratio}
use Rattle.bz_laws.specs.Terms.{AreEqual}
use Rattle.bz_laws.proofs.Fractions.{AtMost-trans}
use Rattle.bz_laws.proofs.Lists.{equal-refl, equal-trans}
use Rattle.chance_law.specs.declared.scaled.Scaled.{Scaled}
use Rattle.chance_law.specs.Scaled.{rise, fall, value, IsRoundedDown, IsRoundedUp}
use Rattle.chance_law.specs.Chance.{divided_by_units}
use Rattle.chance_law.proofs.Multiplied.{equal-times}
use Rattle.chance_law.proofs.Rounding.{power-sum}

-- What a fraction is rounded down to, an equal fraction is rounded down to as well.
pub down-equal : {f g : Fraction} (s : Scaled) → AreEqual f g → IsRoundedDown f s → IsRoundedDown g s
down-equal s e h = record {
  scaled = h.scaled;
  at_most = AtMost-trans h.at_most e.at_most;
  greatest = λ t n le. h.greatest t n (AtMost-trans le e.at_least);
}

-- What a fraction is rounded up to, an equal fraction is rounded up to as well.
pub up-equal : {f g : Fraction} (s : Scaled) → AreEqual f g → IsRoundedUp f s → IsRoundedUp g s
up-equal s e h = record {
  scaled = h.scaled;
  at_least = AtMost-trans e.at_least h.at_least;
  least = λ t n le. h.least t n (AtMost-trans e.at_most le);
}

-- A number over another as a product.
quotient_nat : (n m : ℕ) → (n * 1) * m ≤ n * (1 * m)
quotient_nat n m = omega arith

quotient_nat' : (n m : ℕ) → n * (1 * m) ≤ (n * 1) * m
quotient_nat' n m = omega arith

-- A fraction that equals n, times one part in d, equals the ratio of n to d.
pub ratio-is : (v : Fraction) (n d : ℕ) → AreEqual v (whole n) → AreEqual (times v (ratio 1 d)) (ratio n d)
ratio-is v n d e = equal-trans (equal-times e (equal-refl (ratio 1 d))) (record { at_most = record { cross = quotient_nat n (max d 1) }; at_least = record { cross = quotient_nat' n (max d 1) } })

-- A number moved by 2^F, over a number of units.
units_nat : (n p d v q m : ℕ) → q ≡ d * v → m ≡ v → ((n * p) * 1) * q ≤ (n * p) * ((d * 1) * m)
units_nat n p d v q m e h = rw (e, h) (omega arith)

units_nat' : (n p d v q m : ℕ) → q ≡ d * v → m ≡ v → (n * p) * ((d * 1) * m) ≤ ((n * p) * 1) * q
units_nat' n p d v q m e h = rw (e, h) (omega arith)

max-pos : (n : ℕ) → 0 < n → max n 1 ≡ n
max-pos n h = omega arith

-- Where g equals f times 2^F and v isn't 0, one part in v of g equals f divided by v units of 2^-F.
pub units-quotient : (f g : Fraction) (F v : ℕ) → 0 < v → AreEqual g (times f (whole (2 ^ F))) → AreEqual (times g (ratio 1 v)) (divided_by_units f F v)
units-quotient f g F v pos e =
    let p = max-pos (f.den * v) (mul-pos f.positive pos) in
    let q = max-pos v pos in
    equal-trans (equal-times e (equal-refl (ratio 1 v))) (record {
      at_most = record { cross = units_nat f.num (2 ^ F) f.den v (max (f.den * v) 1) (max v 1) p q };
      at_least = record { cross = units_nat' f.num (2 ^ F) f.den v (max (f.den * v) 1) (max v 1) p q };
    })

-- One part in 0 is one part in 1.
one_nat : (n d m k : ℕ) → m ≡ k → (n * 1) * (d * k) ≤ (n * 1) * (d * m)
one_nat n d m k e = rw e (omega arith)

pub at-least-one : (f : Fraction) (n d : ℕ) → d ≡ max n 1 → AreEqual (times f (ratio 1 d)) (times f (ratio 1 n))
at-least-one f n d e =
    let same : max d 1 ≡ max n 1 = omega arith in
    record { at_most = record { cross = one_nat f.num f.den (max d 1) (max n 1) same }; at_least = record { cross = one_nat f.num f.den (max n 1) (max d 1) (sym same) } }

-- The same digits with an exponent that is greater by k.
power_nat : (m a b x y z ab xy xyz : ℕ) → ab ≡ a * b → xy ≡ x * y → xyz ≡ xy * z → ab ≡ xyz → (m * a) * (b * 1) ≡ ((m * y) * z) * x
power_nat m a b x y z ab xy xyz p q r e =
    let h : a * b ≡ (x * y) * z = sym p ∙ e ∙ r ∙ ap (λ n. n * z) q in
    let g = ap (λ n. m * n) h in
    omega arith

-- Scaled numbers with the same digits, the first with an exponent greater by k, differ in value by
-- the factor 2^k.
pub power-exact : (s r : Scaled) (k : ℕ) → r.m ≡ s.m → rise r.e + fall s.e ≡ fall r.e + rise s.e + k → AreEqual (value r) (times (value s) (whole (2 ^ k)))
power-exact s r k same e =
    let h = power_nat s.m (2 ^ rise r.e) (2 ^ fall s.e) (2 ^ fall r.e) (2 ^ rise s.e) (2 ^ k) (2 ^ (rise r.e + fall s.e)) (2 ^ (fall r.e + rise s.e)) (2 ^ (fall r.e + rise s.e + k)) (power-sum (rise r.e) (fall s.e)) (power-sum (fall r.e) (rise s.e)) (power-sum (fall r.e + rise s.e) k) (ap (λ n. 2 ^ n) e) in
    let g : (r.m * 2 ^ rise r.e) * (2 ^ fall s.e * 1) ≡ ((s.m * 2 ^ rise s.e) * 2 ^ k) * 2 ^ fall r.e = ap (λ m. (m * 2 ^ rise r.e) * (2 ^ fall s.e * 1)) same ∙ h in
    record { at_most = record { cross = omega arith }; at_least = record { cross = omega arith } }
