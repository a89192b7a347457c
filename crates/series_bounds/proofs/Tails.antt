-- What is left of a series whose terms shrink by a factor.
use Rattle.std.proofs.Common.{◌≡◌, ℕ, zero, suc, ◌+◌, ◌-◌, ◌*◌, ◌^◌, ◌<◌, ◌≤◌, arith, refl, subst, pow-add, two-mul}
use Rattle.std.proofs.Math.Nat.{mul-le-mul_right, mul-pos}
use Rattle.bz_model.specs.Fraction.{Fraction, AtMost, plus, times, whole, units, power, sum_from}
use Rattle.bz_model.specs.Measures.{factorial}
use Rattle.fixed_enclosure.specs.Rounded.{Side, quotient_up}
use Rattle.series_bounds.specs.Series.{Kind, carried, log_rest}
use Rattle.series_bounds.specs.ExactSums.{exact}
use Rattle.series_bounds.proofs.Fractions.{AtMost-trans, AtMost-refl, plus-mono, times-plus, cancel}
use Rattle.series_bounds.proofs.Terms.{carried-up}
use Rattle.fixed_enclosure.proofs.Quotients.{quotient_up-above}

-- from term j on, each term is at most r / (k + r) of the one before it
pub record Shrinks (e : ℕ → Fraction) (j k r : ℕ) : Type 0 where
  pub step : (i : ℕ) → j ≤ i → AtMost (times (whole (k + r)) (e (suc i))) (times (whole r) (e i))

together : (k r : ℕ) (a : Fraction) → AtMost (plus (times (whole k) a) (times (whole r) a)) (times (whole (k + r)) a)
together k r a = omega arith

-- all that is left is at most (k + r) / k of the next term
pub tail : {e : ℕ → Fraction} {k r : ℕ} (j : ℕ) → Shrinks e j k r → (n : ℕ) → AtMost (times (whole k) (sum_from e j n)) (times (whole (k + r)) (e j))
tail j h zero = omega arith
tail {e} {k} {r} j h (suc n) =
    AtMost-trans (times-plus (whole k) (e j) (sum_from e (suc j) n))
    (AtMost-trans (plus-mono (AtMost-refl (times (whole k) (e j))) (AtMost-trans (tail (suc j) (record { step = λ i le. h.step i (omega arith) }) n) (h.step j (omega arith))))
    (together k r (e j)))

-- so a rest is enough that is at least (k + r) / k of the next term
pub rest-bounds : {e : ℕ → Fraction} {k r : ℕ} {rest : Fraction} (j : ℕ) → 0 < k → Shrinks e j k r → AtMost (times (whole (k + r)) (e j)) (times (whole k) rest) → (n : ℕ) → AtMost (sum_from e j n) rest
rest-bounds j p h up n = cancel p (AtMost-trans (tail j h n) up)

halves : (v p f q s D : ℕ) → 2 * v ≤ s * D → (2 * (1 * (v * p))) * (1 * (f * q)) ≤ (1 * (1 * p)) * (1 * ((s * f) * (D * q)))
halves v p f q s D h = omega (arith, mul-le-mul_right (p * (f * q)) h)

-- the exponential: from term 31 on each term is at most half the one before it
pub set-shrinks : (F a j : ℕ) → a ≤ 16 * 2 ^ F → 31 ≤ j → Shrinks (exact Kind.Set (units F a)) j 1 1
set-shrinks F a j h le = record { step = λ i k. record { cross = halves a (power (units F a) i).num (factorial i) (power (units F a) i).den (suc i) (2 ^ F) (enough i k) } }
  where
    enough : (i : ℕ) → j ≤ i → 2 * a ≤ suc i * 2 ^ F
    enough i k = let m : 32 * 2 ^ F ≤ suc i * 2 ^ F = mul-le-mul_right (2 ^ F) (omega arith) in omega (arith, m)

-- the exponential's rest after n terms: twice the next one
pub set-rest : (F a n : ℕ) → a ≤ 16 * 2 ^ F → 31 ≤ n → (m : ℕ) → AtMost (sum_from (exact Kind.Set (units F a)) n m) (units F (2 * carried Side.Up Kind.Set F a n))
set-rest F a n h le = rest-bounds n (omega arith) (set-shrinks F a n h le) (twice (exact Kind.Set (units F a) n) (carried-up Kind.Set F a n))
  where
    twice_nat : (c d p q : ℕ) → p * d ≤ c * q → (2 * p) * (1 * d) ≤ (1 * (2 * c)) * (1 * q)
    twice_nat c d p q k = omega (arith, k)

    twice : {c : ℕ} (x : Fraction) → AtMost x (units F c) → AtMost (times (whole 2) x) (times (whole 1) (units F (2 * c)))
    twice {c} x k = record { cross = twice_nat c (2 ^ F) x.num x.den k.cross }

cyc_nat : (v p q i s D : ℕ) → i ≤ s → (D * (1 * (v * p))) * (1 * (i * q)) ≤ (v * (1 * p)) * (1 * (s * (D * q)))
cyc_nat v p q i s D h = omega (arith, mul-le-mul_right (D * v * p * q) h)

seq_nat : (v p q D : ℕ) → (D * (1 * (v * p))) * (1 * (1 * q)) ≤ (v * (1 * p)) * (1 * (1 * (D * q)))
seq_nat v p q D = omega arith

-- the powers: each is a / 2^F of the one before it
pub seq-shrinks : (F a j : ℕ) → a < 2 ^ F → Shrinks (exact Kind.Seq (units F a)) j (2 ^ F - a) a
seq-shrinks F a j h = record { step = λ i k. step i }
  where
    whole_part : 2 ^ F ≡ (2 ^ F - a) + a
    whole_part = omega arith

    step : (i : ℕ) → AtMost (times (whole ((2 ^ F - a) + a)) (exact Kind.Seq (units F a) (suc i))) (times (whole a) (exact Kind.Seq (units F a) i))
    step i = subst (λ d. AtMost (times (whole d) (exact Kind.Seq (units F a) (suc i))) (times (whole a) (exact Kind.Seq (units F a) i))) whole_part (record { cross = seq_nat a (power (units F a) i).num (power (units F a) i).den (2 ^ F) })

seq_rest_nat : (D k rest : ℕ) → D * D ≤ rest * k → (D * (1 * 1)) * (1 * D) ≤ (k * rest) * (1 * (1 * 1))
seq_rest_nat D k rest h = omega (arith, h)

-- 2^(2F) / (2^F - a), rounded up
abbrev pub geometric_up : (f a : ℕ) → ℕ
geometric_up f a = quotient_up (2 ^ (2 * f)) (2 ^ f - a)

-- the whole geometric series: at most 2^(2F) / (2^F - a), rounded up
pub seq-above : (F a : ℕ) → a < 2 ^ F → (n : ℕ) → AtMost (sum_from (exact Kind.Seq (units F a)) 0 n) (units F (geometric_up F a))
seq-above F a h = rest-bounds 0 (omega arith) (seq-shrinks F a 0 h) (subst (λ d. AtMost (times (whole d) (exact Kind.Seq (units F a) 0)) (times (whole (2 ^ F - a)) (units F (geometric_up F a)))) whole_part (record { cross = seq_rest_nat (2 ^ F) (2 ^ F - a) (geometric_up F a) enough }))
  where
    whole_part : 2 ^ F ≡ (2 ^ F - a) + a
    whole_part = omega arith

    square : 2 ^ (2 * F) ≡ 2 ^ F * 2 ^ F
    square = rw (two-mul, pow-add) refl

    enough : 2 ^ F * 2 ^ F ≤ geometric_up F a * (2 ^ F - a)
    enough = omega (arith, square, quotient_up-above (2 ^ (2 * F)) (2 ^ F - a) (omega arith))

-- the logarithm: each term is at most a / 2^F of the one before it
pub cyc-shrinks : (F a j : ℕ) → a < 2 ^ F → 1 ≤ j → Shrinks (exact Kind.Cyc (units F a)) j (2 ^ F - a) a
cyc-shrinks F a j h le = record { step = λ i k. step i (omega arith) }
  where
    whole_part : 2 ^ F ≡ (2 ^ F - a) + a
    whole_part = omega arith

    plain : (i : ℕ) → 1 ≤ i → AtMost (times (whole (2 ^ F)) (exact Kind.Cyc (units F a) (suc i))) (times (whole a) (exact Kind.Cyc (units F a) i))
    plain zero k = absurd (omega arith)
    plain (suc i) k = record { cross = cyc_nat a (power (units F a) (suc i)).num (power (units F a) (suc i)).den (suc i) (suc (suc i)) (2 ^ F) (omega arith) }

    step : (i : ℕ) → 1 ≤ i → AtMost (times (whole ((2 ^ F - a) + a)) (exact Kind.Cyc (units F a) (suc i))) (times (whole a) (exact Kind.Cyc (units F a) i))
    step i k = subst (λ d. AtMost (times (whole d) (exact Kind.Cyc (units F a) (suc i))) (times (whole a) (exact Kind.Cyc (units F a) i))) whole_part (plain i k)

log_rest_nat : (D k c rest p q s : ℕ) → (1 * p) * D ≤ c * (1 * q) → c * D ≤ rest * (s * k) → (D * (1 * p)) * (1 * D) ≤ (k * rest) * (1 * (s * q))
log_rest_nat D k c rest p q s h g = omega (arith, mul-le-mul_right D h, mul-le-mul_right q g)

-- the logarithm's rest after term j
pub cyc-rest : (F a j : ℕ) → a < 2 ^ F → (m : ℕ) → AtMost (sum_from (exact Kind.Cyc (units F a)) (suc j) m) (units F (log_rest F a j))
cyc-rest F a j h = rest-bounds (suc j) (omega arith) (cyc-shrinks F a (suc j) h (omega arith)) (subst (λ d. AtMost (times (whole d) (exact Kind.Cyc (units F a) (suc j))) (times (whole (2 ^ F - a)) (units F (log_rest F a j)))) whole_part (record { cross = log_rest_nat (2 ^ F) (2 ^ F - a) (carried Side.Up Kind.Cyc F a (suc j)) (log_rest F a j) (power (units F a) (suc j)).num (power (units F a) (suc j)).den (suc j) (carried-up Kind.Cyc F a (suc j)).cross (quotient_up-above (carried Side.Up Kind.Cyc F a (suc j) * 2 ^ F) (suc j * (2 ^ F - a)) (mul-pos (omega arith) (omega arith))) }))
  where
    whole_part : 2 ^ F ≡ (2 ^ F - a) + a
    whole_part = omega arith
