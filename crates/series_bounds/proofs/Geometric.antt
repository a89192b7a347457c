-- The lower value of the geometric series is reached by finitely many powers.
use Rattle.std.proofs.Common.{◌≡◌, ℕ, zero, suc, ◌+◌, ◌-◌, ◌*◌, ◌/◌, ◌^◌, ◌<◌, ◌≤◌, arith, refl, sym, subst, pow-add, two-mul}
use Rattle.std.proofs.Math.Nat.{mul-le-mul_left, le_of_mul-le-mul_right, mul-pos, div-mul-le_self}
use Rattle.bz_model.specs.Fraction.{Fraction, AtMost, plus, times, whole, units, power, sum_from}
use Rattle.series_bounds.specs.Series.{Kind}
use Rattle.series_bounds.specs.ExactSums.{exact}
use Rattle.series_bounds.proofs.Fractions.{AtMost-trans, AtMost-refl, plus-mono, plus-assoc', times-plus'}

-- each term is at least r / (k + r) of the one before it
pub record Keeps (e : ℕ → Fraction) (k r : ℕ) : Type 0 where
  pub step : (i : ℕ) → AtMost (times (whole r) (e i)) (times (whole (k + r)) (e (suc i)))

apart : (k r : ℕ) (a : Fraction) → AtMost (times (whole (k + r)) a) (plus (times (whole k) a) (times (whole r) a))
apart k r a = omega arith

none_yet : (k d : ℕ) (a : Fraction) → AtMost (times (whole d) a) (plus (times (whole k) (whole 0)) (times (whole d) a))
none_yet k d a = omega arith

-- what n terms and the term after them make up for
pub reached : {e : ℕ → Fraction} {k r : ℕ} → Keeps e k r → (n j last : ℕ) → last ≡ j + n → AtMost (times (whole (k + r)) (e j)) (plus (times (whole k) (sum_from e j n)) (times (whole (k + r)) (e last)))
reached {e} {k} {r} h zero j last eq = subst (λ i. AtMost (times (whole (k + r)) (e j)) (plus (times (whole k) (whole 0)) (times (whole (k + r)) (e i)))) here (none_yet k (k + r) (e j))
  where
    here : j ≡ last
    here = omega arith
reached {e} {k} {r} h (suc n) j last eq =
    AtMost-trans (apart k r (e j))
    (AtMost-trans (plus-mono (AtMost-refl (times (whole k) (e j))) (AtMost-trans (h.step j) (reached h n (suc j) last (omega arith))))
    (AtMost-trans (plus-assoc' (times (whole k) (e j)) (times (whole k) (sum_from e (suc j) n)) (times (whole (k + r)) (e last)))
    (plus-mono (times-plus' (whole k) (e j) (sum_from e (suc j) n)) (AtMost-refl _))))

bernoulli_nat : (a k m p q : ℕ) → p * (a + m * k) ≤ q * a → (a * p) * (a + suc m * k) ≤ ((a + k) * q) * a
bernoulli_nat a k m p q h = omega (arith, mul-le-mul_left (a + k) h)

bernoulli : (F a k m : ℕ) → 2 ^ F ≡ a + k → (power (units F a) m).num * (a + m * k) ≤ (power (units F a) m).den * a
bernoulli F a k zero e = omega arith
bernoulli F a k (suc m) e =
    subst (λ d. (a * (power (units F a) m).num) * (a + suc m * k) ≤ (d * (power (units F a) m).den) * a) (sym e) (bernoulli_nat a k m (power (units F a) m).num (power (units F a) m).den (bernoulli F a k m e))

small_nat : (a k p q D : ℕ) → 0 < a → p * (a + a * (D * D) * k) ≤ q * a → p * (D * D) * k ≤ q
small_nat a k p q D h b = le_of_mul-le-mul_right {k = a} (omega (arith, b)) h

seq_nat : (v p q D : ℕ) → (v * (1 * p)) * (1 * (1 * (D * q))) ≤ (D * (1 * (v * p))) * (1 * (1 * q))
seq_nat v p q D = omega arith

seq-keeps : (F a k : ℕ) → 2 ^ F ≡ k + a → Keeps (exact Kind.Seq (units F a)) k a
seq-keeps F a k e = record { step = λ i. subst (λ d. AtMost (times (whole a) (exact Kind.Seq (units F a) i)) (times (whole d) (exact Kind.Seq (units F a) (suc i)))) e (record { cross = seq_nat a (power (units F a) i).num (power (units F a) i).den (2 ^ F) }) }

less_one : (g x t : ℕ) → g * t ≤ x + t → (g - 1) * t ≤ x
less_one zero x t h = omega arith
less_one (suc g) x t h = let e : g ≡ suc g - 1 = omega arith in subst (λ d. d * t ≤ x) e (omega arith)

last_nat : (D k s t p q g : ℕ) → 0 < k → 0 < q → (D * (1 * 1)) * ((1 * t) * (1 * (1 * q))) ≤ ((k * s) * (1 * (1 * q)) + (D * (1 * p)) * (1 * t)) * (1 * (1 * 1)) → p * (D * D) * k ≤ q → g * k ≤ D * D → (g - 1) * t ≤ s * D
last_nat D k s t p q g pk pq h small le =
    less_one g (s * D) t (le_of_mul-le-mul_right {k = q * k} (omega (arith, mul-le-mul_left D h, mul-le-mul_left t smaller, mul-le-mul_left (t * q) le)) (mul-pos pq pk))
  where
    smaller : p * (D * D) ≤ q * k
    smaller = small_steps k pk small
      where
        small_steps : (k : ℕ) → 0 < k → p * (D * D) * k ≤ q → p * (D * D) ≤ q * k
        small_steps zero z h = absurd (omega arith)
        small_steps (suc k) z h = omega (arith, h, mul-le-mul_left k h)

-- 2^(2F) / (2^F - a), rounded down, less one
abbrev pub geometric_down : (f a : ℕ) → ℕ
geometric_down f a = 2 ^ (2 * f) / (2 ^ f - a) - 1

-- as many powers as reach it
abbrev pub enough_powers : (f a : ℕ) → ℕ
enough_powers f a = a * (2 ^ f * 2 ^ f)

-- For a / 2^F strictly between 0 and 1, the unsaturated lower value of 1 / (1 - a) is at most the
-- sum of the first a * 2^F * 2^F powers.
pub seq-reached : (F a : ℕ) → 0 < a → a < 2 ^ F → AtMost (units F (geometric_down F a)) (sum_from (exact Kind.Seq (units F a)) 0 (enough_powers F a))
seq-reached F a pa h =
    let n = enough_powers F a in
    let k = 2 ^ F - a in
    let pq : 0 < (power (units F a) n).den = (power (units F a) n).positive in
    let s = sum_from (exact Kind.Seq (units F a)) 0 n in
    record { cross = last_nat (2 ^ F) (2 ^ F - a) s.num s.den (power (units F a) n).num (power (units F a) n).den (2 ^ (2 * F) / (2 ^ F - a)) (omega arith) pq all small floor }
  where
    sum_up : 2 ^ F ≡ (2 ^ F - a) + a
    sum_up = omega arith

    sum_up' : 2 ^ F ≡ a + (2 ^ F - a)
    sum_up' = omega arith

    small : (power (units F a) (enough_powers F a)).num * (2 ^ F * 2 ^ F) * (2 ^ F - a) ≤ (power (units F a) (enough_powers F a)).den
    small = small_nat a (2 ^ F - a) (power (units F a) (enough_powers F a)).num (power (units F a) (enough_powers F a)).den (2 ^ F) pa (bernoulli F a (2 ^ F - a) (enough_powers F a) sum_up')

    all : (2 ^ F * (1 * 1)) * ((1 * (sum_from (exact Kind.Seq (units F a)) 0 (enough_powers F a)).den) * (1 * (1 * (power (units F a) (enough_powers F a)).den))) ≤ (((2 ^ F - a) * (sum_from (exact Kind.Seq (units F a)) 0 (enough_powers F a)).num) * (1 * (1 * (power (units F a) (enough_powers F a)).den)) + (2 ^ F * (1 * (power (units F a) (enough_powers F a)).num)) * (1 * (sum_from (exact Kind.Seq (units F a)) 0 (enough_powers F a)).den)) * (1 * (1 * 1))
    all = (subst (λ d. AtMost (times (whole d) (exact Kind.Seq (units F a) 0)) (plus (times (whole (2 ^ F - a)) (sum_from (exact Kind.Seq (units F a)) 0 (enough_powers F a))) (times (whole d) (exact Kind.Seq (units F a) (enough_powers F a))))) (sym sum_up) (reached (seq-keeps F a (2 ^ F - a) sum_up) (enough_powers F a) 0 (enough_powers F a) (omega arith))).cross

    floor : 2 ^ (2 * F) / (2 ^ F - a) * (2 ^ F - a) ≤ 2 ^ F * 2 ^ F
    floor = let square : 2 ^ (2 * F) ≡ 2 ^ F * 2 ^ F = rw (two-mul, pow-add) refl in omega (arith, square, div-mul-le_self (2 ^ (2 * F)) (2 ^ F - a))
