-- From 1 on, the powers and the logarithm grow past every number.
use Rattle.std.proofs.Common.{◌≡◌, ℕ, zero, suc, ◌+◌, ◌*◌, ◌^◌, ◌<◌, ◌≤◌, arith, subst, pow_pos}
use Rattle.std.proofs.Math.Nat.{mul-le-mul_left}
use Rattle.bz_model.specs.Fraction.{Fraction, AtMost, plus, times, whole, units, power, sum_from}
use Rattle.bz_model.specs.Measures.{cycle_share}
use Rattle.series_bounds.specs.Series.{Kind}
use Rattle.series_bounds.specs.ExactSums.{exact}
use Rattle.series_bounds.proofs.Fractions.{AtMost-trans, AtMost-refl, plus-mono, times-mono, plus-assoc}

pub power-ge-one : (a : Fraction) → AtMost (whole 1) a → (k : ℕ) → AtMost (whole 1) (power a k)
power-ge-one a h zero = AtMost-refl _
power-ge-one a h (suc k) = AtMost-trans one (times-mono h (power-ge-one a h k))
  where
    one : AtMost (whole 1) (times (whole 1) (whole 1))
    one = omega arith

-- Where a is at least 2^F, the value a / 2^F is at least 1.
pub at-least-one : (F a : ℕ) → 2 ^ F ≤ a → AtMost (whole 1) (units F a)
at-least-one F a h = omega arith

-- The value v / 2^F is at most the whole number v.
pub units-whole : (F v : ℕ) → AtMost (units F v) (whole v)
units-whole F v = record { cross = go (2 ^ F) (pow_pos F) }
  where
    go : (D : ℕ) → 0 < D → v * 1 ≤ v * D
    go D h = mul-le-mul_left v h

one_more : (n : ℕ) → AtMost (whole (suc n)) (plus (whole 1) (whole n))
one_more n = omega arith

one_times : (b : Fraction) → AtMost b (times (whole 1) b)
one_times b = omega arith

-- n powers from any one on are at least n
pub seq-grows : (a : Fraction) → AtMost (whole 1) a → (n low : ℕ) → AtMost (whole n) (sum_from (exact Kind.Seq a) low n)
seq-grows a h zero low = AtMost-refl _
seq-grows a h (suc n) low = AtMost-trans (one_more n) (plus-mono (AtMost-trans (power-ge-one a h low) (one_times (power a low))) (seq-grows a h n (suc low)))

-- two stretches of a series, one after the other
pub sum_from-append : (e : ℕ → Fraction) (n j l m t : ℕ) → l ≡ j + n → t ≡ n + m → AtMost (plus (sum_from e j n) (sum_from e l m)) (sum_from e j t)
sum_from-append e zero j l m t p q = subst (λ i. AtMost (plus (whole 0) (sum_from e i m)) (sum_from e j t)) from (subst (λ i. AtMost (plus (whole 0) (sum_from e j m)) (sum_from e j i)) many (first (sum_from e j m)))
  where
    from : j ≡ l
    from = omega arith

    many : m ≡ t
    many = omega arith

    first : (b : Fraction) → AtMost (plus (whole 0) b) b
    first b = omega arith
sum_from-append e (suc n) j l m zero p q = absurd (omega arith)
sum_from-append e (suc n) j l m (suc t) p q =
    AtMost-trans (plus-assoc (e j) (sum_from e (suc j) n) (sum_from e l m))
    (plus-mono (AtMost-refl (e j)) (sum_from-append e n (suc j) l m t (omega arith) (omega arith)))

-- n parts in d
abbrev pub parts_in : (n d : ℕ) → 0 < d → Fraction
parts_in n d h = record { num = n; den = d; positive = h }

share_at_least : (d : ℕ) (h : 0 < d) (j : ℕ) → 1 ≤ j → j ≤ d → AtMost (parts_in 1 d h) (cycle_share j)
share_at_least d h zero p q = absurd (omega arith)
share_at_least d h (suc j) p q = omega arith

times_one : (b : Fraction) → AtMost b (times b (whole 1))
times_one b = omega arith

split_parts : (n d : ℕ) (h : 0 < d) → AtMost (parts_in (suc n) d h) (plus (parts_in 1 d h) (parts_in n d h))
split_parts n d h = omega arith

-- each of n terms up to d is at least one part in d
stretch : (a : Fraction) → AtMost (whole 1) a → (d : ℕ) (h : 0 < d) (n j : ℕ) → 1 ≤ j → j + n ≤ suc d → AtMost (parts_in n d h) (sum_from (exact Kind.Cyc a) j n)
stretch a g d h zero j p q = omega arith
stretch a g d h (suc n) j p q =
    AtMost-trans (split_parts n d h)
    (plus-mono (AtMost-trans (times_one (parts_in 1 d h)) (times-mono (share_at_least d h j p (omega arith)) (power-ge-one a g j))) (stretch a g d h n (suc j) (omega arith) (omega arith)))

half : (j : ℕ) (h : 0 < j + j) (b : Fraction) → AtMost (parts_in j (j + j) h) b → 1 ≤ j → (two : 0 < 2) → AtMost (parts_in 1 2 two) b
half j h b k p two = AtMost-trans halves k
  where
    halves : AtMost (parts_in 1 2 two) (parts_in j (j + j) h)
    halves = omega arith

-- so many halves are reached, each by a stretch as long as all before it
halves-grow : (a : Fraction) → AtMost (whole 1) a → (two : 0 < 2) (n j : ℕ) → 1 ≤ j → (m : ℕ) × AtMost (parts_in n 2 two) (sum_from (exact Kind.Cyc a) j m)
halves-grow a g two zero j p = (0, omega arith)
halves-grow a g two (suc n) j p =
    let r = halves-grow a g two n (j + j) (omega arith) in
    let h : 0 < j + j = omega arith in
    (j + r.0, AtMost-trans (split_parts n 2 two) (AtMost-trans (plus-mono (half j h (sum_from (exact Kind.Cyc a) j j) (stretch a g (j + j) h j j p (omega arith)) p two) r.1) (sum_from-append (exact Kind.Cyc a) j j (j + j) r.0 (j + r.0) (omega arith) (omega arith))))

-- At an argument of at least 1, some finite sum of the logarithm's terms from low on, with low at
-- least 1, is at least n, for each n.
pub cyc-grows : (a : Fraction) → AtMost (whole 1) a → (n low : ℕ) → 1 ≤ low → (m : ℕ) × AtMost (whole n) (sum_from (exact Kind.Cyc a) low m)
cyc-grows a g n low p = let r = halves-grow a g (omega arith) (2 * n) low p in (r.0, AtMost-trans (both (omega arith)) r.1)
  where
    both : (two : 0 < 2) → AtMost (whole n) (parts_in (2 * n) 2 two)
    both two = omega arith
