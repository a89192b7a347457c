-- The exact series of the counted constructions, their finite sums, and on which side of those a
-- rounded value lies. A number v stands for v / 2^f.
use Rattle.std.specs.Prelude.{ℕ, suc, ◌-◌}
use Rattle.bz_model.specs.Fraction.{Fraction, AtMost, times, whole, power, units, sum_from}
use Rattle.bz_model.specs.Measures.{set_share, cycle_share}
use Rattle.series_bounds.specs.Series.{Kind}

-- The share of an object with k parts: all of it for a sequence, one part in k! for a set, one part
-- in k for a cycle.
abbrev pub share : Kind → (k : ℕ) → Fraction
share Kind.Seq k = whole 1
share Kind.Set k = set_share k
share Kind.Cyc k = cycle_share k

-- The exact term k of the series at a fraction: the share of k parts times the power k.
abbrev pub exact : Kind → Fraction → (k : ℕ) → Fraction
exact kind a k = times (share kind k) (power a k)

-- The least number of a term: a cycle has no term 0.
abbrev pub first_term : Kind → ℕ
first_term Kind.Seq = 0
first_term Kind.Set = 0
first_term Kind.Cyc = 1

-- The sum of the exact terms at a / 2^f numbered from low to i.
abbrev pub sum_to : Kind → (f a low i : ℕ) → Fraction
sum_to kind f a low i = sum_from (exact kind (units f a)) low (suc i - low)

-- The value v is at most the sum of the exact terms from low to i.
abbrev pub IsAtMostTerms : Kind → (f a low i v : ℕ) → Type 0
IsAtMostTerms kind f a low i v = AtMost (units f v) (sum_to kind f a low i)

-- The value v is at least the sum of the exact terms from low to i.
abbrev pub IsAtLeastTerms : Kind → (f a low i v : ℕ) → Type 0
IsAtLeastTerms kind f a low i v = AtMost (sum_to kind f a low i) (units f v)

-- The value v is at most the sum of finitely many exact terms from low on.
pub record IsReached (kind : Kind) (f a low v : ℕ) : Type 0 where
  pub terms : ℕ
  pub reached : AtMost (units f v) (sum_from (exact kind (units f a)) low terms)

-- The value v is at least each sum of finitely many exact terms from low on.
pub record IsAboveAll (kind : Kind) (f a low v : ℕ) : Type 0 where
  pub above : (n : ℕ) → AtMost (sum_from (exact kind (units f a)) low n) (units f v)
