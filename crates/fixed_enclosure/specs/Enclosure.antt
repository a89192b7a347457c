-- On which side of the exact result a rounded one lies. A number v stands for v / 2^f; all is said
-- in whole numbers, by cross-multiplication.
use Rattle.std.specs.Prelude.{ℕ, zero, suc, ◌+◌, ◌*◌, ◌^◌, ◌≤◌}

-- The value v is at most num / den: v / 2^f ≤ num / den.
abbrev pub IsAtMostQuotient : (f num den v : ℕ) → Type 0
IsAtMostQuotient f num den v = v * den ≤ num * 2 ^ f

-- The value v is at least num / den: num / den ≤ v / 2^f.
abbrev pub IsAtLeastQuotient : (f num den v : ℕ) → Type 0
IsAtLeastQuotient f num den v = num * 2 ^ f ≤ v * den

-- The value v is at most the sum of two values: v / 2^f ≤ a / 2^f + b / 2^f.
abbrev pub IsAtMostSum : (a b v : ℕ) → Type 0
IsAtMostSum a b v = v ≤ a + b

-- The value v is at least the sum of two values: a / 2^f + b / 2^f ≤ v / 2^f.
abbrev pub IsAtLeastSum : (a b v : ℕ) → Type 0
IsAtLeastSum a b v = a + b ≤ v

-- The value v is at most the product of two values: v / 2^f ≤ a / 2^f * b / 2^f.
abbrev pub IsAtMostProduct : (f a b v : ℕ) → Type 0
IsAtMostProduct f a b v = v * 2 ^ f ≤ a * b

-- The value v is at least the product of two values: a / 2^f * b / 2^f ≤ v / 2^f.
abbrev pub IsAtLeastProduct : (f a b v : ℕ) → Type 0
IsAtLeastProduct f a b v = a * b ≤ v * 2 ^ f

-- The sum of the n first powers of a / 2^f, which are 1, a / 2^f and so on, as a number of parts of
-- which (2^f)^n are 1.
abbrev pub sum_of_powers : (f a n : ℕ) → ℕ
sum_of_powers f a zero = 0
sum_of_powers f a (suc n) = (2 ^ f) ^ suc n + a * sum_of_powers f a n

-- The value v is at most the sum of finitely many powers of a / 2^f.
pub record IsReachedByPowers (f a v : ℕ) : Type 0 where
  pub count : ℕ
  pub reached : v * (2 ^ f) ^ count ≤ sum_of_powers f a count * 2 ^ f

-- The value v is at least each sum of finitely many powers of a / 2^f.
pub record IsAboveAllPowers (f a v : ℕ) : Type 0 where
  pub above : (n : ℕ) → sum_of_powers f a n * 2 ^ f ≤ v * (2 ^ f) ^ n
