-- Rounded arithmetic: numbers of units of 2^-f. Lower results are rounded down and stop at the
-- greatest number of 64 bits. Upper results are rounded up, and have no value past it.
use Rattle.std.specs.Prelude.{ℕ, zero, suc, ◌+◌, ◌-◌, ◌*◌, ◌/◌, ◌^◌, min, Bool, nat_le, nat_lt}
use Rattle.std.specs.Prelude.{Option, Some, None, if◌then◌else◌}

-- The greatest number of 64 bits.
abbrev pub greatest : ℕ
greatest = 2 ^ 64 - 1

-- The number, or the greatest one of 64 bits where it is above that.
abbrev pub saturated : ℕ → ℕ
saturated n = min n greatest

-- The number has 64 bits.
abbrev pub fits : ℕ → Bool
fits n = nat_le n greatest

-- The number where it has 64 bits, else no value.
abbrev pub if_fits : ℕ → Option ℕ
if_fits n = if fits n then Some n else None

-- The side to which results are rounded.
pub data Side : Type 0 where
  Down : Side
  Up : Side

-- n / d, rounded up.
abbrev pub quotient_up : ℕ → ℕ → ℕ
quotient_up n d = (n + (d - 1)) / d

-- n / d, rounded to the side.
abbrev pub quotient : Side → ℕ → ℕ → ℕ
quotient Down n d = n / d
quotient Up n d = quotient_up n d

-- The result of an upper operation of two arguments, which has no value where one of them has none.
abbrev pub of_both : (ℕ → ℕ → Option ℕ) → Option ℕ → Option ℕ → Option ℕ
of_both g (Some a) (Some b) = g a b
of_both g (Some a) None = None
of_both g None b = None

-- The lower value of the atom num / den: num * 2^f / den, rounded down.
abbrev pub atom_down : (f num den : ℕ) → ℕ
atom_down f num den = saturated (num * 2 ^ f / den)

-- The upper value of the atom num / den: num * 2^f / den, rounded up.
abbrev pub atom_up : (f num den : ℕ) → Option ℕ
atom_up f num den = if_fits (quotient_up (num * 2 ^ f) den)

-- The lower sum of two numbers.
abbrev pub add_down : (a b : ℕ) → ℕ
add_down a b = saturated (a + b)

-- The upper sum of two numbers.
abbrev pub add_up : (a b : ℕ) → Option ℕ
add_up a b = if_fits (a + b)

-- The lower product of two numbers: a * b / 2^f, rounded down.
abbrev pub mul_down : (f a b : ℕ) → ℕ
mul_down f a b = saturated (a * b / 2 ^ f)

-- The upper product of two numbers: a * b / 2^f, rounded up.
abbrev pub mul_up : (f a b : ℕ) → Option ℕ
mul_up f a b = if_fits (quotient_up (a * b) (2 ^ f))

-- The lower value of 1 / (1 - a): 1 at a = 0, the greatest number from a = 1 on, and between them
-- 2^(2f) / (2^f - a) rounded down less one unit, so that finitely many powers of a reach it.
abbrev pub seq_down : (f a : ℕ) → ℕ
seq_down f zero = 2 ^ f
seq_down f (suc a) =
    if nat_lt (suc a) (2 ^ f) then saturated (2 ^ (2 * f) / (2 ^ f - suc a) - 1) else greatest

-- The upper value of 1 / (1 - a): 2^(2f) / (2^f - a) rounded up below a = 1, and none from there
-- on.
abbrev pub seq_up : (f a : ℕ) → Option ℕ
seq_up f a = if nat_lt a (2 ^ f) then if_fits (quotient_up (2 ^ (2 * f)) (2 ^ f - a)) else None
