-- Lines as patterns of words and numbers.
use Rattle.std.specs.Prelude.{◌≡◌, ℕ, suc, ◌^◌, ◌<◌, ◌≤◌, Bool, true, ◌&&◌, not, nat_eq, nat_le}
use Rattle.std.specs.Prelude.{if◌then◌else◌, List, [], ◌∷◌, ◌++◌, slice_index, decimal}

-- A pattern with numbers put in: each number sign of it is replaced by the next number in decimal
-- digits, without leading zeros. The first of them stands at the place `next`.
unfoldable pub filled_from : (pattern numbers : List ℕ) → (next : ℕ) → List ℕ
filled_from [] numbers next = []
filled_from (b ∷ pattern) numbers next = if nat_eq b 35 then decimal (slice_index numbers next)
    ++ filled_from pattern numbers (suc next) else b ∷ filled_from pattern numbers next

-- A pattern with all numbers put in, in order.
abbrev pub filled : (pattern numbers : List ℕ) → List ℕ
filled pattern numbers = filled_from pattern numbers 0

-- How many numbers a pattern takes.
abbrev pub places : (pattern : List ℕ) → ℕ
places [] = 0
places (b ∷ pattern) = if nat_eq b 35 then suc (places pattern) else places pattern

-- The first byte is no digit and no number sign.
abbrev pub begins_apart : List ℕ → Bool
begins_apart [] = true
begins_apart (b ∷ pattern) = not (nat_eq b 35) && not (nat_le 48 b && nat_le b 57)

-- After each number of a pattern comes a byte that is no digit, or the end.
abbrev pub is_apart : (pattern : List ℕ) → Bool
is_apart [] = true
is_apart (b ∷ pattern) = (if nat_eq b 35 then begins_apart pattern else true) && is_apart pattern

-- No digit comes first.
abbrev pub HasNoDigit : List ℕ → Type 0
HasNoDigit [] = Unit {0}
HasNoDigit (b ∷ text) = ¬ ((48 ≤ b) × (b ≤ 57))

-- A text begins with a number of 64 bits, in decimal digits without leading zeros, and this
-- follows, which begins with no digit.
pub record BeginsNumber (text : List ℕ) (n : ℕ) (rest : List ℕ) : Type 0 where
  pub small : n < 2 ^ 64
  pub split : text ≡ decimal n ++ rest
  pub apart : HasNoDigit rest

-- Each number has 64 bits.
pub record AreSmall (numbers : List ℕ) : Type 0 where
  pub each : (k : ℕ) → slice_index numbers k < 2 ^ 64

-- A text begins with the pattern filled with these numbers, and this follows, which begins with no
-- digit.
pub record BeginsFilled (pattern text numbers rest : List ℕ) : Type 0 where
  pub small : AreSmall numbers
  pub split : text ≡ filled pattern numbers ++ rest
  pub apart : HasNoDigit rest
