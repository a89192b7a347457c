-- Scaled numbers m * 2^e, and the rounding of fractions to them.
use Rattle.std.specs.Prelude.{ℕ, suc, ◌*◌, ◌^◌, ◌<◌, ◌≤◌, ℤ, pos, negsuc}
use Rattle.std.proofs.lemmas.Nat.{pow_pos}
use Rattle.bz_model.specs.Fraction.{Fraction, AtMost, fraction_of}
use Rattle.chance_law.specs.declared.scaled.Scaled.{Scaled}

-- How far a whole number of either sign is above 0; 0 where it isn't.
abbrev pub rise : ℤ → ℕ
rise (pos n) = n
rise (negsuc n) = 0

-- How far it is below 0; 0 where it isn't.
abbrev pub fall : ℤ → ℕ
fall (pos n) = 0
fall (negsuc n) = suc n

-- The fraction m * 2^e.
abbrev pub value : Scaled → Fraction
value s = fraction_of (s.m * 2 ^ rise s.e) (2 ^ fall s.e) (pow_pos (fall s.e))

-- A scaled number has 64 binary digits.
pub record IsScaled (s : Scaled) : Type 0 where
  pub from_2_63 : 2 ^ 63 ≤ s.m
  pub below_2_64 : s.m < 2 ^ 64

-- A fraction is rounded down to the greatest scaled number that is at most the fraction.
pub record IsRoundedDown (f : Fraction) (s : Scaled) : Type 0 where
  pub scaled : IsScaled s
  pub at_most : AtMost (value s) f
  pub greatest : (t : Scaled) → IsScaled t → AtMost (value t) f → AtMost (value t) (value s)

-- A fraction is rounded up to the least scaled number that is at least the fraction.
pub record IsRoundedUp (f : Fraction) (s : Scaled) : Type 0 where
  pub scaled : IsScaled s
  pub at_least : AtMost f (value s)
  pub least : (t : Scaled) → IsScaled t → AtMost f (value t) → AtMost (value s) (value t)

-- The scaled number 1.
abbrev pub one : Scaled
one = record { m = 9223372036854775808; e = negsuc 62 }

-- An exponent is at most n above or below 0.
pub record IsNearZero (n : ℕ) (e : ℤ) : Type 0 where
  pub above : rise e ≤ n
  pub below : fall e ≤ n
