-- What the test of a lower vector with weights tells, in order.
use Rattle.std.specs.Prelude.{◌≡◌, ◌≢◌, ℕ, ◌<◌, List, length, slice_index}
use Rattle.fixed_enclosure.specs.UpperValues.{AreAtMost}
use Rattle.rounded_map.specs.RoundedMap.{Setting, values_down, values_up, bodies_down}
use Rattle.rounded_map.specs.Contracting.{body_slopes, IsFirstNotLess}
use Rattle.fast_lower.specs.Contraction.{IsPreFixed, IsContracting}
use Rattle.fast_lower.specs.declared.fast.FastFault.{FastFault}
use Rattle.fast_lower.specs.declared.fast.FastFault.TheVariants.{ZeroWeight, NotBelowBase}
use Rattle.fast_lower.specs.declared.fast.FastFault.TheVariants.{NotPreFixed, NotContracting}
use Rattle.fast_lower.specs.declared.fast.FastFault.TheVariants.{OutOfMemory}

-- The first place of a list of so many entries that has a property.
pub record IsFirst (P : ℕ → Type 0) (count place : ℕ) : Type 0 where
  pub within : place < count
  pub here : P place
  pub before : (c : ℕ) → c < place → ¬ (P c)

-- A class's weight is 0.
abbrev pub IsZeroAt : (weights : List ℕ) → ℕ → Type 0
IsZeroAt weights c = slice_index weights c ≡ 0

-- A class's entry is above another vector's.
abbrev pub IsAboveAt : (low other : List ℕ) → ℕ → Type 0
IsAboveAt low other c = slice_index other c < slice_index low c

-- No weight is 0.
pub record ArePositive (weights : List ℕ) : Type 0 where
  pub each : (c : ℕ) → c < length weights → slice_index weights c ≢ 0

-- No weight is 0, and no entry is above the upper vector's.
pub record IsBelowUpper (upper low weights : List ℕ) : Type 0 where
  pub positive : ArePositive weights
  pub below : AreAtMost low upper

-- No weight is 0, no entry is above the upper vector's, and the vector is pre-fixed.
pub record IsLowVector (t : Setting) (upper low weights : List ℕ) : Type 0 where
  pub below_upper : IsBelowUpper upper low weights
  pub pre_fixed : IsPreFixed t low

-- A weight is 0: the first.
abbrev pub HasZeroWeight : (weights : List ℕ) → ℕ → Type 0
HasZeroWeight weights c = IsFirst (IsZeroAt weights) (length weights) c

-- No weight is 0, and an entry is above the upper vector's: the first.
pub record IsNotBelow (upper low weights : List ℕ) (c : ℕ) : Type 0 where
  pub positive : ArePositive weights
  pub first : IsFirst (IsAboveAt low upper) (length low) c

-- No weight is 0, no entry is above the upper vector's, and an entry is above its body's lower
-- value: the first.
pub record IsNotPreFixed (t : Setting) (upper low weights : List ℕ) (c : ℕ) : Type 0 where
  pub below_upper : IsBelowUpper upper low weights
  pub first : IsFirst (IsAboveAt low (bodies_down t (values_down t low))) (length low) c

-- The tests before are passed, and the derivative of a body along the weights at the upper vector
-- isn't less than the weight, or has no value: the first.
pub record IsNotContracting (t : Setting) (upper low weights : List ℕ) (c : ℕ) : Type 0 where
  pub low_vector : IsLowVector t upper low weights
  pub first : IsFirstNotLess (body_slopes t (values_up t upper) weights) weights c

-- A fault tells the first of the four tests that fails, with the least class that fails it; that
-- memory ran out tells nothing.
abbrev pub TellsFastFault : Setting → (upper low weights : List ℕ) → FastFault → Type 0
TellsFastFault t upper low weights (ZeroWeight c) = HasZeroWeight weights c.0
TellsFastFault t upper low weights (NotBelowBase c) = IsNotBelow upper low weights c.0
TellsFastFault t upper low weights (NotPreFixed c) = IsNotPreFixed t upper low weights c.0
TellsFastFault t upper low weights (NotContracting c) = IsNotContracting t upper low weights c.0
TellsFastFault t upper low weights OutOfMemory = Unit {0}

-- All four tests are passed.
pub record PassesAll (t : Setting) (upper low weights : List ℕ) : Type 0 where
  pub low_vector : IsLowVector t upper low weights
  pub contracting : IsContracting t upper weights
