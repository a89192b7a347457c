-- Weights along which the rounded map contracts.
use Rattle.std.specs.Prelude.{ℕ, ◌<◌, List, map, length, slice_index, Option, Some, None}
use Rattle.std.specs.List.{AllZip}
use Rattle.rounded_map.specs.RoundedMap.{Setting, value_at}
use Rattle.rounded_map.specs.Derivative.{derivatives_up}

-- There is a value, and it is less than the number.
abbrev pub IsLess : Option ℕ → ℕ → Type 0
IsLess None w = ⊥
IsLess (Some v) w = v < w

-- The derivative of each body along a vector, at the given node values.
abbrev pub body_slopes : Setting → (values : List (Option ℕ)) → (along : List ℕ) → List (Option ℕ)
body_slopes t values along = map (value_at (derivatives_up t values along)) t.spec.bodies

-- Weights contract at node values where the derivative of each body along them has a value that is
-- less than the class's weight.
pub record AreContracting (t : Setting) (values : List (Option ℕ)) (weights : List ℕ) : Type 0 where
  pub each : AllZip IsLess (body_slopes t values weights) weights

-- The first place at which a slope isn't less than the weight, or has no value.
pub record IsFirstNotLess (slopes : List (Option ℕ)) (weights : List ℕ) (place : ℕ) : Type 0 where
  pub within : place < length weights
  pub not_less : ¬ IsLess (value_at slopes place) (slice_index weights place)
  pub before : (c : ℕ) → c < place → IsLess (value_at slopes c) (slice_index weights c)
