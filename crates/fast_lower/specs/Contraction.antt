-- Vectors below their own image, and weights along which the rounded map contracts.
use Rattle.std.specs.Prelude.{ℕ, ◌-◌, Bool, false, nat_le, nat_lt, List, map, Option, Some, None}
use Rattle.std.specs.List.{list_all}
use Rattle.fixed_enclosure.specs.UpperValues.{AreAtMost}
use Rattle.rounded_map.specs.RoundedMap.{Setting, at_each, values_down, values_up, bodies_down}
use Rattle.rounded_map.specs.Contracting.{body_slopes, AreContracting}

-- A vector is pre-fixed, or below its own image, where each entry is at most its body's lower value
-- at the vector.
pub record IsPreFixed (t : Setting) (low : List ℕ) : Type 0 where
  pub each : AreAtMost low (bodies_down t (values_down t low))

-- Whether a vector is pre-fixed.
abbrev pub is_pre_fixed : Setting → List ℕ → Bool
is_pre_fixed t low = list_all (λ b. b) (at_each nat_le low (bodies_down t (values_down t low)))

-- Whether there is a value, and it is less than the number.
abbrev pub is_less : Option ℕ → ℕ → Bool
is_less None w = false
is_less (Some v) w = nat_lt v w

-- The rounded map contracts along weights at an upper vector where the derivative of each body
-- along the weights, at the upper node values of the vector, has a value that is less than the
-- class's weight.
abbrev pub IsContracting : Setting → (upper weights : List ℕ) → Type 0
IsContracting t upper weights = AreContracting t (values_up t upper) weights

-- Whether the rounded map contracts along weights at an upper vector.
abbrev pub is_contracting : Setting → (upper weights : List ℕ) → Bool
is_contracting t upper weights =
    list_all (λ b. b) (at_each is_less (body_slopes t (values_up t upper) weights) weights)

-- One unit is taken off each entry above 0.
abbrev pub one_unit_off : List ℕ → List ℕ
one_unit_off low = map (λ v. v - 1) low
