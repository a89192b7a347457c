-- The fast vector: a lower vector found by going down from an upper one, along weights along which
-- the rounded map contracts.
use Rattle.std.specs.Prelude.{ℕ, ◌-◌, ◌*◌, ◌^◌, Bool, false, List, Option, Some, None, option_map}
use Rattle.std.specs.Prelude.{option_and_then, if◌then◌else◌}
use Rattle.rounded_map.specs.RoundedMap.{Setting, at_each, repeated, sweep_up}
use Rattle.newton_upper.specs.Below.{first_below}
use Rattle.newton_upper.specs.Candidates.{dual_vector}
use Rattle.fast_lower.specs.Contraction.{is_pre_fixed, is_contracting, one_unit_off}

-- The class vector after n upper sweeps from a base.
unfoldable pub swept_up : Setting → (base : List ℕ) → (n : ℕ) → List ℕ
swept_up t base n = repeated (sweep_up t) n base

-- The upper vector: the class vector after 4096 upper sweeps from the base.
abbrev pub upper_vector : Setting → (base : List ℕ) → List ℕ
upper_vector t base = swept_up t base (4 ^ 6)

-- The weights: the vector after 4096 dual sweeps from zero at the upper node values of the upper
-- vector, where each number has a value.
unfoldable pub weight_vector : Setting → (upper : List ℕ) → Option (List ℕ)
weight_vector t upper = dual_vector t upper (4 ^ 6)

-- The upper vector less a multiple of the weights, entry by entry, 0 where that is negative.
unfoldable pub lowered : (upper weights : List ℕ) → (factor : ℕ) → List ℕ
lowered upper weights factor = at_each (λ u v. u - factor * v) upper weights

-- Candidate k: the upper vector less 2^k times the weights.
unfoldable pub candidate_down : (upper weights : List ℕ) → (k : ℕ) → List ℕ
candidate_down upper weights k = lowered upper weights (2 ^ k)

-- A candidate passes where it is pre-fixed and the rounded map contracts along the weights at the
-- upper vector.
abbrev pub passes : Setting → (upper weights candidate : List ℕ) → Bool
passes t upper weights candidate =
    if is_pre_fixed t candidate then is_contracting t upper weights else false

-- The candidate, where it passes.
unfoldable pub if_passes : Setting → (upper weights candidate : List ℕ) → Option (List ℕ)
if_passes t upper weights candidate =
    if passes t upper weights candidate then Some candidate else None

-- Candidate k, where it passes.
unfoldable pub passing_candidate : Setting → (upper weights : List ℕ) → (k : ℕ) → Option (List ℕ)
passing_candidate t upper weights k = if_passes t upper weights (candidate_down upper weights k)

-- The first candidate that passes, of as many as there are fraction bits.
unfoldable pub first_passing : Setting → (upper weights : List ℕ) → Option (List ℕ)
first_passing t upper weights = first_below (passing_candidate t upper weights) t.bits

-- The first candidate that passes below an upper vector; where a weight has no value, none passes.
unfoldable pub passing_below : Setting → (upper : List ℕ) → Option (List ℕ)
passing_below t upper = option_and_then (first_passing t upper) (weight_vector t upper)

-- The fast vector of a base: the first passing candidate below its upper vector, with one unit
-- taken off each entry above 0.
unfoldable pub fast_vector : Setting → (base : List ℕ) → Option (List ℕ)
fast_vector t base = option_map one_unit_off (passing_below t (upper_vector t base))
