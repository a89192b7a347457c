-- The candidates for a base: a lower vector, widened more and more by a vector along which it may
-- grow.
use Rattle.std.specs.Prelude.{ℕ, zero, suc, ◌+◌, ◌-◌, ◌*◌, ◌/◌, ◌^◌, min, List, length, replicate}
use Rattle.std.specs.Prelude.{map, slice_index, Option, Some, None, option_and_then, if◌then◌else◌}
use Rattle.fixed_enclosure.specs.Rounded.{if_fits}
use Rattle.rounded_map.specs.RoundedMap.{Setting, all_values, repeated, values_up, sweep_down}
use Rattle.rounded_map.specs.RoundedMap.{is_post_fixed}
use Rattle.rounded_map.specs.Derivative.{sweep_dual}
use Rattle.newton_upper.specs.Below.{all_below, first_below}

-- The class vector after n lower sweeps from zero.
unfoldable pub swept_down : Setting → (n : ℕ) → List ℕ
swept_down t n = repeated (sweep_down t) n (replicate (length t.spec.bodies) 0)

-- The vector after n dual sweeps from zero at the node values, where each of them has a result.
unfoldable pub swept_dual : Setting → (values : List ℕ) → (n : ℕ) → Option (List ℕ)
swept_dual t values n =
    repeated (option_and_then (sweep_dual t (map Some values))) n
    (Some (replicate (length t.spec.bodies) 0))

-- The upper values of all nodes at a vector, where each node has one.
unfoldable pub upper_values : Setting → (y : List ℕ) → Option (List ℕ)
upper_values t y = all_values (values_up t y)

-- The vector after n dual sweeps from zero at the upper values of Y.
unfoldable pub dual_vector : Setting → (y : List ℕ) → (n : ℕ) → Option (List ℕ)
dual_vector t y n = option_and_then (λ values. swept_dual t values n) (upper_values t y)

-- An entry of Y and the factor's multiple of the entry of d, added.
abbrev pub widened_entry : (y d : List ℕ) → (factor c : ℕ) → Option ℕ
widened_entry y d factor c = if_fits (slice_index y c + slice_index d c * factor)

-- Y + d * factor, entry by entry, where each has 64 bits.
unfoldable pub widened : (y d : List ℕ) → (factor : ℕ) → Option (List ℕ)
widened y d factor = all_below (widened_entry y d factor) (length y)

-- The vector, where there is one and it is post-fixed.
abbrev pub if_post_fixed : Setting → Option (List ℕ) → Option (List ℕ)
if_post_fixed t None = None
if_post_fixed t (Some v) = if is_post_fixed t v then Some v else None

-- The number of candidates of a round.
abbrev pub candidate_count : (bits : ℕ) → ℕ
candidate_count bits = (bits - 8) / 2 + 1

-- Candidate j of a round, where it is post-fixed: Y + d * 4^j.
unfoldable pub candidate : Setting → (y d : List ℕ) → (j : ℕ) → Option (List ℕ)
candidate t y d j = if_post_fixed t (widened y d (4 ^ j))

-- The first post-fixed candidate of a round.
unfoldable pub first_candidate : Setting → (y d : List ℕ) → Option (List ℕ)
first_candidate t y d = first_below (candidate t y d) (candidate_count t.bits)

-- The first post-fixed candidate of the round with so many lower sweeps: its vector d is the one
-- after as many dual sweeps, and after 256 where these are fewer.
unfoldable pub round_from : Setting → (y : List ℕ) → (sweeps : ℕ) → Option (List ℕ)
round_from t y sweeps = option_and_then (first_candidate t y) (dual_vector t y (min sweeps 256))

-- The lower sweeps done after so many rounds: 4^r after round r.
abbrev pub sweeps_after : (rounds : ℕ) → ℕ
sweeps_after zero = 0
sweeps_after (suc r) = 4 ^ suc r

-- The first post-fixed candidate of the round after so many.
unfoldable pub round_base : Setting → (rounds : ℕ) → Option (List ℕ)
round_base t rounds =
    round_from t (swept_down t (sweeps_after (suc rounds))) (sweeps_after (suc rounds))

-- The first post-fixed candidate of the six rounds.
unfoldable pub candidate_base : Setting → Option (List ℕ)
candidate_base t = first_below (round_base t) 6
