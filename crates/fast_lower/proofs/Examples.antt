-- Examples: the greater solution of binary trees does not contract, and the fast vector of an atom.
use Rattle.std.proofs.Common.{◌≡◌, ℕ, List, [], ◌∷◌, true, false, Some, refl}
use Rattle.fast_lower.specs.Examples.{binary_trees, atom}
use Rattle.rounded_map.specs.RoundedMap.{Setting, setting, values_up}
use Rattle.rounded_map.specs.Contracting.{body_slopes}
use Rattle.fast_lower.specs.Contraction.{is_pre_fixed, is_contracting}
use Rattle.fast_lower.specs.FastVector.{swept_up, upper_vector, weight_vector, lowered, candidate_down, if_passes, passing_candidate, first_passing, passing_below, fast_vector}
use Rattle.newton_upper.specs.Candidates.{dual_vector, swept_dual, upper_values}

abbrev binary_at : Setting
binary_at = setting binary_trees 3 16 48

abbrev greater : List ℕ
greater = 1125899906842624 ∷ []

-- The greater solution is pre-fixed ..
pub greater_pre_fixed : is_pre_fixed binary_at greater ≡ true
greater_pre_fixed = refl

-- .. its derivative along 256 units is 384 ..
pub greater_slope : body_slopes binary_at (values_up binary_at greater) (256 ∷ []) ≡ Some 384 ∷ []
greater_slope = refl

-- .. so 256 units do not contract there.
pub greater_refused : is_contracting binary_at greater (256 ∷ []) ≡ false
greater_refused = refl

abbrev atom_at : Setting
atom_at = setting atom 1 2 48

-- The upper vector of the base 2^47 + 256 is 2^47.
pub atom_upper : upper_vector atom_at (140737488355584 ∷ []) ≡ 140737488355328 ∷ []
unfolding swept_up
atom_upper = refl

pub atom_weights : weight_vector atom_at (140737488355328 ∷ []) ≡ Some (256 ∷ [])
unfolding weight_vector dual_vector swept_dual upper_values
atom_weights = refl

-- Candidate 0 passes, and its entry less one unit is the fast vector.
pub atom_fast : fast_vector atom_at (140737488355584 ∷ []) ≡ Some (140737488355071 ∷ [])
unfolding fast_vector passing_below first_passing passing_candidate if_passes candidate_down lowered swept_up weight_vector dual_vector swept_dual upper_values
atom_fast = refl
