-- The levels: their class vectors, the table of node bounds that these give, and what raising
-- costs.
use Rattle.std.specs.Prelude.{ℕ, zero, suc, ◌+◌, ◌*◌, ◌^◌, ◌≤◌, max, min, List, [], ◌∷◌, map}
use Rattle.std.specs.Prelude.{slice_index, Option, Some, None, unwrap_or}
use Rattle.bz_model.specs.declared.cell.Bounds.{Bounds}
use Rattle.fixed_enclosure.specs.Rounded.{greatest}
use Rattle.rounded_map.specs.RoundedMap.{Setting, value_at, repeated, values_down, values_up}
use Rattle.rounded_map.specs.RoundedMap.{sweep_up}
use Rattle.kleene_lower.specs.Lower.{zeros, swept_from}

-- Level j has the class vectors after 4^j sweeps; before level 1 none is done.
abbrev pub sweeps_at : (level : ℕ) → ℕ
sweeps_at zero = 0
sweeps_at (suc level) = 4 ^ suc level

-- The lower class vector of a level from a start: the one after the level's lower sweeps from it.
unfoldable pub level_down_from : Setting → (start : List ℕ) → (level : ℕ) → List ℕ
level_down_from t start level = swept_from t start (sweeps_at level)

-- The lower class vector of a level: the one after its lower sweeps from zero.
abbrev pub level_down : Setting → (level : ℕ) → List ℕ
level_down t level = level_down_from t (zeros t) level

-- The upper class vector of a level: the one after its upper sweeps from the base.
unfoldable pub level_up : Setting → (base : List ℕ) → (level : ℕ) → List ℕ
level_up t base level = repeated (sweep_up t) (sweeps_at level) base

-- The lesser of two values, of which one without a value is the greater.
abbrev pub lesser_value : Option ℕ → Option ℕ → Option ℕ
lesser_value None b = b
lesser_value (Some a) None = Some a
lesser_value (Some a) (Some b) = Some (min a b)

-- A node's lower bound at a level from a start: the greatest of its lower values at the vectors of
-- the levels 1 to it.
unfoldable pub bound_down_from : Setting → (start : List ℕ) → (level node : ℕ) → ℕ
bound_down_from t start zero e = 0
bound_down_from t start (suc level) e =
    max (bound_down_from t start level e)
    (slice_index (values_down t (level_down_from t start (suc level))) e)

-- A node's upper bound at a level: the least of its upper values at the vectors of the levels 1 to
-- it. From a post-fixed base on there is one.
unfoldable pub bound_up : Setting → (base : List ℕ) → (level node : ℕ) → Option ℕ
bound_up t base zero e = None
bound_up t base (suc level) e =
    lesser_value (bound_up t base level e) (value_at (values_up t (level_up t base (suc level))) e)

-- The table from a start: a node's bounds at a level.
abbrev pub level_bounds_from : Setting → (start base : List ℕ) → (level node : ℕ) → Bounds
level_bounds_from t start base level e =
    record {
      lo = bound_down_from t start level e;
      hi =
          unwrap_or (bound_up t base level e) greatest;
    }

-- The table: that from zero.
abbrev pub level_bounds : Setting → (base : List ℕ) → (level node : ℕ) → Bounds
level_bounds t base level e = level_bounds_from t (zeros t) base level e

-- One pair of bounds lies within another: its lower one is at least the other's, its upper one at
-- most.
pub record LieWithin (inner outer : Bounds) : Type 0 where
  pub lo : outer.lo ≤ inner.lo
  pub hi : inner.hi ≤ outer.hi

-- What raising from level 0 to a level costs, in ticks: its sweeps on both sides, and two
-- evaluations of the nodes for each level.
abbrev pub cost_at : (level : ℕ) → ℕ
cost_at level = 2 * sweeps_at level + 2 * level

-- The costs of the levels 0 to 6.
unfoldable pub costs : List ℕ
costs = map cost_at (0 ∷ 1 ∷ 2 ∷ 3 ∷ 4 ∷ 5 ∷ 6 ∷ [])
