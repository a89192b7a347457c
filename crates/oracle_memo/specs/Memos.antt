-- What a memo is seen as, and what its memory holds.
use Rattle.std.specs.Prelude.{◌≡◌, ℕ, ◌+◌, ◌-◌, ◌*◌, ◌<◌, ◌≤◌, max, min, List, length, nat_eq}
use Rattle.std.specs.Prelude.{slice_index_or, if◌then◌else◌}
use Rattle.bz_model.specs.Spec.{Spec}
use Rattle.bz_model.specs.declared.cell.Bounds.{Bounds}
use Rattle.fixed_enclosure.specs.Rounded.{greatest}
use Rattle.bz_model.specs.Fraction.{IsFractionBits, ratio}
use Rattle.rounded_map.specs.RoundedMap.{Setting, IsPostFixed}
use Rattle.rounded_map.specs.Bounding.{AreBelow}
use Rattle.kleene_lower.specs.Lower.{Sweeps, AreSweepsFrom}
use Rattle.oracle_memo.specs.Levels.{sweeps_at, level_up, level_bounds_from}

-- A memo's specification, the parts of x, the start of its lower sweeps, its base, and its highest
-- raised level.
pub record Memory : Type 0 where
  pub spec : Spec
  pub num : ℕ
  pub den : ℕ
  pub start : List ℕ
  pub base : List ℕ
  pub raised : ℕ

-- No bounds: from 0 to the greatest number.
abbrev pub widest_bounds : Bounds
widest_bounds = record { lo = 0; hi = greatest }

-- The bounds at a place of a table.
abbrev pub bounds_at : List Bounds → ℕ → Bounds
bounds_at table i = slice_index_or table i widest_bounds

-- The bounds of a node in the row of n before the one that begins at `start`; before the first row
-- there are none.
abbrev pub bounds_before : List Bounds → (n start node : ℕ) → Bounds
bounds_before table n start e =
    if nat_eq start 0 then widest_bounds else bounds_at table (start - n + e)

-- Bounds that are drawn in to a lower and an upper value.
abbrev pub drawn_in : Bounds → (lo hi : ℕ) → Bounds
drawn_in b lo hi = record { lo = max b.lo lo; hi = min b.hi hi }

-- The first rows of a table, of which there are so many, hold the bounds of the nodes at the levels
-- from 1 on.
pub record HasRows (t : Setting) (start base : List ℕ) (levels : ℕ) (table : List Bounds) : Type 0
  where
    pub at : (row e : ℕ) → row < levels → e < length t.spec.nodes
        → bounds_at table (row * length t.spec.nodes + e) ≡ level_bounds_from t start base
        (row + 1) e

-- The base is post-fixed and the start reached, the class vectors are those of the highest raised
-- level, and the table has the rows of the raised levels and room for six.
pub record IsMemory (t : Setting) (start base : List ℕ) (raised : ℕ) (lower : Sweeps)
    (upper : List ℕ) (table : List Bounds) (low_room high_room : ℕ) : Type 0 where
  pub bits : IsFractionBits t.bits
  pub post_fixed : IsPostFixed t base
  pub few_levels : raised ≤ 6
  pub few_nodes : length t.spec.nodes ≤ 512
  pub reached : AreBelow t.spec (ratio t.num t.den) t.bits start
  pub lower_is : AreSweepsFrom t start lower
  pub lower_done : lower.done ≡ sweeps_at raised
  pub upper_is : upper ≡ level_up t base raised
  pub rows : HasRows t start base raised table
  pub room : length table ≡ 6 * length t.spec.nodes
  pub low_values : low_room ≡ length t.spec.nodes
  pub high_values : high_room ≡ length t.spec.nodes
