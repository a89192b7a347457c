-- Nodes whose kept bounds were compared with a table's.
use Rattle.std.specs.Prelude.{ℕ, ◌≤◌, Bool, List, [], slice_index_or}
use Rattle.bz_model.specs.declared.cell.Bounds.{Bounds}
use Rattle.bz_model.specs.Spec.{Spec, node_at}
use Rattle.choice_draw.specs.declared.kept.KeptUnions.{KeptUnions}
use Rattle.choice_draw.specs.Decision.{union_parts}
use Rattle.choice_draw.specs.KeptChoices.{KeptBounds, UnionBounds, AreBoundsOf}
use Rattle.choice_draw.specs.Marks.{IsMarked}

-- No bounds.
abbrev pub none_kept : UnionBounds
none_kept = record { whole = record { lo = 0; hi = 0 }; parts = [] }

-- The bounds that are kept for a node.
abbrev pub kept_for : KeptUnions → (node : ℕ) → KeptBounds
kept_for kept node = slice_index_or kept.tables.items (slice_index_or kept.places.items node 0)
    (record { first = none_kept; second = none_kept })

-- At each marked node level 1 is raised, and the bounds that are kept for it there are a table's.
pub record AreCompared (s : Spec) (table : (level node : ℕ) → Bounds) (highest : ℕ)
    (kept : KeptUnions) (marks : List Bool) : Type 0 where
  pub raised : (node : ℕ) → IsMarked marks node → 1 ≤ highest
  pub first : (node : ℕ) → IsMarked marks node
      → AreBoundsOf (table 1) node (union_parts (node_at s node)) (kept_for kept node).first
