-- Sequences, sets and cycles whose kept bounds were compared with a table's.
use Rattle.std.specs.Prelude.{◌≡◌, ℕ, ◌≤◌, Bool, List, map, Some, slice_index_or}
use Rattle.bz_model.specs.declared.cell.Bounds.{Bounds}
use Rattle.bz_model.specs.Spec.{Spec, Range, node_at, range_at}
use Rattle.series_bounds.specs.Series.{Kind}
use Rattle.choice_draw.specs.Marks.{IsMarked}
use Rattle.count_draw.specs.declared.cache.KeptTables.{KeptTables}
use Rattle.count_draw.specs.Kinds.{counted_node}
use Rattle.count_draw.specs.FirstCounts.{CountBounds, AreCountsFor, none_kept}

-- The bounds that are kept for a node.
abbrev pub kept_for : KeptTables → (node : ℕ) → CountBounds
kept_for kept node = slice_index_or (map (λ t. t.firsts) kept.tables.items)
    (slice_index_or kept.places.items node 0) none_kept

-- A node is a sequence, set or cycle, and bounds are those of its construction and of a table, at
-- the levels of cells of up to so many bits, at most eleven.
pub record IsKeptCount (s : Spec) (f : ℕ) (table : (level node : ℕ) → Bounds) (e b : ℕ)
    (by : CountBounds) : Type 0 where
  pub kind : Kind
  pub part : ℕ
  pub range : Range
  pub node : node_at s e ≡ Some (counted_node kind part)
  pub has_range : range_at s e ≡ Some range
  pub bounds : AreCountsFor kind f range table part e b by

-- At each marked node level 1 is raised, and the bounds that are kept for it there are a table's.
pub record AreCountsCompared (s : Spec) (f : ℕ) (table : (level node : ℕ) → Bounds) (highest : ℕ)
    (kept : KeptTables) (marks : List Bool) : Type 0 where
  pub raised : (node : ℕ) → IsMarked marks node → 1 ≤ highest
  pub counts : (node : ℕ) → IsMarked marks node
      → IsKeptCount s f table node 10 (kept_for kept node)
