-- Sequences, sets and cycles: the series and the node that belong to each, and which nodes of a
-- specification are counted.
use Rattle.std.specs.Prelude.{◌≡◌, ℕ, ◌≤◌, Some}
use Rattle.bz_model.specs.Spec.{Spec, Node, Range, IsWithinHigh, node_at}
use Rattle.series_bounds.specs.Series.{Kind}
use Rattle.series_bounds.specs.ExactSums.{first_term}
use Rattle.count_draw.specs.declared.kind.CountKind.{CountKind}
use Rattle.count_draw.specs.declared.kind.CountKind.TheVariants.{Seq, Set, Cyc}

-- The series of a construction.
abbrev pub series_of_kind : CountKind → Kind
series_of_kind Seq = Kind.Seq
series_of_kind Set = Kind.Set
series_of_kind Cyc = Kind.Cyc

-- The node of a construction with its part.
abbrev pub counted_node : Kind → (part : ℕ) → Node
counted_node Kind.Seq part = Node.Seq part
counted_node Kind.Set part = Node.Set part
counted_node Kind.Cyc part = Node.Cyc part

-- A node of a specification is counted: it is a sequence, a set or a cycle.
pub record IsCountedNode (s : Spec) (e : ℕ) : Type 0 where
  pub kind : Kind
  pub part : ℕ
  pub here : node_at s e ≡ Some (counted_node kind part)

-- A range suits a construction: its low is at most 64, at least one for a cycle, and not above its
-- high.
pub record SuitsRange (kind : Kind) (r : Range) : Type 0 where
  pub first : first_term kind ≤ r.low
  pub few : r.low ≤ 64
  pub within : IsWithinHigh r.low r.high
