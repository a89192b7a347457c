-- Two small specifications.
use Rattle.std.specs.Prelude.{[], ◌∷◌, None}
use Rattle.bz_model.specs.Spec.{Spec, Node, Range, Mode}

-- The plain range.
abbrev pub unbounded_range : Range
unbounded_range = record { low = 0; high = None }

-- B = E + Z*B*B
abbrev pub binary_trees : Spec
binary_trees = record {
  mode = Mode.Unlabelled;
  names = (66 ∷ []) ∷ [];
  bodies = 5 ∷ [];
  nodes =
      Node.Empty [] ∷ Node.Atom [] ∷ Node.Class 0 ∷ Node.Class 0 ∷ Node.Product (1 ∷ 2 ∷ 3 ∷ [])
      ∷ Node.Union (0 ∷ 4 ∷ []) ∷ [];
  ranges = unbounded_range ∷ unbounded_range ∷ unbounded_range ∷ unbounded_range ∷ unbounded_range
      ∷ unbounded_range ∷ [];
}

-- C = Z
abbrev pub atom : Spec
atom = record {
  mode = Mode.Unlabelled;
  names = (67 ∷ []) ∷ [];
  bodies = 0 ∷ [];
  nodes = Node.Atom [] ∷ [];
  ranges = unbounded_range ∷ [];
}
