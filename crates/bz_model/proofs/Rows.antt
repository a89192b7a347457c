-- Small specifications, objects and numbers that the examples of the definitions speak of.
use Rattle.std.specs.Prelude.{[], ◌∷◌, None, Some}
use Rattle.std.proofs.Common.{lit<}
use Rattle.bz_model.specs.Fraction.{Fraction}
use Rattle.bz_model.specs.Spec.{Spec, Mode, Node, Range}
use Rattle.bz_model.specs.Object.{Object, none, more}
use Rattle.bz_model.specs.Object.Object.{Unit_, Dot, Pick, Tuple, SetOf, CycOf}

-- The range from 0 on.
abbrev pub any : Range
any = record { low = 0; high = None }

-- C = Z + Z
abbrev pub one_bit : Spec
one_bit = record { mode = Mode.Unlabelled; names = (67 ∷ []) ∷ []; bodies = 2 ∷ []; nodes = Node.Atom [] ∷ Node.Atom [] ∷ Node.Union (0 ∷ 1 ∷ []) ∷ []; ranges = any ∷ any ∷ any ∷ [] }

-- A = B*B and B = E + Z
abbrev pub two_class : Spec
two_class = record { mode = Mode.Unlabelled; names = (65 ∷ []) ∷ (66 ∷ []) ∷ []; bodies = 2 ∷ 5 ∷ []; nodes = Node.Class 1 ∷ Node.Class 1 ∷ Node.Product (0 ∷ 1 ∷ []) ∷ Node.Empty [] ∷ Node.Atom [] ∷ Node.Union (3 ∷ 4 ∷ []) ∷ []; ranges = any ∷ any ∷ any ∷ any ∷ any ∷ any ∷ [] }

-- labelled T = Z*Set(T)
abbrev pub tree : Spec
tree = record { mode = Mode.Labelled; names = (84 ∷ []) ∷ []; bodies = 3 ∷ []; nodes = Node.Atom [] ∷ Node.Class 0 ∷ Node.Set 1 ∷ Node.Product (0 ∷ 2 ∷ []) ∷ []; ranges = any ∷ any ∷ any ∷ any ∷ [] }

-- labelled P = Set(Cyc(Q)) and Q = Z + E:mark
abbrev pub marked : Spec
marked = record { mode = Mode.Labelled; names = (80 ∷ []) ∷ (81 ∷ []) ∷ []; bodies = 2 ∷ 5 ∷ []; nodes = Node.Class 1 ∷ Node.Cyc 0 ∷ Node.Set 1 ∷ Node.Atom [] ∷ Node.Empty (109 ∷ 97 ∷ 114 ∷ 107 ∷ []) ∷ Node.Union (3 ∷ 4 ∷ []) ∷ []; ranges = any ∷ record { low = 1; high = None } ∷ any ∷ any ∷ any ∷ any ∷ [] }

-- C = Seq>=2(Z), D = Seq<=1(Z) and F = Seq=3(E)
abbrev pub ranged : Spec
ranged = record { mode = Mode.Unlabelled; names = (67 ∷ []) ∷ (68 ∷ []) ∷ (70 ∷ []) ∷ []; bodies = 1 ∷ 3 ∷ 5 ∷ []; nodes = Node.Atom [] ∷ Node.Seq 0 ∷ Node.Atom [] ∷ Node.Seq 2 ∷ Node.Empty [] ∷ Node.Seq 4 ∷ []; ranges = any ∷ record { low = 2; high = None } ∷ any ∷ record { low = 0; high = Some 1 } ∷ any ∷ record { low = 3; high = Some 3 } ∷ [] }

-- C = Seq=1(Z)
abbrev pub single : Spec
single = record { mode = Mode.Unlabelled; names = (67 ∷ []) ∷ []; bodies = 1 ∷ []; nodes = Node.Atom [] ∷ Node.Seq 0 ∷ []; ranges = any ∷ record { low = 1; high = Some 1 } ∷ [] }

-- C = E
abbrev pub neutral : Spec
neutral = record { mode = Mode.Unlabelled; names = (67 ∷ []) ∷ []; bodies = 0 ∷ []; nodes = Node.Empty [] ∷ []; ranges = any ∷ [] }

-- C = C
abbrev pub nothing : Spec
nothing = record { mode = Mode.Unlabelled; names = (67 ∷ []) ∷ []; bodies = 0 ∷ []; nodes = Node.Class 0 ∷ []; ranges = any ∷ [] }

-- a root with no child
abbrev pub leaf_tree : Object
leaf_tree = Tuple (more Dot (more (SetOf none) none))

-- a root whose first child is bare, and whose second has one child
abbrev pub tree_of_four : Object
tree_of_four = Tuple (more Dot (more (SetOf (more leaf_tree (more (Tuple (more Dot (more (SetOf (more leaf_tree none)) none))) none))) none))

-- the neutral object of a class B and its atom
abbrev pub neutral_and_atom : Object
neutral_and_atom = Tuple (more (Pick 0 Unit_) (more (Pick 1 Dot) none))

-- two cycles, of a mark, an atom and an atom, and of a mark alone
abbrev pub marked_cycles : Object
marked_cycles = SetOf (more (CycOf (more (Pick 1 Unit_) (more (Pick 0 Dot) (more (Pick 0 Dot) none)))) (more (CycOf (more (Pick 1 Unit_) none)) none))

abbrev pub half : Fraction
half = record { num = 1; den = 2; positive = lit< tt }

abbrev pub quarter : Fraction
quarter = record { num = 1; den = 4; positive = lit< tt }
