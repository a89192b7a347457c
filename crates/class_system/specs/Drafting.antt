-- What the calls of a draft do to it.
use Rattle.std.specs.Prelude.{◌≡◌, ℕ, List, [], ◌∷◌, ◌++◌, Some, slice_get}
use Rattle.bz_model.specs.Spec.{Spec, Mode, Node, Range}
use Rattle.class_system.specs.Distinct.{IsMissing}
use Rattle.class_system.specs.declared.draft.ClassFault.{ClassFault}
use Rattle.class_system.specs.declared.draft.ClassFault.TheVariants.{Twice, OutOfMemory}

-- A specification without classes and nodes.
abbrev pub empty_draft : Mode → Spec
empty_draft mode = record { mode = mode; names = []; bodies = []; nodes = []; ranges = [] }

-- The specification with one more class name.
abbrev pub with_name : Spec → List ℕ → Spec
with_name s name = record s { names = s.names ++ name ∷ [] }

-- The specification with one more node and its range.
abbrev pub with_node : Spec → Node → Range → Spec
with_node s n r = record s { nodes = s.nodes ++ n ∷ []; ranges = s.ranges ++ r ∷ [] }

-- The specification with the body of one more class.
abbrev pub with_body : Spec → ℕ → Spec
with_body s e = record s { bodies = s.bodies ++ e ∷ [] }

-- A node is a sequence, a set or a cycle.
abbrev pub HasCountedParts : Node → Type 0
HasCountedParts (Node.Seq part) = Unit {0}
HasCountedParts (Node.Set part) = Unit {0}
HasCountedParts (Node.Cyc part) = Unit {0}
HasCountedParts _ = ⊥

-- A name is refused as the name of a class that has it, or for want of memory where no class has
-- it.
abbrev pub IsNameFault : List (List ℕ) → List ℕ → ClassFault → Type 0
IsNameFault names name (Twice c) = slice_get names c.0 ≡ Some name
IsNameFault names name OutOfMemory = IsMissing name names
