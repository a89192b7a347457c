-- Which nodes have an object of size 0, computed: the least sets that the cases of the nodes give.
use Rattle.std.specs.Prelude.{ℕ, zero, suc, Bool, true, false, ◌||◌, nat_eq, List, [], map, length}
use Rattle.std.specs.Prelude.{replicate, slice_get, unwrap_or}
use Rattle.std.specs.List.{list_all, list_any}
use Rattle.bz_model.specs.Spec.{Node, Range, Spec}
use Rattle.class_system.specs.NodeResults.{node_results, ranged_nodes}

-- The result of n steps.
abbrev pub iterated : {V : Type 0} → (V → V) → ℕ → V → V
iterated step zero v = v
iterated step (suc n) v = step (iterated step n v)

-- The answer at a place, no past the end.
abbrev pub answer_at : List Bool → ℕ → Bool
answer_at answers i = unwrap_or (slice_get answers i) false

-- A counted node has one where it may have no parts, or where its part has one.
abbrev pub counted_has_empty : Range → (part : Bool) → Bool
counted_has_empty range part = nat_eq range.low 0 || part

-- Whether a node has one, from the classes that have one and from the nodes before it.
abbrev pub node_has_empty : (classes before : List Bool) → Node → Range → Bool
node_has_empty classes before (Node.Empty word) range = true
node_has_empty classes before (Node.Atom word) range = false
node_has_empty classes before (Node.Class c) range = answer_at classes c
node_has_empty classes before (Node.Union parts) range = list_any (answer_at before) parts
node_has_empty classes before (Node.Product parts) range = list_all (answer_at before) parts
node_has_empty classes before (Node.Seq part) range =
    counted_has_empty range (answer_at before part)
node_has_empty classes before (Node.Set part) range =
    counted_has_empty range (answer_at before part)
node_has_empty classes before (Node.Cyc part) range =
    counted_has_empty range (answer_at before part)

abbrev pub nodes_with_empty : Spec → (classes : List Bool) → List Bool
nodes_with_empty s classes = node_results (node_has_empty classes) [] (ranged_nodes s)

-- The classes that have one, from those found before.
abbrev pub more_with_empty : Spec → (classes : List Bool) → List Bool
more_with_empty s classes = map (answer_at (nodes_with_empty s classes)) s.bodies

-- The classes that have one: as many steps as there are classes find all of them.
abbrev pub classes_with_empty : Spec → List Bool
classes_with_empty s =
    iterated (more_with_empty s) (length s.bodies) (replicate (length s.bodies) false)

-- The node has an object of size 0.
abbrev pub has_empty : Spec → (node : ℕ) → Bool
has_empty s node = answer_at (nodes_with_empty s (classes_with_empty s)) node
