-- Results for all nodes in order, each from the results for the nodes before it.
use Rattle.std.specs.Prelude.{List, [], ◌∷◌, ◌++◌, zip}
use Rattle.bz_model.specs.Spec.{Spec, Node, Range}

-- Each node with its range.
abbrev pub ranged_nodes : Spec → List (Node × Range)
ranged_nodes s = zip s.nodes s.ranges

-- The results for nodes in order, each from the results for all nodes before it, which are given
-- first.
abbrev pub node_results : {V : Type 0} → (List V → Node → Range → V) → List V → List (Node × Range)
    → List V
node_results result before [] = before
node_results result before (node ∷ nodes) =
    node_results result (before ++ result before node.0 node.1 ∷ []) nodes
