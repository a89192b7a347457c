use Rattle.std.proofs.Common.{◌≡◌, [], take, vec_len}
use Rattle.class_system.specs.NodeResults.{node_results, ranged_nodes}
use Rattle.class_system.specs.CanonicalText.{node_shown}
use Rattle.class_system.proofs.canonical.show_nodes.Given as goal

-- the texts of the nodes so far
abbrev pub invariant-loop-e : goal.invariant-loop-e
invariant-loop-e l = record {
  found : l.shown.items ≡ node_results (node_shown l.draft.names) [] (take l.e (ranged_nodes l.draft));
  len : vec_len l.shown ≡ l.e;
}
