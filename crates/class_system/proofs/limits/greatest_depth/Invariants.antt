use Rattle.std.proofs.Common.{◌≡◌, ◌≤◌, [], take, vec_len}
use Rattle.class_system.specs.NodeResults.{node_results, ranged_nodes}
use Rattle.class_system.specs.Limits.{greatest_of, node_depth}
use Rattle.class_system.proofs.limits.greatest_depth.Given as goal

-- the depths of the nodes so far, and the greatest of them
abbrev pub invariant-loop-item : goal.invariant-loop-item
invariant-loop-item l = record {
  found : l.depths.items ≡ node_results node_depth [] (take l.item-index (ranged_nodes l.draft));
  greatest_is : l.most ≡ greatest_of l.depths.items;
  few : l.most ≤ l.item-index;
  len : vec_len l.depths ≡ l.item-index;
}
