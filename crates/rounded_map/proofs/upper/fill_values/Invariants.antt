use Rattle.std.proofs.Common.{◌≡◌, [], take}
use Rattle.class_system.specs.NodeResults.{node_results, ranged_nodes}
use Rattle.rounded_map.specs.RoundedMap.{setting, node_value_up}
use Rattle.rounded_map.proofs.upper.fill_values.Given as goal

-- the values of the nodes so far
abbrev pub invariant-loop-e : goal.invariant-loop-e
invariant-loop-e g l = take l.e l.values ≡ node_results (node_value_up (setting l.system l.fn.x.num l.fn.x.den g.row.F) l.classes) [] (take l.e (ranged_nodes l.system))
