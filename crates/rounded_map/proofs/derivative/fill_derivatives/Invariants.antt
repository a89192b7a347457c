use Rattle.std.proofs.Common.{◌≡◌, ℕ, [], take, map, Some}
use Rattle.class_system.specs.NodeResults.{node_results, ranged_nodes}
use Rattle.rounded_map.specs.RoundedMap.{setting}
use Rattle.rounded_map.specs.Derivative.{derivative_up}
use Rattle.rounded_map.proofs.derivative.fill_derivatives.Given as goal

-- the derivatives of the nodes so far
abbrev pub invariant-loop-e : goal.invariant-loop-e
invariant-loop-e g l = (num den : ℕ) → take l.e l.derivatives ≡ node_results (derivative_up (setting l.system num den g.row.F) (map Some l.values) l.dual) [] (take l.e (ranged_nodes l.system))
