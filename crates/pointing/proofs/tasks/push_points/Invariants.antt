use Rattle.std.proofs.Common.{◌≡◌, ◌++◌, take, map}
use Rattle.pointing.specs.declared.tasks.Task.TheVariants.{Point}
use Rattle.pointing.proofs.tasks.push_points.Given as goal

abbrev pub invariant-loop-node : goal.invariant-loop-node
invariant-loop-node l = l.tasks.items ≡ l.initial.tasks.items ++ map Point (take l.node-index l.nodes)
