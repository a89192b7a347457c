use Rattle.std.proofs.Common.{◌≡◌, ◌++◌, take, map}
use Rattle.pointing.specs.declared.tasks.Task.TheVariants.{Copy}
use Rattle.pointing.proofs.tasks.push_copies.Given as goal

abbrev pub invariant-loop-node : goal.invariant-loop-node
invariant-loop-node l = l.tasks.items ≡ l.initial.tasks.items ++ map Copy (take l.node-index l.nodes)
