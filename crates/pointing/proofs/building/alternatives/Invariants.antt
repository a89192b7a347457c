use Rattle.std.proofs.Common.{◌≡◌, ◌++◌, [], take, drop, length}
use Rattle.pointing.specs.Building.{alternatives}
use Rattle.pointing.proofs.building.alternatives.Given as goal

abbrev pub invariant-loop-i : goal.invariant-loop-i
invariant-loop-i l = l.tasks.items ++ alternatives (length l.parts) l.nodes (take l.i l.parts) (drop l.i l.parts) ≡ alternatives (length l.parts) l.nodes [] l.parts
