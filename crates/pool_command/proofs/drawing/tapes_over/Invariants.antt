use Rattle.std.proofs.Common.{◌≡◌, map, take}
use Rattle.pool_command.specs.UnderWay.{tape_over}
use Rattle.pool_command.proofs.drawing.tapes_over.Given as goal

-- there is a tape for each name so far
abbrev pub invariant-loop-name : goal.invariant-loop-name
invariant-loop-name l = l.tapes.items ≡ map tape_over (take l.name-index l.names)
