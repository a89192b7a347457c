use Rattle.std.proofs.Common.{◌≡◌, ◌++◌, take}
use Rattle.entry_replay.proofs.replay.behind.Given as goal

-- the first of the cells are at the front
abbrev pub invariant-loop-cell : goal.invariant-loop-cell
invariant-loop-cell l = l.fn.cells ≡ take l.cell-index l.front ++ l.rest
