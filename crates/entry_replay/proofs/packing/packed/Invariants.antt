use Rattle.std.proofs.Common.{◌≡◌, take}
use Rattle.bz_model.specs.Cell.{spelled}
use Rattle.entry_replay.proofs.packing.packed.Given as goal

-- the bits of the cells so far were put
abbrev pub invariant-loop-cell : goal.invariant-loop-cell
invariant-loop-cell l = l.packing ≡ spelled (take l.cell-index l.cells)
