-- The bits of the cells so far are taken off.
use Rattle.std.proofs.Common.{◌≡◌, ◌-◌, take}
use Rattle.labelling.specs.LabelsByBits.{bits_in}
use Rattle.size_window.proofs.finished_shape.place_before.Given as goal

abbrev pub invariant-loop-cell : goal.invariant-loop-cell
invariant-loop-cell l = l.place ≡ l.used - bits_in (take l.cell-index l.cells)
