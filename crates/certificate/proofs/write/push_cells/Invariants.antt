-- The first cells are written.
use Rattle.std.proofs.Common.{◌≡◌, ◌++◌, take}
use Rattle.certificate.specs.Fields.{cells_text}
use Rattle.certificate.proofs.write.push_cells.Given as goal

abbrev pub invariant-loop-cell : goal.invariant-loop-cell
invariant-loop-cell l = l.text.items ≡ l.fn.text.items ++ cells_text (take l.cell-index l.cells)
