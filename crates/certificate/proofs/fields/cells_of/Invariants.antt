-- What is left is a list of cells exactly where all of the line is, those found so far before them.
use Rattle.std.proofs.Common.{length}
use Rattle.certificate.proofs.CellFields.{ReadsCells}
use Rattle.certificate.proofs.fields.cells_of.Given as goal

abbrev pub invariant-cells : goal.invariant-cells
invariant-cells l = ReadsCells l.fn.line l.cells.items l.rest

abbrev pub decreases-cells : goal.decreases-cells
decreases-cells l = length l.rest
