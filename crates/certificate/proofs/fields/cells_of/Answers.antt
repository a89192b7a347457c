-- Cell after cell.
use Rattle.certificate.proofs.CellFields.{reads-first, reads-cell, no-cells-left, all-cells, shorter, not-empty, is-empty}
use Rattle.certificate.proofs.fields.cells_of.Goals as goal

pub cells-init : goal.cells-init
cells-init c = rw c.new-cells.ensures (reads-first c.args.line.now c.in-Some.rest.now c.in-Some.ensures.found)

pub cells-smaller : goal.cells-smaller
cells-smaller c = shorter c.in-Some-cell_at.cell c.cells.rest.now c.in-Some-cell_at.after.now c.in-Some-cell_at.ensures.found.1

pub cells-preserved : goal.cells-preserved
cells-preserved c = rw c.in_ok-push.ensures.ok (reads-cell c.args.line.now c.cells.cells.items c.cells.rest.now c.in-Some-cell_at.after.now c.in-Some-cell_at.cell c.in-Some-cell_at.ensures.found.0 c.in-Some-cell_at.ensures.found.1 c.in-Some-cell_at.ensures.found.2 c.cells.invariant)

pub returns-in_default-cell_at-clause-none : goal.returns-in_default-cell_at-clause-none
returns-in_default-cell_at-clause-none c = no-cells-left c.args.line.now c.cells.cells.items c.cells.rest.now (not-empty c.cells.rest.now c.is_empty.result c.is_empty.ensures c.cells-test.true) c.in_default-cell_at.ensures.none c.cells.invariant

pub returns-clause-found : goal.returns-clause-found
returns-clause-found c = (c.cells.invariant.are, all-cells c.args.line.now c.cells.cells.items c.cells.rest.now (is-empty c.cells.rest.now c.is_empty.result c.is_empty.ensures c.cells-test.false) c.cells.invariant)
