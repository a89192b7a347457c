-- Cells or none.
use Rattle.certificate.specs.Stages.{May}
use Rattle.certificate.proofs.NextLines.{found-line, stuck-cells}
use Rattle.certificate.proofs.stages.cells_at.Goals as goal

pub returns-in_default-2-clause-none : goal.returns-in_default-2-clause-none
returns-in_default-2-clause-none c = stuck-cells c.args.text.now c.in-Some.line.now c.in-Some.rest.now c.in-Some.ensures.found.0 c.in-Some.ensures.found.1 (rw c.in_default-2.is at c.in_ok-cells.ensures.none)

pub returns-clause-found : goal.returns-clause-found
returns-clause-found c =
    let f = rw c.in-Some-2.is at c.in_ok-cells.ensures.found in
    found-line c.args.text.now c.in-Some.line.now c.in-Some.rest.now (May.cells f.0) c.in-Some.ensures.found.1 f.1
