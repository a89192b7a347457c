-- An object or none.
use Rattle.certificate.specs.Stages.{May}
use Rattle.certificate.proofs.NextLines.{found-line, no-object-here}
use Rattle.certificate.proofs.stages.object_at.Goals as goal

pub returns-in_err-object-clause-none : goal.returns-in_err-object-clause-none
returns-in_err-object-clause-none c = rw c.from_residual-in_err-object.ensures (no-object-here c.args.text.now c.in_ok-line.line.now c.in_ok-line.rest.now c.in_ok-line.ensures.found.0 c.in_ok-line.ensures.found.1 c.in_err-object.ensures.none)

pub returns-clause-found : goal.returns-clause-found
returns-clause-found c = found-line c.args.text.now c.in_ok-line.line.now c.in_ok-line.rest.now (May.object c.in_ok-object.ensures.found.0 c.in_ok-object.ensures.found.1 c.in_ok-object.ensures.found.2) c.in_ok-line.ensures.found.1 c.in_ok-object.ensures.found.3
