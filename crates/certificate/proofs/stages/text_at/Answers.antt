-- A text or none.
use Rattle.certificate.specs.Stages.{May}
use Rattle.certificate.proofs.NextLines.{found-line, stuck-text}
use Rattle.certificate.proofs.stages.text_at.Goals as goal

pub returns-in_err-printed-clause-none : goal.returns-in_err-printed-clause-none
returns-in_err-printed-clause-none c = rw c.from_residual-in_err-printed.ensures (stuck-text c.args.text.now c.in_ok-line.line.now c.in_ok-line.rest.now c.in_ok-line.ensures.found.0 c.in_ok-line.ensures.found.1 c.in_err-printed.ensures.none)

pub returns-clause-found : goal.returns-clause-found
returns-clause-found c = found-line c.args.text.now c.in_ok-line.line.now c.in_ok-line.rest.now (May.text c.in_ok-printed.ensures.found.0) c.in_ok-line.ensures.found.1 c.in_ok-printed.ensures.found.1
