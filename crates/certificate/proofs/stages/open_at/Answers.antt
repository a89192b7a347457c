-- A number left open or none.
use Rattle.certificate.specs.Stages.{May}
use Rattle.certificate.proofs.NextLines.{found-line, no-open-here}
use Rattle.certificate.proofs.stages.open_at.Goals as goal

pub returns-in_err-straddle-clause-none : goal.returns-in_err-straddle-clause-none
returns-in_err-straddle-clause-none c = rw c.from_residual-in_err-straddle.ensures (no-open-here c.args.text.now c.in_ok-line.line.now c.in_ok-line.rest.now c.in_ok-line.ensures.found.0 c.in_ok-line.ensures.found.1 c.in_err-straddle.ensures.none)

pub returns-clause-found : goal.returns-clause-found
returns-clause-found c = found-line c.args.text.now c.in_ok-line.line.now c.in_ok-line.rest.now (May.left_open c.in_ok-straddle.ensures.found.0 c.in_ok-straddle.ensures.found.1) c.in_ok-line.ensures.found.1 c.in_ok-straddle.ensures.found.2
