-- A fraction or none.
use Rattle.certificate.specs.Stages.{May}
use Rattle.certificate.proofs.NextLines.{found-line, stuck-x}
use Rattle.certificate.proofs.stages.x_at.Goals as goal

pub returns-in_err-x-clause-none : goal.returns-in_err-x-clause-none
returns-in_err-x-clause-none c = rw c.from_residual-in_err-x.ensures (stuck-x c.args.text.now c.in_ok-line.line.now c.in_ok-line.rest.now c.in_ok-line.ensures.found.0 c.in_ok-line.ensures.found.1 c.in_err-x.ensures.none)

pub returns-clause-found : goal.returns-clause-found
returns-clause-found c = found-line c.args.text.now c.in_ok-line.line.now c.in_ok-line.rest.now (May.x c.in_ok-x.x.num_in_limits c.in_ok-x.x.den_in_limits) c.in_ok-line.ensures.found.1 c.in_ok-x.ensures.found
