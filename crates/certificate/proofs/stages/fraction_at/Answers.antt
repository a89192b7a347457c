-- Fraction bits or none.
use Rattle.certificate.specs.Stages.{May}
use Rattle.certificate.proofs.NextLines.{found-line, stuck-fraction}
use Rattle.certificate.proofs.stages.fraction_at.Goals as goal

pub returns-in_err-bits-clause-none : goal.returns-in_err-bits-clause-none
returns-in_err-bits-clause-none c = rw c.from_residual-in_err-bits.ensures (stuck-fraction c.args.text.now c.in_ok-line.line.now c.in_ok-line.rest.now c.in_ok-line.ensures.found.0 c.in_ok-line.ensures.found.1 c.in_err-bits.ensures.none)

pub returns-clause-found : goal.returns-clause-found
returns-clause-found c = found-line c.args.text.now c.in_ok-line.line.now c.in_ok-line.rest.now (May.fraction c.in_ok-bits.ensures.found.0) c.in_ok-line.ensures.found.1 c.in_ok-bits.ensures.found.1
