-- A digest or none.
use Rattle.certificate.specs.Stages.{May}
use Rattle.certificate.proofs.NextLines.{found-line, stuck-digest}
use Rattle.certificate.proofs.stages.digest_at.Goals as goal

pub returns-in_err-digest-clause-none : goal.returns-in_err-digest-clause-none
returns-in_err-digest-clause-none c = rw c.from_residual-in_err-digest.ensures (stuck-digest c.args.text.now c.in_ok-line.line.now c.in_ok-line.rest.now c.in_ok-line.ensures.found.0 c.in_ok-line.ensures.found.1 c.in_err-digest.ensures.none)

pub returns-clause-found : goal.returns-clause-found
returns-clause-found c = found-line c.args.text.now c.in_ok-line.line.now c.in_ok-line.rest.now (May.digest c.in_ok-digest.ensures.found.0) c.in_ok-line.ensures.found.1 c.in_ok-digest.ensures.found.1
