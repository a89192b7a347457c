-- A version or none.
use Rattle.certificate.specs.Stages.{May}
use Rattle.certificate.proofs.NextLines.{found-line, stuck-version}
use Rattle.certificate.proofs.stages.version_at.Goals as goal

pub returns-in_err-version-clause-none : goal.returns-in_err-version-clause-none
returns-in_err-version-clause-none c = rw c.from_residual-in_err-version.ensures (stuck-version c.args.text.now c.in_ok-line.line.now c.in_ok-line.rest.now c.in_ok-line.ensures.found.0 c.in_ok-line.ensures.found.1 c.in_err-version.ensures.none)

pub returns-clause-found : goal.returns-clause-found
returns-clause-found c = found-line c.args.text.now c.in_ok-line.line.now c.in_ok-line.rest.now (May.version c.in_ok-version.ensures.found.0) c.in_ok-line.ensures.found.1 c.in_ok-version.ensures.found.1
