-- A window or none.
use Rattle.certificate.specs.Stages.{May}
use Rattle.certificate.proofs.NextLines.{found-line, stuck-window}
use Rattle.certificate.proofs.stages.window_at.Goals as goal

pub returns-in_err-window-clause-none : goal.returns-in_err-window-clause-none
returns-in_err-window-clause-none c = rw c.from_residual-in_err-window.ensures (stuck-window c.args.text.now c.in_ok-line.line.now c.in_ok-line.rest.now c.in_ok-line.ensures.found.0 c.in_ok-line.ensures.found.1 c.in_err-window.ensures.none)

pub returns-clause-found : goal.returns-clause-found
returns-clause-found c = found-line c.args.text.now c.in_ok-line.line.now c.in_ok-line.rest.now (May.window c.in_ok-window.ensures.found.0 c.in_ok-window.ensures.found.1) c.in_ok-line.ensures.found.1 c.in_ok-window.ensures.found.2
