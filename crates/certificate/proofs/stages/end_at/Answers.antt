-- The words of a last line.
use Rattle.certificate.proofs.NextLines.{stuck-object, stuck-undecided, end-passes}
use Rattle.certificate.proofs.stages.end_at.Goals as goal

pub returns-in_err-closing-clause-none : goal.returns-in_err-closing-clause-none
returns-in_err-closing-clause-none c = rw c.from_residual-in_err-closing.ensures (stuck-object c.args.text.now c.in_ok-line.line.now c.in_ok-line.rest.now c.in_ok-line.ensures.found.0 c.in_ok-line.ensures.found.1 (λ word k t b u ne. c.in_err-closing.ensures.none word k t b u))

pub returns-in-Undecided-clause-none : goal.returns-in-Undecided-clause-none
returns-in-Undecided-clause-none c = stuck-undecided c.args.text.now c.in_ok-line.line.now c.in_ok-line.rest.now c.in_ok-closing.closing.word c.in_ok-closing.closing.kept c.in_ok-closing.closing.thrown c.in_ok-closing.closing.bits c.in_ok-closing.closing.turns c.in_ok-line.ensures.found.0 c.in_ok-line.ensures.found.1 c.in_ok-closing.ensures.found.1 c.in-Undecided.is

pub returns-in_default-clause-found : goal.returns-in_default-clause-found
returns-in_default-clause-found c = end-passes c.in_ok-closing.closing c.args.text.now c.in_ok-line.line.now c.in_ok-line.rest.now c.in_ok-line.ensures.found.1 c.in_ok-closing.ensures.open c.in_default.not-Undecided c.in_ok-closing.ensures.found.0 c.in_ok-closing.ensures.found.1
