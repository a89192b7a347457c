-- The word of an open number, or another.
use Rattle.certificate.specs.declared.closing.ClosingWord.TheVariants.{Undecided}
use Rattle.certificate.proofs.NextLines.{stuck-end, stuck-decided, undecided-passes}
use Rattle.certificate.proofs.stages.undecided_at.Goals as goal

pub returns-in_err-closing-clause-none : goal.returns-in_err-closing-clause-none
returns-in_err-closing-clause-none c = rw c.from_residual-in_err-closing.ensures (stuck-end c.args.text.now c.in_ok-line.line.now c.in_ok-line.rest.now c.in_ok-line.ensures.found.0 c.in_ok-line.ensures.found.1 (c.in_err-closing.ensures.none Undecided))

pub returns-in-Undecided-clause-found : goal.returns-in-Undecided-clause-found
returns-in-Undecided-clause-found c = undecided-passes c.in_ok-closing.closing c.args.text.now c.in_ok-line.line.now c.in_ok-line.rest.now c.in_ok-line.ensures.found.1 c.in-Undecided.is c.in_ok-closing.ensures.found.0 c.in_ok-closing.ensures.found.1

pub returns-in_default-clause-none : goal.returns-in_default-clause-none
returns-in_default-clause-none c = stuck-decided c.args.text.now c.in_ok-line.line.now c.in_ok-line.rest.now c.in_ok-closing.closing.word c.in_ok-closing.closing.kept c.in_ok-closing.closing.thrown c.in_ok-closing.closing.bits c.in_ok-closing.closing.turns c.in_ok-line.ensures.found.0 c.in_ok-line.ensures.found.1 c.in_ok-closing.ensures.found.1 c.in_default.not-Undecided
