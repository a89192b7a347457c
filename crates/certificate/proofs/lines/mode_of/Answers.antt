-- The line of one mode or the other.
use Rattle.std.proofs.Common.{◌∙◌}
use Rattle.certificate.proofs.ReadLines.{unlabelled-text, labelled-text, no-mode, fits-unlabelled, fits-labelled}
use Rattle.certificate.proofs.lines.mode_of.Goals as goal

pub returns-then-read_whole-clause-found : goal.returns-then-read_whole-clause-found
returns-then-read_whole-clause-found c = c.if-read_whole.ensures.found.1 ∙ unlabelled-text c.read_whole.new.numbers

pub returns-then-read_whole-2-clause-found : goal.returns-then-read_whole-2-clause-found
returns-then-read_whole-2-clause-found c = c.if-read_whole-2.ensures.found.1 ∙ labelled-text c.read_whole-2.new.numbers

pub returns-clause-none : goal.returns-clause-none
returns-clause-none c = no-mode c.args.line.now (fits-unlabelled c.args.line.now c.read_whole.result c.read_whole.ensures.none c.if-read_whole.false) (fits-labelled c.args.line.now c.read_whole-2.result c.read_whole-2.ensures.none c.if-read_whole-2.false)
