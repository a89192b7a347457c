-- Word by word.
use Rattle.certificate.proofs.ReadLines.{no-end}
use Rattle.certificate.proofs.lines.end_of.Goals as goal

pub returns-clause-none : goal.returns-clause-none
returns-clause-none c = no-end c.args.line.now c.closing_of-5.result c.in_default.ensures.none c.in_default-closing_of.ensures.none c.in_default-closing_of-2.ensures.none c.in_default-closing_of-3.ensures.none c.closing_of-5.ensures.none
