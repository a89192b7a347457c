-- At a node or for a label.
use Rattle.certificate.proofs.ReadLines.{no-open-left}
use Rattle.certificate.proofs.lines.open_of.Goals as goal

pub returns-in-None-clause-none : goal.returns-in-None-clause-none
returns-in-None-clause-none c = no-open-left c.args.line.now c.in-None.ensures.none c.label_of.result c.label_of.ensures.none
