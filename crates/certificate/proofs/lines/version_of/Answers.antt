-- A number that is no version.
use Rattle.certificate.proofs.ReadLines.{no-version}
use Rattle.certificate.proofs.lines.version_of.Goals as goal

pub returns-clause-none : goal.returns-clause-none
returns-clause-none c = no-version c.args.line.now c.read_whole.new.numbers c.if-not-read_whole.ensures.found c.if-version-eq1.false c.if-version-eq2.false
