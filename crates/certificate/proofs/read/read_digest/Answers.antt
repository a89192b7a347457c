-- A digest exactly in version 2.
use Rattle.certificate.proofs.Parts.{digest-none, digest-stops}
use Rattle.certificate.proofs.read.read_digest.Goals as goal

pub returns-then-version-eq1-clause-ok : goal.returns-then-version-eq1-clause-ok
returns-then-version-eq1-clause-ok c = digest-none c.args.version c.args.text.now c.if-version-eq1.true

pub returns-in-None-clause-err : goal.returns-in-None-clause-err
returns-in-None-clause-err c = digest-stops c.args.version c.args.text.now c.if-version-eq1.false c.in-None.ensures.none
