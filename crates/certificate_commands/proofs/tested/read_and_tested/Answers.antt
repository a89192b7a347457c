use Rattle.std.proofs.Common.{arith}
use Rattle.certificate_commands.proofs.Testing.{stopped-at-tests, stopped-at-certificate}
use Rattle.certificate_commands.proofs.tested.read_and_tested.Goals as goal

-- a test fails
pub returns-in-Err-tested-clause-err : goal.returns-in-Err-tested-clause-err
returns-in-Err-tested-clause-err g c = λ before below. stopped-at-tests (g.S.Shelf.content c.args.shelf.now) before (g.S.Shelf.faults c.certificate_read.new.shelf) c.args.cert.now c.args.founded.now _ _ c.args.steps.now c.tested.new.steps c.in-Ok.certificate c.in-Ok.ensures.ok c.in-Err-tested.ensures.err c.in-Err-tested.ensures.ticks

-- the certificate is refused
pub returns-in-Err-clause-err : goal.returns-in-Err-clause-err
returns-in-Err-clause-err g c = λ before below. stopped-at-certificate (g.S.Shelf.content c.args.shelf.now) before (g.S.Shelf.faults c.certificate_read.new.shelf) c.args.cert.now c.args.founded.now _ _ c.args.steps.now c.args.steps.now (c.in-Err.ensures.err before below) (omega arith)
