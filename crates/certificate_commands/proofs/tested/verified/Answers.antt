use Rattle.std.proofs.Common.{arith}
use Rattle.call_stages.specs.Stages.{files}
use Rattle.certificate_commands.proofs.Testing.{are-verified, within-after, stopped-at-specification}
use Rattle.certificate_commands.proofs.tested.verified.Goals as goal

-- the certificate is valid
pub returns-in-Ok-read_and_tested-clause-ok : goal.returns-in-Ok-read_and_tested-clause-ok
returns-in-Ok-read_and_tested-clause-ok g c = are-verified (g.S.Shelf.content c.args.shelf.now) (g.S.Shelf.faults c.args.shelf.now) (g.S.Shelf.faults c.read_and_tested.new.shelf) c.args.file.now c.args.cert.now (g.S.Shelf.content c.specified.new.shelf) c.in-Ok.founded c.in-Ok-read_and_tested.certificate c.in-Ok.ensures.content c.in-Ok.ensures.ok c.in-Ok-read_and_tested.ensures.found c.in-Ok-read_and_tested.ensures.valid

-- it is refused, or not valid
pub returns-in-Err-read_and_tested-clause-err : goal.returns-in-Err-read_and_tested-clause-err
returns-in-Err-read_and_tested-clause-err g c = within-after (g.S.Shelf.content c.args.shelf.now) (g.S.Shelf.content c.specified.new.shelf) (g.S.Shelf.faults c.args.shelf.now) (g.S.Shelf.faults c.read_and_tested.new.shelf) c.args.file.now c.args.cert.now c.in-Ok.founded _ _ c.args.steps.now c.read_and_tested.new.steps c.in-Ok.ensures.content c.in-Ok.ensures.ok (c.in-Err-read_and_tested.ensures.err (g.S.Shelf.faults c.args.shelf.now) c.in-Ok.ensures.counts)

-- the specification is refused
pub returns-in-Err-clause-err : goal.returns-in-Err-clause-err
returns-in-Err-clause-err g c = stopped-at-specification (files (g.S.Shelf.content c.args.shelf.now) (g.S.Shelf.faults c.args.shelf.now) (g.S.Shelf.faults c.specified.new.shelf)) c.args.file.now c.args.cert.now _ _ c.args.steps.now c.args.steps.now c.in-Err.ensures.err (omega arith)
