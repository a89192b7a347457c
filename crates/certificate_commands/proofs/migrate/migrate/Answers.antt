use Rattle.std.proofs.Common.{refl, ap, length}
use Rattle.certificate_commands.specs.MigrateCommand.{migrated_text, WrittenIn2}
use Rattle.certificate_commands.proofs.Testing.{valid-ends, refusal-ends}
use Rattle.certificate_commands.proofs.migrate.migrate.Goals as goal

-- the certificate is valid
pub returns-in-Ok-clause-ends : goal.returns-in-Ok-clause-ends
returns-in-Ok-clause-ends g c = valid-ends (g.S.Shelf.content c.args.shelf.now) (g.S.Shelf.faults c.args.shelf.now) (g.S.Shelf.faults c.verified.new.shelf) c.args.file.now c.args.cert.now migrated_text c.in-Ok.founded c.in-Ok.certificate _ _ _ _ _ c.args.steps.now c.verified.new.steps _ c.in-Ok.ensures.ok refl c.in-Ok.ensures.ticks c.migrated.ensures.ends

-- it is refused, or not valid, or there is no specification
pub returns-in-Err-clause-ends : goal.returns-in-Err-clause-ends
returns-in-Err-clause-ends g c = refusal-ends (g.S.Shelf.content c.args.shelf.now) (g.S.Shelf.faults c.args.shelf.now) (g.S.Shelf.faults c.verified.new.shelf) c.args.file.now c.args.cert.now WrittenIn2 _ _ _ _ c.args.steps.now c.verified.new.steps _ c.in-Err.refusal c.in-Err.ensures.err c.refused.ensures.ends
