use Rattle.std.proofs.Common.{◌∙◌, arith}
use Rattle.call_stages.specs.declared.status.Status.{Status}
use Rattle.call_stages.proofs.Endings.{said_written, not_said}
use Rattle.certificate_commands.specs.MigrateCommand.{migrated_text}
use Rattle.certificate_commands.proofs.migrate.migrated.Goals as goal

-- the text is written
pub returns-in-Ok-clause-ends : goal.returns-in-Ok-clause-ends
returns-in-Ok-clause-ends g c = said_written Status.Done (migrated_text c.args.founded.now c.args.certificate) c.as_slice.result.now 0 _ _ _ _ 0 0 _ c.written.ensures.ends (c.as_slice.ensures.value ∙ c.in-Ok.ensures) (omega arith)

-- memory ran out
pub returns-in-Err-clause-ends : goal.returns-in-Err-clause-ends
returns-in-Err-clause-ends g c = not_said Status.Done (migrated_text c.args.founded.now c.args.certificate) 0 _ _ _ 0 0 (omega arith)
