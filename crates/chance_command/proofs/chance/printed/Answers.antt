use Rattle.std.proofs.Common.{◌∙◌, arith}
use Rattle.call_stages.specs.declared.status.Status.{Status}
use Rattle.call_stages.proofs.Endings.{said_written, not_said}
use Rattle.chance_command.specs.ChanceCommand.{chance_text}
use Rattle.chance_command.proofs.chance.printed.Goals as goal

-- its lines are written
pub returns-in-Ok-clause-ends : goal.returns-in-Ok-clause-ends
returns-in-Ok-clause-ends g c = said_written Status.Done (chance_text c.args.bounds) c.as_bytes.result.now 0 _ _ _ _ 0 0 _ c.written.ensures.ends (c.as_bytes.ensures.value ∙ c.in-Ok.ensures) (omega arith)

-- memory ran out
pub returns-in-Err-clause-ends : goal.returns-in-Err-clause-ends
returns-in-Err-clause-ends g c = not_said Status.Done (chance_text c.args.bounds) 0 _ _ _ 0 0 (omega arith)
