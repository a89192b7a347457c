use Rattle.std.proofs.Common.{◌∙◌, arith}
use Rattle.call_stages.specs.declared.status.Status.{Status}
use Rattle.call_stages.proofs.Endings.{said_written, not_said}
use Rattle.certificate_commands.specs.VerifyCommand.{valid_line}
use Rattle.certificate_commands.proofs.verify.counted.Goals as goal

-- the line is written
pub returns-in-Ok-clause-ends : goal.returns-in-Ok-clause-ends
returns-in-Ok-clause-ends g c = said_written Status.Done (valid_line c.args.count) c.as_bytes.result.now 0 _ _ _ _ 0 0 _ c.written.ensures.ends (c.as_bytes.ensures.value ∙ c.in-Ok.ensures) (omega arith)

-- memory ran out
pub returns-in-Err-clause-ends : goal.returns-in-Err-clause-ends
returns-in-Err-clause-ends g c = not_said Status.Done (valid_line c.args.count) 0 _ _ _ 0 0 (omega arith)
