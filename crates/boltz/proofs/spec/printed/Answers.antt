use Rattle.std.proofs.Common.{◌∙◌, ap, arith}
use Rattle.boltz.specs.SpecCommand.{spec_text}
use Rattle.call_stages.specs.declared.status.Status.{Status}
use Rattle.call_stages.proofs.Endings.{said_written, not_said}
use Rattle.boltz.proofs.spec.printed.Goals as goal

-- its text is written
pub returns-in-Ok-clause-ends : goal.returns-in-Ok-clause-ends
returns-in-Ok-clause-ends g c = λ ticks. said_written Status.Done (spec_text c.args.founded.now) c.as_slice.result.now 0 _ _ _ _ ticks ticks _ c.written.ensures.ends (c.as_slice.ensures.value ∙ c.in-Ok.ensures ∙ ap spec_text c.system.ensures.system) (omega arith)

-- memory ran out
pub returns-in-Err-clause-ends : goal.returns-in-Err-clause-ends
returns-in-Err-clause-ends g c = λ ticks. not_said Status.Done (spec_text c.args.founded.now) 0 _ _ _ ticks ticks (omega arith)
