use Rattle.std.proofs.Common.{refl, ◌∙◌, arith}
use Rattle.boltz.specs.Answers.{Unworded}
use Rattle.boltz.specs.Answers as answers
use Rattle.boltz.proofs.Calls.{words_lack_memory}
use Rattle.call_stages.proofs.Endings.{written_on}
use Rattle.boltz.proofs.run.without_command.Goals as goal

-- the line is written
pub returns-in-Ok-clause-ends : goal.returns-in-Ok-clause-ends
returns-in-Ok-clause-ends g c = λ ticks. written_on (Unworded c.args.fault) _ _ _ _ ticks ticks _ c.in-Ok.report.status c.as_slice.result.now 0 c.written.ensures.ends (answers.refused c.in-Ok.ensures.memory (record { status_is = c.in-Ok.ensures.says.status_is; text_is = c.as_slice.ensures.value ∙ c.in-Ok.ensures.says.text_is; ticks_are = refl })) (omega arith)

-- memory ran out
pub returns-in-Err-clause-ends : goal.returns-in-Err-clause-ends
returns-in-Err-clause-ends g c = λ ticks. words_lack_memory c.args.fault _ _ _ ticks
