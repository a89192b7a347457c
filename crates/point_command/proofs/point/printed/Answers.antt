use Rattle.std.proofs.Common.{◌∙◌}
use Rattle.point_command.proofs.Printing.{form-printed, form-refused}
use Rattle.point_command.proofs.point.printed.Goals as goal

-- the pointed specification is written
pub returns-in-Ok-clause-ends : goal.returns-in-Ok-clause-ends
returns-in-Ok-clause-ends g c = λ ticks. form-printed c.args.founded.now c.as_slice.result.now _ _ _ _ ticks _ c.in-Ok.ensures.can (c.as_slice.ensures.value ∙ c.in-Ok.ensures.text) c.written.ensures.ends

-- there is none, or memory ran out
pub returns-in-Err-clause-ends : goal.returns-in-Err-clause-ends
returns-in-Err-clause-ends g c = λ ticks. form-refused c.args.founded.now _ _ _ _ ticks _ _ _ c.refused.ensures.ends c.in-Err.ensures.err
