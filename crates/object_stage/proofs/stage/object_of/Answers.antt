use Rattle.std.proofs.Common.{arith}
use Rattle.object_stage.proofs.Judging.{object_refused}
use Rattle.object_stage.proofs.stage.object_of.Goals as goal

-- the text is refused, and the line says why
pub returns-in_ok-object_refusal-in-Err-clause-err :
    goal.returns-in_ok-object_refusal-in-Err-clause-err
returns-in_ok-object_refusal-in-Err-clause-err c =
    let few = c.if-bytes-gt-MOST.false in
    object_refused c.args.founded.now c.args.bytes.now c.text_in-text.result.now c.in-Err.fault _ _ c.text_in-text.ensures.text (omega (arith, few)) c.in_ok-object_refusal-in-Err.ensures.memory c.in-Err.ensures.fault c.in_ok-object_refusal-in-Err.ensures.says
