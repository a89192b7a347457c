use Rattle.call_stages.proofs.Staging.{text_refused}
use Rattle.call_stages.proofs.stages.judged.Goals as goal

-- the text is refused, and the line says why
pub returns-in_ok-text_refusal-in-Err-clause-err : goal.returns-in_ok-text_refusal-in-Err-clause-err
returns-in_ok-text_refusal-in-Err-clause-err c = text_refused c.args.bytes.now c.in-Err.fault _ _ c.in_ok-text_refusal-in-Err.ensures.memory c.in-Err.ensures.refused c.in_ok-text_refusal-in-Err.ensures.says
