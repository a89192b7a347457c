use Rattle.std.proofs.Common.{subst}
use Rattle.std.proofs.lemmas.Result.{IfErr-weaker}
use Rattle.call_stages.specs.Reports.{refusal_status, refusal_text}
use Rattle.object_stage.specs.ObjectStage.{ObjectJudged}
use Rattle.object_stage.proofs.Judging.{judged_after_reading, nothing}
use Rattle.object_stage.proofs.stage.object_read.Goals as goal

-- what was read is refused
pub returns-in-Ok-clause-err : goal.returns-in-Ok-clause-err
returns-in-Ok-clause-err g c = IfErr-weaker c.object_of.result _ _ (λ e judged before below. judged_after_reading (g.S.Shelf.content c.args.shelf.now) before (g.S.Shelf.faults c.read_file.new.shelf) c.args.founded.now c.args.name.now c.in-Ok.bytes.items nothing (refusal_status e) (refusal_text e) 0 c.in-Ok.ensures.ok (subst (λ read. ObjectJudged c.args.founded.now nothing read (refusal_status e) (refusal_text e) 0) c.as_slice.ensures.value judged)) c.object_of.ensures.err
