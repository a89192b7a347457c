use Rattle.std.proofs.Common.{subst}
use Rattle.std.proofs.lemmas.Result.{IfErr-weaker}
use Rattle.call_stages.specs.Reports.{refusal_status, refusal_text}
use Rattle.certificate_commands.specs.CertificateStage.{CertificateJudged}
use Rattle.certificate_commands.proofs.Judging.{judged_after_reading, nothing}
use Rattle.certificate_commands.proofs.stage.certificate_read.Goals as goal

-- what was read is refused
pub returns-in-Ok-clause-err : goal.returns-in-Ok-clause-err
returns-in-Ok-clause-err g c = IfErr-weaker c.certificate_of.result _ _ (λ e judged before below. judged_after_reading (g.S.Shelf.content c.args.shelf.now) before (g.S.Shelf.faults c.read_file.new.shelf) c.args.name.now c.in-Ok.bytes.items nothing (refusal_status e) (refusal_text e) 0 c.in-Ok.ensures.ok (subst (λ read. CertificateJudged nothing read (refusal_status e) (refusal_text e) 0) c.as_slice.ensures.value judged)) c.certificate_of.ensures.err
