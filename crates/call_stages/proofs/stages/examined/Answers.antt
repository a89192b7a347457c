use Rattle.std.proofs.Common.{subst}
use Rattle.bz_model.specs.Spec.{Spec}
use Rattle.call_stages.specs.Outcomes.{Says}
use Rattle.call_stages.specs.Refusals.{cause_line}
use Rattle.call_stages.specs.declared.status.Status.{Status}
use Rattle.call_stages.proofs.Staging.{cause_refused}
use Rattle.call_stages.proofs.stages.examined.Goals as goal

-- the specification isn't well founded, and the line says why
pub returns-in_ok-cause_refusal-in-Err-clause-err : goal.returns-in_ok-cause_refusal-in-Err-clause-err
returns-in_ok-cause_refusal-in-Err-clause-err c =
    let report = c.in_ok-cause_refusal-in-Err.field-0 in
    cause_refused c.args.bytes.now c.args.system c.in-Err.field-0.cause report.status report.text.items c.requires.accepted c.in_ok-cause_refusal-in-Err.ensures.memory c.in-Err.ensures.cause
    (subst (λ (s : Spec). Says Status.SpecRefused (cause_line s c.in-Err.field-0.cause) 0 report.status report.text.items 0) c.in-Err.ensures.unchanged c.in_ok-cause_refusal-in-Err.ensures.says)
