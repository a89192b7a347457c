use Rattle.std.proofs.Common.{subst, ap, ◌∙◌}
use Rattle.bz_model.specs.Spec.{Spec}
use Rattle.newton_upper.specs.BaseRule.{TellsNoUpper}
use Rattle.rounded_map.specs.RoundedMap.{setting}
use Rattle.call_stages.specs.Outcomes.{Says}
use Rattle.call_stages.specs.Refusals.{no_upper_text}
use Rattle.call_stages.specs.declared.status.Status.{Status}
use Rattle.call_stages.proofs.BaseSearch.{no_base}
use Rattle.call_stages.proofs.stages.based.Goals as goal

-- there is no base, and the proposals are listed
pub returns-in_ok-report-in-Err-NoUpper-clause-err : goal.returns-in_ok-report-in-Err-NoUpper-clause-err
returns-in_ok-report-in-Err-NoUpper-clause-err g c =
    let t = setting c.args.founded.now c.args.x.num c.args.x.den g.row.F in
    let report = c.in_ok-report-in-Err-NoUpper.report in
    no_base t c.in-Err-NoUpper.proposals report.status report.text.items (subst (TellsNoUpper t) c.in-Err-NoUpper.field-0-is c.in-Err-NoUpper.ensures.fault)
    (subst (λ ps. Says Status.NoUpper (no_upper_text c.args.founded.now g.row.F ps) 0 report.status report.text.items 0) c.items.ensures.items
    (subst (λ (s : Spec). Says Status.NoUpper (no_upper_text s g.row.F c.items.result.now) 0 report.status report.text.items 0) c.system.ensures.system c.in_ok-report-in-Err-NoUpper.ensures))
