use Rattle.rank_commands.proofs.Staging.{form_refused}
use Rattle.rank_commands.proofs.stages.judged_form.Goals as goal

-- labels are refused
pub returns-in_ok-fault_refusal-in-Labelled-clause-err :
    goal.returns-in_ok-fault_refusal-in-Labelled-clause-err
returns-in_ok-fault_refusal-in-Labelled-clause-err c =
    let is = c.in-Labelled.is in
    form_refused c.args.founded.now c.args.fault _ _ (λ e n other. absurd (cc)) c.in_ok-fault_refusal-in-Labelled.ensures.memory c.requires.told c.in_ok-fault_refusal-in-Labelled.ensures.says

-- a range is
pub returns-in_ok-fault_refusal-in-Ranged-clause-err :
    goal.returns-in_ok-fault_refusal-in-Ranged-clause-err
returns-in_ok-fault_refusal-in-Ranged-clause-err c =
    let is = c.in-Ranged.is in
    form_refused c.args.founded.now c.args.fault _ _ (λ e n other. absurd (cc)) c.in_ok-fault_refusal-in-Ranged.ensures.memory c.requires.told c.in_ok-fault_refusal-in-Ranged.ensures.says
