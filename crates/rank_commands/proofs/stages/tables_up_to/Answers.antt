use Rattle.rank_commands.proofs.Staging.{tables_refused}
use Rattle.rank_commands.proofs.stages.tables_up_to.Goals as goal

-- the tables are refused
pub returns-in_ok-fault_refusal-in-Err-clause-err :
    goal.returns-in_ok-fault_refusal-in-Err-clause-err
returns-in_ok-fault_refusal-in-Err-clause-err c = tables_refused c.args.founded.now c.args.most c.in-Err.fault _ _ c.in_ok-fault_refusal-in-Err.ensures.memory c.in-Err.ensures.fault c.in_ok-fault_refusal-in-Err.ensures.says
