use Rattle.call_stages.specs.declared.status.Status.{Status}
use Rattle.rank_commands.specs.RankStages.{Rankable, Counted}
use Rattle.rank_commands.specs.CountCommand.{CountsPrinted}
use Rattle.rank_commands.proofs.Staging.{handed_on, ended_at_tables, counts_go_on}
use Rattle.rank_commands.proofs.count.counted.Goals as goal

-- the tables are refused
pub returns-in_err-tables-clause-err : goal.returns-in_err-tables-clause-err
returns-in_err-tables-clause-err c =
    let s = c.args.founded.now in
    let next = CountsPrinted s c.args.n in
    handed_on (Rankable s (Counted s c.args.n next)) c.from_residual.result c.in_err-tables.field-0.0 c.from_residual.ensures.1 (ended_at_tables s _ _ 0 c.args.n next c.in_err-tables.ensures.err)

-- the counts are printed
pub returns-clause-ok : goal.returns-clause-ok
returns-clause-ok c =
    let s = c.args.founded.now in
    counts_go_on s c.args.n (CountsPrinted s c.args.n) Status.Done _ c.in_ok-tables.ensures.unlabelled c.in_ok-tables.ensures.plain c.in_ok-tables.ensures.fits c.in_ok-counts.ensures
