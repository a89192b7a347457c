use Rattle.std.proofs.lemmas.Result.{IfOk-weaker, IfErr-weaker}
use Rattle.call_stages.specs.Reports.{refusal_status, refusal_text}
use Rattle.call_stages.specs.declared.status.Status.{Status}
use Rattle.rank_commands.specs.RankStages.{Rankable, Counted}
use Rattle.rank_commands.specs.UnrankCommand.{ObjectOfRank}
use Rattle.rank_commands.proofs.Staging.{handed_on, ended_at_tables, counts_go_on}
use Rattle.rank_commands.proofs.unrank.unranked.Goals as goal

-- the tables are refused
pub returns-in_err-tables-clause-err : goal.returns-in_err-tables-clause-err
returns-in_err-tables-clause-err c =
    let s = c.args.founded.now in
    let next = ObjectOfRank s c.args.n c.args.number in
    handed_on (Rankable s (Counted s c.args.n next)) c.from_residual.result c.in_err-tables.field-0.0 c.from_residual.ensures.1 (ended_at_tables s _ _ 0 c.args.n next c.in_err-tables.ensures.err)

-- the object of the rank is printed
pub returns-clause-ok : goal.returns-clause-ok
returns-clause-ok c =
    let s = c.args.founded.now in
    IfOk-weaker c.object_of_rank.result _ _ (λ page p. counts_go_on s c.args.n (ObjectOfRank s c.args.n c.args.number) Status.Done page.items c.in_ok-tables.ensures.unlabelled c.in_ok-tables.ensures.plain c.in_ok-tables.ensures.fits p) c.object_of_rank.ensures.ok

-- or the rank is refused
pub returns-clause-err : goal.returns-clause-err
returns-clause-err c =
    let s = c.args.founded.now in
    IfErr-weaker c.object_of_rank.result _ _ (λ e p. counts_go_on s c.args.n (ObjectOfRank s c.args.n c.args.number) (refusal_status e) (refusal_text e) c.in_ok-tables.ensures.unlabelled c.in_ok-tables.ensures.plain c.in_ok-tables.ensures.fits p) c.object_of_rank.ensures.err
