use Rattle.std.proofs.Common.{subst}
use Rattle.std.specs.Prelude.{None}
use Rattle.rank_tables.specs.Tables.{AreCounts}
use Rattle.call_stages.specs.declared.status.Status.{Status}
use Rattle.rank_commands.specs.RankCommand.{ObjectRanked}
use Rattle.rank_commands.proofs.Staging.{handed_on, stopped_at_size, stopped_at_counts, size_goes_on}
use Rattle.rank_commands.proofs.rank.object_ranked.Goals as goal

-- the size is refused
pub returns-in_err-size-clause-err : goal.returns-in_err-size-clause-err
returns-in_err-size-clause-err c = handed_on (ObjectRanked c.args.founded.now c.args.shape.now.items None) c.from_residual.result c.in_err-size.field-0.0 c.from_residual.ensures.1 (stopped_at_size c.args.founded.now c.args.shape.now.items _ _ c.in_err-size.ensures.err)

-- the tables are
pub returns-in_err-tables-clause-err : goal.returns-in_err-tables-clause-err
returns-in_err-tables-clause-err c = handed_on (ObjectRanked c.args.founded.now c.args.shape.now.items None) c.from_residual-in_err-tables.result c.in_err-tables.field-0.0 c.from_residual-in_err-tables.ensures.1 (stopped_at_counts c.args.founded.now c.args.shape.now.items c.in_ok-size.size c.in_ok-size.ensures.size c.in_ok-size.ensures.small _ _ c.requires.unlabelled c.requires.plain c.in_err-tables.ensures.err)

-- the tables reach the object's size
pub rank_of-requires-clause-tables : goal.rank_of-requires-clause-tables
rank_of-requires-clause-tables c = subst (λ n. AreCounts c.args.founded.now n c.in_ok-tables.tables) c.in_ok-size.ensures.size c.in_ok-tables.ensures.counts

-- the rank is printed
pub returns-clause-ok : goal.returns-clause-ok
returns-clause-ok c = size_goes_on c.args.founded.now c.args.shape.now.items c.in_ok-size.size c.in_ok-size.ensures.size c.in_ok-size.ensures.small Status.Done _ c.in_ok-tables.ensures.fits c.in_ok-rank_of.ensures
