use Rattle.newton_upper.specs.BaseRule.{most_ticks}
use Rattle.rounded_map.specs.RoundedMap.{setting}
use Rattle.call_stages.specs.Stages.{Based}
use Rattle.call_stages.proofs.BaseSearch.{ended_by_search, ends_from_base}
use Rattle.call_stages.proofs.Endings.{written_on}
use Rattle.bulk_command.specs.BulkCommand.{BulkDrawn}
use Rattle.bulk_command.proofs.bulk.run.Goals as goal

-- objects are drawn over the base
pub returns-in-Ok-clause-ends : goal.returns-in-Ok-clause-ends
returns-in-Ok-clause-ends g c =
    let t = setting c.args.founded.now 3 16 g.row.F in
    ends_from_base t (BulkDrawn c.args.n t) c.in-Ok.base _ _ _ _ _ _ _ _ c.in-Ok.ensures.base c.in-Ok.ensures.ticks c.drawn.ensures.ends

-- there is no base
pub returns-in-Err-clause-ends : goal.returns-in-Err-clause-ends
returns-in-Err-clause-ends g c =
    let t = setting c.args.founded.now 3 16 g.row.F in
    written_on (Based t (BulkDrawn c.args.n t)) _ _ _ _ _ _ _ _ _ (most_ticks t) c.refused.ensures.ends (ended_by_search t (BulkDrawn c.args.n t) _ _ (most_ticks t) c.in-Err.ensures.err) c.in-Err.ensures.ticks
