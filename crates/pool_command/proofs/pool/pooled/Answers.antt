use Rattle.newton_upper.specs.BaseRule.{most_ticks}
use Rattle.rounded_map.specs.RoundedMap.{setting}
use Rattle.size_window.specs.Drawing.{limits_of}
use Rattle.call_stages.specs.Stages.{files, Based}
use Rattle.call_stages.proofs.BaseSearch.{ended_by_search, ends_from_base}
use Rattle.call_stages.proofs.Endings.{written_on}
use Rattle.pool_command.specs.PoolCommand.{PooledOver}
use Rattle.pool_command.proofs.pool.pooled.Goals as goal

-- the schedule is read, and the drawings are drawn over the base
pub returns-in-Ok-clause-ends : goal.returns-in-Ok-clause-ends
returns-in-Ok-clause-ends g c = λ before below.
    let t = setting c.args.founded.now c.args.x.num c.args.x.den g.row.F in
    ends_from_base t (PooledOver (files (g.S.Shelf.content c.args.shelf.now) before (g.S.Shelf.faults c.pooled_over.new.shelf)) t (limits_of c.args.limits) c.args.schedule.now c.args.tapes.now) c.in-Ok.base _ _ _ _ _ _ _ _ c.in-Ok.ensures.base c.in-Ok.ensures.ticks (c.pooled_over.ensures.ends before below)

-- there is no base
pub returns-in-Err-clause-ends : goal.returns-in-Err-clause-ends
returns-in-Err-clause-ends g c = λ before below.
    let t = setting c.args.founded.now c.args.x.num c.args.x.den g.row.F in
    let next = PooledOver (files (g.S.Shelf.content c.args.shelf.now) before (g.S.Shelf.faults c.args.shelf.now)) t (limits_of c.args.limits) c.args.schedule.now c.args.tapes.now in
    written_on (Based t next) _ _ _ _ _ _ _ _ _ (most_ticks t) c.refused.ensures.ends (ended_by_search t next _ _ (most_ticks t) c.in-Err.ensures.err) c.in-Err.ensures.ticks
