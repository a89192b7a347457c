use Rattle.newton_upper.specs.BaseRule.{most_ticks}
use Rattle.rounded_map.specs.RoundedMap.{setting}
use Rattle.call_stages.specs.Stages.{Based}
use Rattle.call_stages.proofs.BaseSearch.{ended_by_search, ends_from_base}
use Rattle.call_stages.proofs.Endings.{written_on}
use Rattle.chance_command.specs.ChanceCommand.{Weighed}
use Rattle.chance_command.proofs.chance.weighed.Goals as goal

-- the object is weighed over the base
pub returns-in-Ok-clause-ends : goal.returns-in-Ok-clause-ends
returns-in-Ok-clause-ends g c =
    let t = setting c.args.founded.now c.args.x.num c.args.x.den g.row.F in
    ends_from_base t (Weighed t c.args.shape.now.items) c.in-Ok.base _ _ _ _ _ _ _ _ c.in-Ok.ensures.base c.in-Ok.ensures.ticks c.weighed_over.ensures.ends

-- there is no base
pub returns-in-Err-clause-ends : goal.returns-in-Err-clause-ends
returns-in-Err-clause-ends g c =
    let t = setting c.args.founded.now c.args.x.num c.args.x.den g.row.F in
    let next = Weighed t c.args.shape.now.items in
    written_on (Based t next) _ _ _ _ _ _ _ _ _ (most_ticks t) c.refused.ensures.ends (ended_by_search t next _ _ (most_ticks t) c.in-Err.ensures.err) c.in-Err.ensures.ticks
