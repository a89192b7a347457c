use Rattle.std.proofs.Common.{arith}
use Rattle.newton_upper.specs.BaseRule.{most_ticks}
use Rattle.rounded_map.specs.RoundedMap.{setting}
use Rattle.boltz.specs.OracleCommand.{Bounded}
use Rattle.call_stages.specs.Stages.{Based}
use Rattle.call_stages.proofs.BaseSearch.{ended_by_search, ends_from_base}
use Rattle.call_stages.proofs.Endings.{written_on}
use Rattle.boltz.proofs.oracle.bounded.Goals as goal

-- the levels over the base are printed
pub returns-in-Ok-clause-ends : goal.returns-in-Ok-clause-ends
returns-in-Ok-clause-ends g c =
    let t = setting c.args.founded.now c.args.x.num c.args.x.den g.row.F in
    ends_from_base t (Bounded t) c.in-Ok.base _ _ _ _ _ _ _ _ c.in-Ok.ensures.base c.in-Ok.ensures.ticks c.leveled.ensures.ends

-- there is no base
pub returns-in-Err-clause-ends : goal.returns-in-Err-clause-ends
returns-in-Err-clause-ends g c =
    let t = setting c.args.founded.now c.args.x.num c.args.x.den g.row.F in
    written_on (Based t (Bounded t)) _ _ _ _ _ _ _ _ _ (most_ticks t) c.refused.ensures.ends (ended_by_search t (Bounded t) _ _ (most_ticks t) c.in-Err.ensures.err) c.in-Err.ensures.ticks
