use Rattle.std.proofs.Common.{◌∙◌}
use Rattle.oracle_memo.specs.Levels.{cost_at}
use Rattle.rounded_map.specs.RoundedMap.{setting}
use Rattle.boltz.specs.OracleCommand.{bounded_text}
use Rattle.call_stages.specs.declared.status.Status.{Status}
use Rattle.call_stages.proofs.Endings.{said_written, not_said}
use Rattle.boltz.proofs.oracle.leveled.Goals as goal

-- the text is written
pub returns-in-Ok-clause-ends : goal.returns-in-Ok-clause-ends
returns-in-Ok-clause-ends g c =
    let t = setting c.args.founded.now c.args.x.num c.args.x.den g.row.F in
    said_written Status.Done (bounded_text t c.args.base) c.as_slice.result.now (cost_at 6) _ _ _ _ _ _ _ c.written.ensures.ends (c.as_slice.ensures.value ∙ c.in-Ok.ensures.text) c.in-Ok.ensures.ticks

-- memory ran out
pub returns-in-Err-clause-ends : goal.returns-in-Err-clause-ends
returns-in-Err-clause-ends g c =
    let t = setting c.args.founded.now c.args.x.num c.args.x.den g.row.F in
    not_said Status.Done (bounded_text t c.args.base) (cost_at 6) _ _ _ _ _ c.in-Err.ensures.ticks
