use Rattle.rounded_map.specs.RoundedMap.{setting}
use Rattle.size_window.specs.Drawing.{limits_of}
use Rattle.call_stages.specs.Stages.{files}
use Rattle.pool_command.specs.PoolCommand.{pool_of, PoolDrawn}
use Rattle.pool_command.proofs.Carrying.{made-written, nothing-made}
use Rattle.pool_command.proofs.drawing.drawn.Goals as goal

-- the text is written
pub returns-in-Ok-clause-ends : goal.returns-in-Ok-clause-ends
returns-in-Ok-clause-ends g c = λ before below.
    let t = setting c.args.founded.now c.args.x.num c.args.x.den g.row.F in
    made-written (PoolDrawn (pool_of t c.args.base (limits_of c.args.limits)) (files (g.S.Shelf.content c.args.shelf.now) before (g.S.Shelf.faults c.reported.new.shelf)) c.args.names.now c.args.schedule.now) _ _ _ _ _ _ _ c.in-Ok.report.status c.in-Ok.report.text.items c.as_slice.result.now c.as_slice.ensures.value (c.in-Ok.ensures.ok before below) c.written.ensures.ends

-- memory ran out
pub returns-in-Err-clause-ends : goal.returns-in-Err-clause-ends
returns-in-Err-clause-ends g c = λ before below.
    let t = setting c.args.founded.now c.args.x.num c.args.x.den g.row.F in
    nothing-made (PoolDrawn (pool_of t c.args.base (limits_of c.args.limits)) (files (g.S.Shelf.content c.args.shelf.now) before (g.S.Shelf.faults c.reported.new.shelf)) c.args.names.now c.args.schedule.now) _ _ _ _ _ (c.in-Err.ensures.err before below)
