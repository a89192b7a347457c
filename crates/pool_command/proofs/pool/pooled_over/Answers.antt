use Rattle.std.proofs.Common.{arith}
use Rattle.rounded_map.specs.RoundedMap.{setting}
use Rattle.size_window.specs.Drawing.{limits_of}
use Rattle.call_stages.specs.Stages.{files}
use Rattle.pool_command.specs.PoolCommand.{pool_of, PoolDrawn}
use Rattle.pool_command.proofs.Carrying.{read-on, read-ended, drawn-earlier}
use Rattle.pool_command.proofs.pool.pooled_over.Goals as goal

-- the drawings take turns by it
pub returns-in-Ok-clause-ends : goal.returns-in-Ok-clause-ends
returns-in-Ok-clause-ends g c = λ before below.
    let t = setting c.args.founded.now c.args.x.num c.args.x.den g.row.F in
    let p = pool_of t c.args.base (limits_of c.args.limits) in
    let counts = c.read_file.ensures.counts in
    read-on (g.S.Shelf.content c.args.shelf.now) before (g.S.Shelf.faults c.drawn.new.shelf) c.args.schedule.now 1048576 (PoolDrawn p (files (g.S.Shelf.content c.args.shelf.now) before (g.S.Shelf.faults c.drawn.new.shelf)) c.args.tapes.now) c.in-Ok.bytes.items _ _ _ _ _ _ _ c.in-Ok.ensures.ok
    (drawn-earlier p (g.S.Shelf.content c.args.shelf.now) (g.S.Shelf.content c.read_file.new.shelf) before (g.S.Shelf.faults c.drawn.new.shelf) c.args.tapes.now c.in-Ok.bytes.items c.as_slice-bytes.result.now _ _ _ _ _ _ _ c.in-Ok.ensures.content c.as_slice-bytes.ensures.value
    (c.drawn.ensures.ends before (λ other. let one = below other in let two = counts other in omega (arith, one, two))))

-- it isn't read
pub returns-in-Err-clause-ends : goal.returns-in-Err-clause-ends
returns-in-Err-clause-ends g c = λ before below.
    let t = setting c.args.founded.now c.args.x.num c.args.x.den g.row.F in
    let p = pool_of t c.args.base (limits_of c.args.limits) in
    read-ended (g.S.Shelf.content c.args.shelf.now) before (g.S.Shelf.faults c.args.shelf.now) (g.S.Shelf.faults c.read_file.new.shelf) c.args.schedule.now 1048576 (PoolDrawn p (files (g.S.Shelf.content c.args.shelf.now) before (g.S.Shelf.faults c.read_file.new.shelf)) c.args.tapes.now) _ _ _ _ _ _ _ _ (below c.args.schedule.now) c.refused.ensures.ends c.in-Err.ensures.err
