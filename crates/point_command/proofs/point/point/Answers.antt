use Rattle.call_stages.specs.Stages.{files}
use Rattle.point_command.proofs.Printing.{carried-on, ended-there, exact}
use Rattle.point_command.proofs.point.point.Goals as goal

-- the specification is pointed
pub returns-in-Ok-clause-ends : goal.returns-in-Ok-clause-ends
returns-in-Ok-clause-ends g c =
    let f = files (g.S.Shelf.content c.args.shelf.now) (g.S.Shelf.faults c.args.shelf.now) (g.S.Shelf.faults c.specified.new.shelf) in
    λ ticks. carried-on f c.args.file.now c.in-Ok.founded _ _ _ _ ticks _ c.in-Ok.ensures.ok (c.printed.ensures.ends ticks)

pub returns-in-Ok-clause-exact : goal.returns-in-Ok-clause-exact
returns-in-Ok-clause-exact g c =
    let f = files (g.S.Shelf.content c.args.shelf.now) (g.S.Shelf.faults c.args.shelf.now) (g.S.Shelf.faults c.specified.new.shelf) in
    λ status text ticks. exact f c.args.file.now _ _ _ _ ticks _ (carried-on f c.args.file.now c.in-Ok.founded _ _ _ _ ticks _ c.in-Ok.ensures.ok (c.printed.ensures.ends ticks)) status text ticks

-- it is refused
pub returns-in-Err-clause-ends : goal.returns-in-Err-clause-ends
returns-in-Err-clause-ends g c =
    let f = files (g.S.Shelf.content c.args.shelf.now) (g.S.Shelf.faults c.args.shelf.now) (g.S.Shelf.faults c.specified.new.shelf) in
    λ ticks. ended-there f c.args.file.now _ _ _ _ ticks _ _ _ c.refused.ensures.ends c.in-Err.ensures.err

pub returns-in-Err-clause-exact : goal.returns-in-Err-clause-exact
returns-in-Err-clause-exact g c =
    let f = files (g.S.Shelf.content c.args.shelf.now) (g.S.Shelf.faults c.args.shelf.now) (g.S.Shelf.faults c.specified.new.shelf) in
    λ status text ticks. exact f c.args.file.now _ _ _ _ ticks _ (ended-there f c.args.file.now _ _ _ _ ticks _ _ _ c.refused.ensures.ends c.in-Err.ensures.err) status text ticks
