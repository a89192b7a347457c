use Rattle.command_words.specs.Fractions.{fraction_bits}
use Rattle.call_stages.specs.Stages.{files}
use Rattle.chance_command.proofs.Weighing.{carried-on, ended-there, exact}
use Rattle.chance_command.proofs.chance.chance.Goals as goal

-- the object is read and weighed
pub returns-in-Ok-clause-ends : goal.returns-in-Ok-clause-ends
returns-in-Ok-clause-ends g c = carried-on (g.S.Shelf.content c.args.shelf.now) (g.S.Shelf.content c.specified.new.shelf) (g.S.Shelf.faults c.args.shelf.now) (g.S.Shelf.faults c.read_and_weighed.new.shelf) c.args.file.now c.args.x c.args.object.now (fraction_bits c.args.fraction) c.in-Ok.founded _ _ _ _ _ _ _ c.in-Ok.ensures.content c.in-Ok.ensures.ok (c.read_and_weighed.ensures.ends (g.S.Shelf.faults c.args.shelf.now) c.in-Ok.ensures.counts)

pub returns-in-Ok-clause-exact : goal.returns-in-Ok-clause-exact
returns-in-Ok-clause-exact g c =
    let f = files (g.S.Shelf.content c.args.shelf.now) (g.S.Shelf.faults c.args.shelf.now) (g.S.Shelf.faults c.read_and_weighed.new.shelf) in
    exact f c.args.file.now c.args.x c.args.object.now (fraction_bits c.args.fraction) _ _ _ _ _ _ _ (carried-on (g.S.Shelf.content c.args.shelf.now) (g.S.Shelf.content c.specified.new.shelf) (g.S.Shelf.faults c.args.shelf.now) (g.S.Shelf.faults c.read_and_weighed.new.shelf) c.args.file.now c.args.x c.args.object.now (fraction_bits c.args.fraction) c.in-Ok.founded _ _ _ _ _ _ _ c.in-Ok.ensures.content c.in-Ok.ensures.ok (c.read_and_weighed.ensures.ends (g.S.Shelf.faults c.args.shelf.now) c.in-Ok.ensures.counts))

-- the specification is refused
pub returns-in-Err-clause-ends : goal.returns-in-Err-clause-ends
returns-in-Err-clause-ends g c =
    let f = files (g.S.Shelf.content c.args.shelf.now) (g.S.Shelf.faults c.args.shelf.now) (g.S.Shelf.faults c.specified.new.shelf) in
    ended-there f c.args.file.now c.args.x c.args.object.now (fraction_bits c.args.fraction) _ _ _ _ _ _ _ _ c.refused.ensures.ends c.in-Err.ensures.err

pub returns-in-Err-clause-exact : goal.returns-in-Err-clause-exact
returns-in-Err-clause-exact g c =
    let f = files (g.S.Shelf.content c.args.shelf.now) (g.S.Shelf.faults c.args.shelf.now) (g.S.Shelf.faults c.specified.new.shelf) in
    exact f c.args.file.now c.args.x c.args.object.now (fraction_bits c.args.fraction) _ _ _ _ c.args.steps.now c.args.steps.now _ (ended-there f c.args.file.now c.args.x c.args.object.now (fraction_bits c.args.fraction) _ _ _ _ c.args.steps.now _ _ _ c.refused.ensures.ends c.in-Err.ensures.err)
