use Rattle.command_words.specs.Fractions.{fraction_bits}
use Rattle.call_stages.specs.Stages.{files}
use Rattle.pool_command.proofs.Carrying.{carried-on, ended-there}
use Rattle.pool_command.proofs.OnePool.{exact}
use Rattle.pool_command.proofs.pool.pool.Goals as goal

-- the specification goes on
pub returns-in-Ok-clause-ends : goal.returns-in-Ok-clause-ends
returns-in-Ok-clause-ends g c = carried-on (g.S.Shelf.content c.args.shelf.now) (g.S.Shelf.faults c.args.shelf.now) (g.S.Shelf.faults c.pooled_at.new.shelf) c.args.file.now c.args.x c.args.schedule.now c.args.tapes.now c.args.limits (fraction_bits c.args.fraction) (g.S.Shelf.content c.specified.new.shelf) c.in-Ok.founded _ _ _ _ _ _ _ c.in-Ok.ensures.content c.in-Ok.ensures.ok (c.pooled_at.ensures.ends (g.S.Shelf.faults c.args.shelf.now) c.in-Ok.ensures.counts)

pub returns-in-Ok-clause-exact : goal.returns-in-Ok-clause-exact
returns-in-Ok-clause-exact g c =
    let f = files (g.S.Shelf.content c.args.shelf.now) (g.S.Shelf.faults c.args.shelf.now) (g.S.Shelf.faults c.pooled_at.new.shelf) in
    exact f c.args.file.now c.args.x c.args.schedule.now c.args.tapes.now c.args.limits (fraction_bits c.args.fraction) c.requires.number.0 _ _ _ _ _ _ _ (carried-on (g.S.Shelf.content c.args.shelf.now) (g.S.Shelf.faults c.args.shelf.now) (g.S.Shelf.faults c.pooled_at.new.shelf) c.args.file.now c.args.x c.args.schedule.now c.args.tapes.now c.args.limits (fraction_bits c.args.fraction) (g.S.Shelf.content c.specified.new.shelf) c.in-Ok.founded _ _ _ _ _ _ _ c.in-Ok.ensures.content c.in-Ok.ensures.ok (c.pooled_at.ensures.ends (g.S.Shelf.faults c.args.shelf.now) c.in-Ok.ensures.counts))

-- it is refused
pub returns-in-Err-clause-ends : goal.returns-in-Err-clause-ends
returns-in-Err-clause-ends g c = ended-there (g.S.Shelf.content c.args.shelf.now) (g.S.Shelf.faults c.args.shelf.now) (g.S.Shelf.faults c.specified.new.shelf) c.args.file.now c.args.x c.args.schedule.now c.args.tapes.now c.args.limits (fraction_bits c.args.fraction) _ _ _ _ _ _ _ _ c.refused.ensures.ends c.in-Err.ensures.err

pub returns-in-Err-clause-exact : goal.returns-in-Err-clause-exact
returns-in-Err-clause-exact g c =
    let f = files (g.S.Shelf.content c.args.shelf.now) (g.S.Shelf.faults c.args.shelf.now) (g.S.Shelf.faults c.specified.new.shelf) in
    exact f c.args.file.now c.args.x c.args.schedule.now c.args.tapes.now c.args.limits (fraction_bits c.args.fraction) c.requires.number.0 _ _ _ _ c.args.steps.now c.args.steps.now _ (ended-there (g.S.Shelf.content c.args.shelf.now) (g.S.Shelf.faults c.args.shelf.now) (g.S.Shelf.faults c.specified.new.shelf) c.args.file.now c.args.x c.args.schedule.now c.args.tapes.now c.args.limits (fraction_bits c.args.fraction) _ _ _ _ c.args.steps.now _ _ _ c.refused.ensures.ends c.in-Err.ensures.err)
