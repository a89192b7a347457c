use Rattle.rounded_map.specs.RoundedMap.{setting}
use Rattle.chance_command.proofs.Weighing.{printed-bounds, lacks-memory}
use Rattle.chance_command.proofs.chance.weighed_over.Goals as goal

-- the bounds are printed
pub returns-in-Ok-clause-ends : goal.returns-in-Ok-clause-ends
returns-in-Ok-clause-ends g c =
    let t = setting c.args.founded.now c.args.x.num c.args.x.den g.row.F in
    printed-bounds t c.args.shape.now.items c.args.base c.in-Ok.bounds _ _ _ _ _ _ _ c.in-Ok.ensures.bounds c.in-Ok.ensures.ticks c.printed.ensures.ends

-- memory ran out
pub returns-in-Err-clause-ends : goal.returns-in-Err-clause-ends
returns-in-Err-clause-ends g c =
    let t = setting c.args.founded.now c.args.x.num c.args.x.den g.row.F in
    lacks-memory t c.args.shape.now.items c.args.base _ _ _ _ _ c.in-Err.ensures.ticks
