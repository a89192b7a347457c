use Rattle.rounded_map.specs.RoundedMap.{setting}
use Rattle.chance_command.proofs.Weighing.{bounds-over}
use Rattle.chance_command.proofs.chance.bounds_over.Goals as goal

-- the bounds are those over the bounds of level 6
pub returns-clause-bounds : goal.returns-clause-bounds
returns-clause-bounds g c =
    let t = setting c.args.founded.now c.args.x.num c.args.x.den g.row.F in
    bounds-over t c.args.base c.args.shape.now.items c.in_ok-root.root c.chance.result c.requires.is_of c.in_ok-root.ensures.bounds c.in_ok-root.ensures.encloses c.chance.ensures.bounds c.chance.ensures.enclosed
