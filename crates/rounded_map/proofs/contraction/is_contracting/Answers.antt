use Rattle.std.proofs.Common.{map, length, Some, ap, ◌∙◌}
use Rattle.rounded_map.specs.RoundedMap.{setting}
use Rattle.rounded_map.proofs.EachNode.{bodies_inside}
use Rattle.rounded_map.proofs.SlopesLess.{length-derivatives, contracting-found, first-found}
use Rattle.rounded_map.proofs.contraction.is_contracting.Goals as goal

pub test_slopes-requires-clause-bodies : goal.test_slopes-requires-clause-bodies
test_slopes-requires-clause-bodies g c = bodies_inside c.args.system.now c.known.ensures.sound _ _ c.bodies.ensures.bodies
    (ap length (c.fill_derivatives.ensures.derivatives c.args._x.num c.args._x.den) ∙ length-derivatives (setting c.args.system.now c.args._x.num c.args._x.den g.row.F) c.known.ensures.sound (map Some c.args.values.now) c.args.weights.now)

pub returns-clause-ok : goal.returns-clause-ok
returns-clause-ok g c =
    contracting-found (setting c.args.system.now c.args._x.num c.args._x.den g.row.F) (map Some c.args.values.now) c.args.weights.now c.fill_derivatives.new.derivatives _ c.test_slopes.result (c.fill_derivatives.ensures.derivatives c.args._x.num c.args._x.den) c.bodies.ensures.bodies c.test_slopes.ensures.ok

pub returns-clause-fault : goal.returns-clause-fault
returns-clause-fault g c =
    first-found (setting c.args.system.now c.args._x.num c.args._x.den g.row.F) (map Some c.args.values.now) c.args.weights.now c.fill_derivatives.new.derivatives _ c.test_slopes.result (c.fill_derivatives.ensures.derivatives c.args._x.num c.args._x.den) c.bodies.ensures.bodies c.test_slopes.ensures.fault
