use Rattle.std.proofs.Common.{arith}
use Rattle.rounded_map.specs.RoundedMap.{setting}
use Rattle.rounded_map.proofs.EachNode.{bodies_inside}
use Rattle.rounded_map.proofs.Bounding.{on_ok, post_fixed-at, post_fixed-found}
use Rattle.rounded_map.proofs.upper.is_post_fixed.Goals as goal

pub test_entries-requires-clause-bodies : goal.test_entries-requires-clause-bodies
test_entries-requires-clause-bodies g c = bodies_inside c.args.system.now c.known.ensures.sound _ _ c.bodies.ensures.bodies (omega arith)

pub returns-clause-bounds : goal.returns-clause-bounds
returns-clause-bounds g c =
    let s = c.args.system.now in
    on_ok c.test_entries.result c.test_entries.ensures.ok
    (λ h. post_fixed-at s c.args.x.num c.args.x.den g.row.F c.args.classes.now c.known.ensures.sound c.args.x.den_in_limits.0
    (post_fixed-found (setting s c.args.x.num c.args.x.den g.row.F) c.args.classes.now c.fill_values.new.values _ c.fill_values.ensures.values c.bodies.ensures.bodies h))
