use Rattle.std.proofs.Common.{arith, map, ap, ◌∙◌}
use Rattle.class_system.specs.Views.{number}
use Rattle.rounded_map.specs.RoundedMap.{setting, at_each, lesser, value_at, values_up}
use Rattle.rounded_map.proofs.Bounding.{sweep-above-at}
use Rattle.rounded_map.proofs.EachNode.{bodies_inside}
use Rattle.rounded_map.proofs.upper.sweep_hi.Goals as goal

pub lower_entries-requires-clause-bodies : goal.lower_entries-requires-clause-bodies
lower_entries-requires-clause-bodies g c = bodies_inside c.args.system.now c.known.ensures.sound _ _ c.bodies.ensures.bodies (omega arith)

pub returns-clause-bounds : goal.returns-clause-bounds
returns-clause-bounds g c = λ entries.
    let old = c.args.classes.now in
    sweep-above-at c.args.system.now c.args.x.num c.args.x.den g.row.F old c.lower_entries.new.classes c.known.ensures.sound c.args.x.den_in_limits.0 c.requires.one_per_class
    (c.lower_entries.ensures.lowered
    ∙ ap (λ vs. at_each lesser old (map (value_at vs) (map number c.bodies.result.now))) c.fill_values.ensures.values
    ∙ ap (λ bs. at_each lesser old (map (value_at (values_up (setting c.args.system.now c.args.x.num c.args.x.den g.row.F) old)) bs)) c.bodies.ensures.bodies)
    entries
