use Rattle.std.proofs.Common.{arith, max, map, ap, ◌∙◌}
use Rattle.std.specs.Prelude.{slice_index}
use Rattle.class_system.specs.Views.{number}
use Rattle.rounded_map.specs.RoundedMap.{setting, at_each, values_down}
use Rattle.rounded_map.proofs.Bounding.{sweep-below-at}
use Rattle.rounded_map.proofs.EachNode.{bodies_inside}
use Rattle.rounded_map.proofs.lower.sweep_lo.Goals as goal

pub raise_entries-requires-clause-bodies : goal.raise_entries-requires-clause-bodies
raise_entries-requires-clause-bodies g c = bodies_inside c.args.system.now c.known.ensures.sound _ _ c.bodies.ensures.bodies (omega arith)

pub returns-clause-reached : goal.returns-clause-reached
returns-clause-reached g c = λ entries.
    let old = c.args.classes.now in
    sweep-below-at c.args.system.now c.args.x.num c.args.x.den g.row.F old c.raise_entries.new.classes c.known.ensures.sound c.args.x.den_in_limits.0 c.requires.one_per_class
    (c.raise_entries.ensures.raised
    ∙ ap (λ vs. at_each max old (map (slice_index vs) (map number c.bodies.result.now))) c.eval_lo.ensures.values
    ∙ ap (λ bs. at_each max old (map (slice_index (values_down (setting c.args.system.now c.args.x.num c.args.x.den g.row.F) old)) bs)) c.bodies.ensures.bodies)
    entries
