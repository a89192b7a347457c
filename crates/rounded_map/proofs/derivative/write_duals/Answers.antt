use Rattle.std.proofs.Common.{◌≡◌, length, arith, map, ap, sym, ◌∙◌}
use Rattle.std.proofs.lemmas.List.{length-map}
use Rattle.class_system.specs.Views.{number}
use Rattle.rounded_map.specs.RoundedMap.{amount}
use Rattle.rounded_map.specs.Derivative.{dual_at}
use Rattle.rounded_map.proofs.PartsListed.{part-in_range}
use Rattle.rounded_map.proofs.Entries.{body-at, swept-more, swept-all}
use Rattle.rounded_map.proofs.Replaced.{replaced, all-replaced}
use Rattle.rounded_map.proofs.derivative.write_duals.Goals as goal

pub bounds-derivatives-bodies : goal.bounds-derivatives-bodies
bounds-derivatives-bodies c = part-in_range c.args.bodies.now _ c.loop-c.c _ (omega arith) c.requires.bodies

pub loop-c-preserved : goal.loop-c-preserved
loop-c-preserved c =
    swept-more replaced c.loop-c.dual (map (dual_at c.args.derivatives.now) (map number c.args.bodies.now)) c.loop-c.c _ _ _ (omega arith) (body-at (dual_at c.args.derivatives.now) c.args.bodies.now c.loop-c.c _ (omega arith)) (c.number_of.ensures ∙ ap amount c.add_hi.ensures) c.loop-c.invariant

pub returns : goal.returns
returns c =
    let us = map (dual_at c.args.derivatives.now) (map number c.args.bodies.now) in
    let same : length c.args.dual.now ≡ length us = c.requires.lengths ∙ sym (length-map c.args.bodies.now number) ∙ sym (length-map (map number c.args.bodies.now) (dual_at c.args.derivatives.now)) in
    record { written = swept-all replaced c.loop-c.dual us c.loop-c.c _ (omega arith) c.loop-c.invariant ∙ all-replaced c.args.dual.now us same }
