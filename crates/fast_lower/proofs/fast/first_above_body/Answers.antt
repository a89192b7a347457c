use Rattle.std.proofs.Common.{◌≡◌, length, map, arith, sym, ◌∙◌, below_more}
use Rattle.std.specs.Prelude.{slice_index}
use Rattle.std.proofs.lemmas.List.{length-map}
use Rattle.class_system.specs.Views.{number}
use Rattle.rounded_map.proofs.PartsListed.{part-in_range}
use Rattle.fast_lower.proofs.ClassByClass.{body_entry, at_most-each}
use Rattle.fast_lower.proofs.fast.first_above_body.Goals as goal

pub bounds-values-bodies : goal.bounds-values-bodies
bounds-values-bodies c = part-in_range c.args.bodies.now _ c.loop-c.c _ (omega arith) c.requires.bodies

pub returns-then-values-bodies-clause-some : goal.returns-then-values-bodies-clause-some
returns-then-values-bodies-clause-some c =
    let is = body_entry (slice_index c.args.values.now) c.args.bodies.now c.loop-c.c (record { 0 = 0 }) (omega arith) in
    record {
      within = c.loop-c-test.true;
      here = omega (arith, c.if-values-bodies.true);
      before = λ p below above. let most = c.loop-c.invariant p below in omega arith;
    }

pub loop-c-preserved : goal.loop-c-preserved
loop-c-preserved c =
    let is = body_entry (slice_index c.args.values.now) c.args.bodies.now c.loop-c.c (record { 0 = 0 }) (omega arith) in
    below_more _ _ c.loop-c.invariant (omega (arith, c.if-values-bodies.false))

pub returns-clause-none : goal.returns-clause-none
returns-clause-none c =
    let same : length (map (slice_index c.args.values.now) (map number c.args.bodies.now)) ≡ length c.args.low.now = length-map (map number c.args.bodies.now) (slice_index c.args.values.now) ∙ length-map c.args.bodies.now number ∙ sym c.requires.lengths in
    at_most-each c.args.low.now _ same (λ p below. c.loop-c.invariant p (omega arith))
