use Rattle.std.proofs.Common.{◌≡◌, refl, length, map, arith, sym, ◌∙◌, subst, below_more}
use Rattle.std.specs.Prelude.{slice_index}
use Rattle.std.proofs.lemmas.List.{length-map}
use Rattle.class_system.specs.Views.{number}
use Rattle.rounded_map.specs.RoundedMap.{value_at}
use Rattle.rounded_map.specs.Contracting.{IsLess}
use Rattle.rounded_map.proofs.PartsListed.{part-in_range}
use Rattle.rounded_map.proofs.Entries.{body_value}
use Rattle.rounded_map.proofs.SlopesLess.{less-each}
use Rattle.rounded_map.proofs.contraction.test_slopes.Goals as goal

pub bounds-derivatives-bodies : goal.bounds-derivatives-bodies
bounds-derivatives-bodies c = part-in_range c.args.bodies.now _ c.loop-c.c _ (omega arith) c.requires.bodies

pub returns-then-not-is_less-clause-fault : goal.returns-then-not-is_less-clause-fault
returns-then-not-is_less-clause-fault c =
    let is = body_value (value_at c.args.derivatives.now) c.args.bodies.now c.loop-c.c (record { 0 = 0 }) (omega arith) in
    record {
      within = c.loop-c-test.true;
      not_less = λ h. let wrong = c.if-not-is_less.ensures.1 (subst (λ v. IsLess v (slice_index c.args.weights.now c.loop-c.c)) is h) in cc;
      before = c.loop-c.invariant;
    }

pub loop-c-preserved : goal.loop-c-preserved
loop-c-preserved c =
    let is = body_value (value_at c.args.derivatives.now) c.args.bodies.now c.loop-c.c (record { 0 = 0 }) (omega arith) in
    below_more _ _ c.loop-c.invariant (subst (λ v. IsLess v (slice_index c.args.weights.now c.loop-c.c)) (sym is) (c.if-not-is_less.ensures.0 refl))

pub returns-clause-ok : goal.returns-clause-ok
returns-clause-ok c =
    let us = map (value_at c.args.derivatives.now) (map number c.args.bodies.now) in
    let same : length us ≡ length c.args.weights.now = length-map (map number c.args.bodies.now) (value_at c.args.derivatives.now) ∙ length-map c.args.bodies.now number ∙ sym c.requires.lengths in
    less-each us c.args.weights.now same (λ p below. c.loop-c.invariant p (omega arith))
