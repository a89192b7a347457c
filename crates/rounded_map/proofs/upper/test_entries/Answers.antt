use Rattle.std.proofs.Common.{◌≡◌, refl, length, map, Some, arith, sym, ◌∙◌, subst, below_more}
use Rattle.std.specs.Prelude.{slice_index}
use Rattle.std.proofs.lemmas.List.{length-map}
use Rattle.class_system.specs.Views.{number}
use Rattle.fixed_enclosure.specs.UpperValues.{IsNoGreater}
use Rattle.rounded_map.specs.RoundedMap.{value_at}
use Rattle.rounded_map.proofs.PartsListed.{part-in_range}
use Rattle.rounded_map.proofs.Entries.{body_value, no_greater-each}
use Rattle.rounded_map.proofs.upper.test_entries.Goals as goal

pub bounds-values-bodies : goal.bounds-values-bodies
bounds-values-bodies c = part-in_range c.args.bodies.now _ c.loop-c.c _ (omega arith) c.requires.bodies

pub returns-then-not-is_at_most-clause-fault : goal.returns-then-not-is_at_most-clause-fault
returns-then-not-is_at_most-clause-fault c = record {
  within = c.loop-c-test.true;
  value = sym (body_value (value_at c.args.values.now) c.args.bodies.now c.loop-c.c (record { 0 = 0 }) (omega arith));
  above = λ h. let wrong = c.if-not-is_at_most.ensures.1 h in cc;
  before = c.loop-c.invariant;
}

pub loop-c-preserved : goal.loop-c-preserved
loop-c-preserved c =
    let is = body_value (value_at c.args.values.now) c.args.bodies.now c.loop-c.c (record { 0 = 0 }) (omega arith) in
    below_more _ _ c.loop-c.invariant (subst (λ v. IsNoGreater v (Some (slice_index c.args.classes.now c.loop-c.c))) (sym is) (c.if-not-is_at_most.ensures.0 refl))

pub returns-clause-ok : goal.returns-clause-ok
returns-clause-ok c =
    let us = map (value_at c.args.values.now) (map number c.args.bodies.now) in
    let same : length us ≡ length c.args.classes.now = length-map (map number c.args.bodies.now) (value_at c.args.values.now) ∙ length-map c.args.bodies.now number ∙ sym c.requires.lengths in
    no_greater-each us c.args.classes.now same (λ p below. c.loop-c.invariant p (omega arith))
