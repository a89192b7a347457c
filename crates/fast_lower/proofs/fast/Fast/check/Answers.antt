use Rattle.std.proofs.Common.{◌-◌, map, sym, ap, subst, ◌∙◌, arith, length}
use Rattle.std.proofs.lemmas.List.{length-map}
use Rattle.bz_model.specs.Fraction.{ratio}
use Rattle.class_system.specs.Views.{number}
use Rattle.rounded_map.specs.Bounding.{AreBelow}
use Rattle.rounded_map.specs.RoundedMap.{setting}
use Rattle.oracle_memo.proofs.Raising.{written-whole}
use Rattle.fast_lower.proofs.Checking as checking
use Rattle.fast_lower.proofs.fast.Fast.check.Goals as goal

pub first_above_body-requires-clause-bodies : goal.first_above_body-requires-clause-bodies
first_above_body-requires-clause-bodies g c =
    let s = c.system-system.result.now in
    c.bodies_are_nodes.ensures s c.known.ensures.sound _ _ c.bodies.ensures.bodies
    (ap length (c.deref-5.ensures.value ∙ written-whole _ _ _ (omega arith) ∙ c.eval_lo.ensures.values) ∙ checking.length-values_down (setting s c.args.x.num c.args.x.den g.row.F) c.known.ensures.sound c.deref-3.result.now)

pub returns-in-Some-first_above_body-clause-fault : goal.returns-in-Some-first_above_body-clause-fault
returns-in-Some-first_above_body-clause-fault g c =
    let s = c.system-system.result.now in
    let before = checking.below-upper s c.args.founded.now c.args.x.num c.args.x.den g.row.F c.system-system.ensures.system c.args.upper.now c.args.low.items c.args.weights.items _ _ _ c.deref.ensures.value c.deref-2.ensures.value c.values.ensures.entries c.in_default.ensures.none c.in_default-first_above.ensures.none in
    checking.not-pre_fixed s c.args.founded.now c.args.x.num c.args.x.den g.row.F c.system-system.ensures.system c.args.upper.now c.args.low.items c.args.weights.items (map number c.bodies.result.now) c.deref-5.result.now c.deref-3.result.now c.deref-4.result.now c.in-Some-first_above_body.class.0
    c.bodies.ensures.bodies (c.deref-5.ensures.value ∙ written-whole _ _ _ (omega arith) ∙ c.eval_lo.ensures.values) c.deref-3.ensures.value c.deref-4.ensures.value before c.in-Some-first_above_body.ensures.some

pub eval_there-requires-clause-one_per_class : goal.eval_there-requires-clause-one_per_class
eval_there-requires-clause-one_per_class g c = checking.length-upper c.system-system.result.now c.args.founded.now c.args.x.num c.args.x.den g.row.F c.args.upper.now c.values-2.result.now c.system-system.ensures.system c.requires.belongs c.values-2.ensures.entries

pub returns-in-Ok-clause-passes : goal.returns-in-Ok-clause-passes
returns-in-Ok-clause-passes g c =
    let s = c.system-system.result.now in
    let before = checking.below-upper s c.args.founded.now c.args.x.num c.args.x.den g.row.F c.system-system.ensures.system c.args.upper.now c.args.low.items c.args.weights.items _ _ _ c.deref.ensures.value c.deref-2.ensures.value c.values.ensures.entries c.in_default.ensures.none c.in_default-first_above.ensures.none in
    let low = checking.low-vector s c.args.founded.now c.args.x.num c.args.x.den g.row.F c.system-system.ensures.system c.args.upper.now c.args.low.items c.args.weights.items (map number c.bodies.result.now) c.deref-5.result.now c.deref-3.result.now c.deref-4.result.now
    c.bodies.ensures.bodies (c.deref-5.ensures.value ∙ written-whole _ _ _ (omega arith) ∙ c.eval_lo.ensures.values) c.deref-3.ensures.value c.deref-4.ensures.value before c.in_default-first_above_body.ensures.none in
    checking.passes-all s c.args.founded.now c.args.x.num c.args.x.den g.row.F c.system-system.ensures.system c.args.upper.now c.args.low.items c.args.weights.items c.deref-6.result.now c.deref-7.result.now
    (checking.high-values s c.args.founded.now c.args.x.num c.args.x.den g.row.F c.system-system.ensures.system c.args.upper.now c.args.low.items c.args.weights.items c.deref-6.result.now c.eval_there.new.nodes c.values-2.result.now (c.deref-6.ensures.value ∙ written-whole _ _ _ (omega arith)) c.eval_there.ensures.values c.values-2.ensures.entries)
    c.deref-7.ensures.value low c.in-Ok.ensures.ok

pub returns-in-Ok-clause-below : goal.returns-in-Ok-clause-below
returns-in-Ok-clause-below g c =
    subst (λ v. AreBelow c.args.founded.now (ratio c.args.x.num c.args.x.den) g.row.F v) (sym c.with_one_unit_off.ensures)
    (checking.all-below c.system-system.result.now c.args.founded.now c.args.x.num c.args.x.den g.row.F c.system-system.ensures.system c.args.upper.now c.args.low.items c.args.weights.items c.known.ensures.sound c.args.x.den_in_limits.0 c.requires.belongs (returns-in-Ok-clause-passes g c))

pub returns-in-Err-clause-fault : goal.returns-in-Err-clause-fault
returns-in-Err-clause-fault g c =
    let s = c.system-system.result.now in
    let before = checking.below-upper s c.args.founded.now c.args.x.num c.args.x.den g.row.F c.system-system.ensures.system c.args.upper.now c.args.low.items c.args.weights.items _ _ _ c.deref.ensures.value c.deref-2.ensures.value c.values.ensures.entries c.in_default.ensures.none c.in_default-first_above.ensures.none in
    let low = checking.low-vector s c.args.founded.now c.args.x.num c.args.x.den g.row.F c.system-system.ensures.system c.args.upper.now c.args.low.items c.args.weights.items (map number c.bodies.result.now) c.deref-5.result.now c.deref-3.result.now c.deref-4.result.now
    c.bodies.ensures.bodies (c.deref-5.ensures.value ∙ written-whole _ _ _ (omega arith) ∙ c.eval_lo.ensures.values) c.deref-3.ensures.value c.deref-4.ensures.value before c.in_default-first_above_body.ensures.none in
    checking.not-contracting s c.args.founded.now c.args.x.num c.args.x.den g.row.F c.system-system.ensures.system c.args.upper.now c.args.low.items c.args.weights.items c.deref-6.result.now c.deref-7.result.now c.in-Err.class.0
    (checking.high-values s c.args.founded.now c.args.x.num c.args.x.den g.row.F c.system-system.ensures.system c.args.upper.now c.args.low.items c.args.weights.items c.deref-6.result.now c.eval_there.new.nodes c.values-2.result.now (c.deref-6.ensures.value ∙ written-whole _ _ _ (omega arith)) c.eval_there.ensures.values c.values-2.ensures.entries)
    c.deref-7.ensures.value low c.in-Err.ensures.fault

pub returns-in-Ok-clause-length : goal.returns-in-Ok-clause-length
returns-in-Ok-clause-length g c = ap length c.with_one_unit_off.ensures ∙ length-map c.args.low.items (λ v. v - 1) ∙ c.requires.one_per_class
