use Rattle.std.proofs.Common.{◌≡◌, ◌∙◌, List, ℕ, length, map, Some, refl, sym, ap, arith}
use Rattle.std.specs.Prelude.{option_and_then}
use Rattle.std.proofs.lemmas.List.{length-map}
use Rattle.class_system.specs.Views.{number}
use Rattle.rounded_map.specs.RoundedMap.{setting, repeated}
use Rattle.rounded_map.specs.Derivative.{sweep_dual}
use Rattle.newton_upper.specs.Candidates.{swept_dual}
use Rattle.newton_upper.proofs.Columns.{written-whole, filled}
use Rattle.newton_upper.proofs.sweeps.swept_dual.Goals as goal

pub returns-then-sweep_dual_on-clause-exact : goal.returns-then-sweep_dual_on-clause-exact
unfolding swept_dual
returns-then-sweep_dual_on-clause-exact g c =
    let classes : length c.bodies.result.now ≡ length c.args.system.now.bodies = sym (length-map c.bodies.result.now number) ∙ ap length c.bodies.ensures.bodies in
    ap (λ (v : List ℕ). Some v) (c.of.ensures.same ∙ written-whole _ _ _ (omega arith)) ∙ sym (c.if-sweep_dual_on.ensures.swept refl)
    ∙ ap (λ (v : List ℕ). repeated (option_and_then (sweep_dual (setting c.args.system.now c.args.x.num c.args.x.den g.row.F) (map Some c.args.values.now))) c.args.sweeps (Some v))
    (filled 0 _ _ c.deref_mut.result.now c.in_ok-dual.dual.items c.deref_mut.ensures.value (c.in_ok-dual.ensures.items_if_clones_equal (λ y h. h)) classes)

pub returns-else-sweep_dual_on-clause-exact : goal.returns-else-sweep_dual_on-clause-exact
unfolding swept_dual
returns-else-sweep_dual_on-clause-exact g c =
    let classes : length c.bodies.result.now ≡ length c.args.system.now.bodies = sym (length-map c.bodies.result.now number) ∙ ap length c.bodies.ensures.bodies in
    sym (c.if-sweep_dual_on.ensures.missing refl)
    ∙ ap (λ (v : List ℕ). repeated (option_and_then (sweep_dual (setting c.args.system.now c.args.x.num c.args.x.den g.row.F) (map Some c.args.values.now))) c.args.sweeps (Some v))
    (filled 0 _ _ c.deref_mut.result.now c.in_ok-dual.dual.items c.deref_mut.ensures.value (c.in_ok-dual.ensures.items_if_clones_equal (λ y h. h)) classes)
