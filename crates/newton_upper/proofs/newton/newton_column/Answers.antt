use Rattle.std.proofs.Common.{◌≡◌, ◌∙◌, ◌-◌, List, ℕ, length, map, set, replicate, Some, refl, sym, ap, arith}
use Rattle.std.specs.Prelude.{option_map}
use Rattle.std.proofs.lemmas.List.{length-map}
use Rattle.class_system.specs.Views.{number}
use Rattle.rounded_map.specs.RoundedMap.{setting}
use Rattle.rounded_map.specs.Derivative.{sweep_dual}
use Rattle.newton_upper.specs.Newton.{unit_vector, newton_column}
use Rattle.newton_upper.proofs.Columns.{written-whole, filled}
use Rattle.newton_upper.proofs.newton.newton_column.Goals as goal

pub returns-then-not-sweep_dual-clause-exact : goal.returns-then-not-sweep_dual-clause-exact
unfolding newton_column
returns-then-not-sweep_dual-clause-exact g c =
    let t = setting c.args.system.now c.args.x.num c.args.x.den g.row.F in
    let classes : length c.bodies.result.now ≡ length c.args.system.now.bodies = sym (length-map c.bodies.result.now number) ∙ ap length c.bodies.ensures.bodies in
    let unit : c.deref_mut.result.now ≡ unit_vector t c.args.class =
    c.deref_mut.ensures.value
    ∙ ap (λ (v : List ℕ). set v c.args.class c.power_of_two.result) (filled 0 _ _ c.in_ok-dual.dual.items c.in_ok-dual.dual.items refl (c.in_ok-dual.ensures.items_if_clones_equal (λ y h. h)) classes)
    ∙ ap (set (replicate (length c.args.system.now.bodies) 0) c.args.class) c.power_of_two.ensures.exact in
    sym (ap (λ (v : List ℕ). option_map (map (λ v. v - 256)) (sweep_dual t (map Some c.args.values.now) v)) (sym unit) ∙ ap (option_map (map (λ v. v - 256))) (c.if-not-sweep_dual.ensures.missing refl))

pub returns-clause-exact : goal.returns-clause-exact
unfolding newton_column
returns-clause-exact g c =
    let t = setting c.args.system.now c.args.x.num c.args.x.den g.row.F in
    let classes : length c.bodies.result.now ≡ length c.args.system.now.bodies = sym (length-map c.bodies.result.now number) ∙ ap length c.bodies.ensures.bodies in
    let unit : c.deref_mut.result.now ≡ unit_vector t c.args.class =
    c.deref_mut.ensures.value
    ∙ ap (λ (v : List ℕ). set v c.args.class c.power_of_two.result) (filled 0 _ _ c.in_ok-dual.dual.items c.in_ok-dual.dual.items refl (c.in_ok-dual.ensures.items_if_clones_equal (λ y h. h)) classes)
    ∙ ap (set (replicate (length c.args.system.now.bodies) 0) c.args.class) c.power_of_two.ensures.exact in
    ap (λ (v : List ℕ). Some v) (c.of.ensures.same ∙ written-whole _ _ _ (omega arith) ∙ c.take_units_off.ensures ∙ ap (map (λ v. v - 256)) (c.deref_mut-3.ensures.value ∙ written-whole _ _ _ (omega arith)))
    ∙ sym (ap (λ (v : List ℕ). option_map (map (λ v. v - 256)) (sweep_dual t (map Some c.args.values.now) v)) (sym unit) ∙ ap (option_map (map (λ v. v - 256))) (c.if-not-sweep_dual.ensures.swept refl))
