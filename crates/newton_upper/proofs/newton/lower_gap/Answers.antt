use Rattle.std.proofs.Common.{◌≡◌, ◌∙◌, ◌-◌, List, ℕ, ap, arith}
use Rattle.rounded_map.specs.RoundedMap.{setting, at_each, sweep_down}
use Rattle.newton_upper.specs.Newton.{lower_gap}
use Rattle.newton_upper.proofs.Columns.{written-whole}
use Rattle.newton_upper.proofs.newton.lower_gap.Goals as goal

pub returns-clause-exact : goal.returns-clause-exact
unfolding lower_gap
returns-clause-exact g c =
    let start : c.deref_mut.result.now ≡ c.args.y.now = c.deref_mut.ensures.value ∙ c.in_ok-swept.ensures.items_if_clones_equal (λ x y h. h) in
    let swept : c.deref_mut-3.result.now ≡ c.sweep_lo.new.classes = c.deref_mut-3.ensures.value ∙ written-whole _ _ _ (omega arith) in
    c.of.ensures.same ∙ written-whole _ _ _ (omega arith) ∙ c.take_entries_off.ensures
    ∙ ap (λ (v : List ℕ). at_each (λ a b. a - b) v c.args.y.now) (swept ∙ c.sweep_lo.ensures.swept ∙ ap (sweep_down (setting c.args.system.now c.args.x.num c.args.x.den g.row.F)) start)
