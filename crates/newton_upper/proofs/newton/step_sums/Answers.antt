use Rattle.std.proofs.Common.{◌∙◌, sym}
use Rattle.rounded_map.specs.RoundedMap.{setting}
use Rattle.newton_upper.specs.Newton.{newton_sums, step_sums}
use Rattle.newton_upper.proofs.Chains.{answers, step_sums-none, step_sums-some}
use Rattle.newton_upper.proofs.Columns.{filled}
use Rattle.newton_upper.proofs.newton.step_sums.Goals as goal

pub returns-in_default-clause-exact : goal.returns-in_default-clause-exact
returns-in_default-clause-exact g c = step_sums-none (setting c.args.system.now c.args.x.num c.args.x.den g.row.F) c.args.y.now c.args.values.now (sym c.in_ok-matrix.ensures.exact ∙ c.in_default.is)

pub returns-clause-exact : goal.returns-clause-exact
returns-clause-exact g c =
    let t = setting c.args.system.now c.args.x.num c.args.x.den g.row.F in
    answers c.newton_sums.result (newton_sums g.row.F c.in-Some.matrix c.items.result.now c.deref.result.now) (step_sums t c.args.y.now c.args.values.now)
    (step_sums-some t c.args.y.now c.args.values.now c.items.result.now c.deref.result.now c.in-Some.matrix (c.items.ensures.items ∙ c.in_ok-gap.ensures.exact)
    (filled 256 _ _ c.deref.result.now c.in_ok-margin.margin.items c.deref.ensures.value (c.in_ok-margin.ensures.items_if_clones_equal (λ y h. h)) c.requires.one_per_class)
    (sym c.in_ok-matrix.ensures.exact ∙ c.in-Some.is))
    c.newton_sums.ensures.exact
