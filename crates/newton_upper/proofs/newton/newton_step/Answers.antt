use Rattle.std.proofs.Common.{◌∙◌, sym}
use Rattle.rounded_map.specs.RoundedMap.{setting}
use Rattle.newton_upper.specs.Newton.{newton_from, newton_step}
use Rattle.newton_upper.proofs.Chains.{answers, step-none, step-half, step-some}
use Rattle.newton_upper.proofs.newton.newton_step.Goals as goal

pub returns-in_default-clause-exact : goal.returns-in_default-clause-exact
returns-in_default-clause-exact g c = step-none (setting c.args.system.now c.args.x.num c.args.x.den g.row.F) c.args.y.now (sym c.in_ok-values.ensures.exact ∙ c.in_default.is)

pub returns-in_default-2-clause-exact : goal.returns-in_default-2-clause-exact
returns-in_default-2-clause-exact g c =
    step-half (setting c.args.system.now c.args.x.num c.args.x.den g.row.F) c.args.y.now c.in-Some.values c.items.result.now c.items.ensures.items (sym c.in_ok-values.ensures.exact ∙ c.in-Some.is) (sym c.in_ok-sums.ensures.exact ∙ c.in_default-2.is)

pub returns-clause-exact : goal.returns-clause-exact
returns-clause-exact g c =
    let t = setting c.args.system.now c.args.x.num c.args.x.den g.row.F in
    answers c.newton_from.result (newton_from c.args.y.now c.in-Some-2.sums) (newton_step t c.args.y.now)
    (step-some t c.args.y.now c.in-Some.values c.items.result.now c.in-Some-2.sums c.items.ensures.items (sym c.in_ok-values.ensures.exact ∙ c.in-Some.is) (sym c.in_ok-sums.ensures.exact ∙ c.in-Some-2.is))
    c.newton_from.ensures.exact
