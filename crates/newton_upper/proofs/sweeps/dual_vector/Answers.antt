use Rattle.std.proofs.Common.{◌∙◌, sym}
use Rattle.rounded_map.specs.RoundedMap.{setting}
use Rattle.newton_upper.specs.Candidates.{swept_dual, dual_vector}
use Rattle.newton_upper.proofs.Chains.{answers, dual-none, dual-some}
use Rattle.newton_upper.proofs.sweeps.dual_vector.Goals as goal

pub returns-in_default-clause-exact : goal.returns-in_default-clause-exact
returns-in_default-clause-exact g c = dual-none (setting c.args.system.now c.args.x.num c.args.x.den g.row.F) c.args.y.now c.args.sweeps (sym c.in_ok-values.ensures.exact ∙ c.in_default.is)

pub returns-clause-exact : goal.returns-clause-exact
returns-clause-exact g c =
    let t = setting c.args.system.now c.args.x.num c.args.x.den g.row.F in
    answers c.swept_dual.result (swept_dual t c.items.result.now c.args.sweeps) (dual_vector t c.args.y.now c.args.sweeps)
    (dual-some t c.args.y.now c.args.sweeps c.in-Some.values c.items.result.now c.items.ensures.items (sym c.in_ok-values.ensures.exact ∙ c.in-Some.is))
    c.swept_dual.ensures.exact
