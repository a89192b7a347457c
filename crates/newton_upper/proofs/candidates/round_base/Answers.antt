use Rattle.std.proofs.Common.{◌∙◌, sym}
use Rattle.rounded_map.specs.RoundedMap.{setting}
use Rattle.newton_upper.specs.Candidates.{first_candidate, round_from}
use Rattle.newton_upper.proofs.Chains.{answers, round-none, round-some}
use Rattle.newton_upper.proofs.candidates.round_base.Goals as goal

pub returns-in_default-clause-exact : goal.returns-in_default-clause-exact
returns-in_default-clause-exact g c = round-none (setting c.args.system.now c.args.x.num c.args.x.den g.row.F) c.args.y.now c.args.sweeps c.min-dual_sweeps.result c.min-dual_sweeps.ensures (sym c.in_ok-dual.ensures.exact ∙ c.in_default.is)

pub returns-clause-exact : goal.returns-clause-exact
returns-clause-exact g c =
    let t = setting c.args.system.now c.args.x.num c.args.x.den g.row.F in
    answers c.first_candidate.result (first_candidate t c.args.y.now c.items.result.now) (round_from t c.args.y.now c.args.sweeps)
    (round-some t c.args.y.now c.args.sweeps c.min-dual_sweeps.result c.in-Some.dual c.items.result.now c.min-dual_sweeps.ensures c.items.ensures.items (sym c.in_ok-dual.ensures.exact ∙ c.in-Some.is))
    c.first_candidate.ensures.exact
