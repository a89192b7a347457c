use Rattle.std.proofs.Common.{◌∙◌, ap, List, ℕ}
use Rattle.rounded_map.specs.RoundedMap.{setting}
use Rattle.bz_model.specs.Spec.{Spec}
use Rattle.newton_upper.specs.Candidates.{dual_vector}
use Rattle.fast_lower.proofs.Candidates.{no-weights, with-weights}
use Rattle.fast_lower.proofs.fast.Fast.propose.Goals as goal

pub returns-in_default-clause-exact : goal.returns-in_default-clause-exact
returns-in_default-clause-exact g c =
    let t = setting c.args.founded.now c.args.x.num c.args.x.den g.row.F in
    no-weights t c.args.base.now c.in_ok-upper.upper c.in_ok-upper.ensures.exact c.in_ok-weights.field-0
    (c.in_ok-weights.ensures.exact ∙ ap (λ (s : Spec). dual_vector (setting s c.args.x.num c.args.x.den g.row.F) c.values.result.now 4096) c.system-system.ensures.system ∙ ap (λ (u : List ℕ). dual_vector t u 4096) (c.values.ensures.entries)) c.in_default.is

pub returns-clause-exact : goal.returns-clause-exact
returns-clause-exact g c =
    let t = setting c.args.founded.now c.args.x.num c.args.x.den g.row.F in
    with-weights t c.args.base.now c.in_ok-upper.upper c.in_ok-upper.ensures.exact c.in_ok-weights.field-0 c.in-Some.weights c.items.result.now c.first_passing.result
    (c.in_ok-weights.ensures.exact ∙ ap (λ (s : Spec). dual_vector (setting s c.args.x.num c.args.x.den g.row.F) c.values.result.now 4096) c.system-system.ensures.system ∙ ap (λ (u : List ℕ). dual_vector t u 4096) (c.values.ensures.entries)) c.in-Some.is c.items.ensures.items c.first_passing.ensures.exact
