use Rattle.std.proofs.Common.{◌≡◌, ◌∙◌, ◌+◌, ◌≤◌, ℕ, List, Some, sym, ap, subst}
use Rattle.bz_model.specs.Spec.{Spec}
use Rattle.rounded_map.specs.RoundedMap.{setting}
use Rattle.newton_upper.specs.BaseRule.{base_of, most_ticks}
use Rattle.newton_upper.proofs.Costs.{within-most, most-none}
use Rattle.newton_upper.proofs.Proposing.{base-candidate}
use Rattle.newton_upper.proofs.search.propose.Goals as goal

pub returns-in_err-candidate-clause-ticks : goal.returns-in_err-candidate-clause-ticks
returns-in_err-candidate-clause-ticks g c =
    subst (λ (s : Spec). c.search_candidates.new.steps ≤ c.args.steps.now + most_ticks (setting s c.args.x.num c.args.x.den g.row.F)) c.system-system.ensures.system
    (within-most (setting c.system-system.result.now c.args.x.num c.args.x.den g.row.F) c.args.steps.now c.search_candidates.new.steps c.search_candidates.ensures.ticks)

pub returns-in-Some-clause-base : goal.returns-in-Some-clause-base
returns-in-Some-clause-base g c =
    subst (λ (s : Spec). base_of (setting s c.args.x.num c.args.x.den g.row.F) ≡ Some c.of.result) c.system-system.ensures.system
    (base-candidate (setting c.system-system.result.now c.args.x.num c.args.x.den g.row.F) c.in-Some.candidate (sym c.in_ok-candidate.ensures.exact ∙ c.in-Some.is)
    ∙ sym (ap (λ (v : List ℕ). Some v) (c.of.ensures.same ∙ c.into_content.ensures.same)))

pub returns-in-Some-clause-ticks : goal.returns-in-Some-clause-ticks
returns-in-Some-clause-ticks g c =
    subst (λ (s : Spec). c.search_candidates.new.steps ≤ c.args.steps.now + most_ticks (setting s c.args.x.num c.args.x.den g.row.F)) c.system-system.ensures.system
    (within-most (setting c.system-system.result.now c.args.x.num c.args.x.den g.row.F) c.args.steps.now c.search_candidates.new.steps c.search_candidates.ensures.ticks)

pub returns-in-None-clause-ticks : goal.returns-in-None-clause-ticks
returns-in-None-clause-ticks g c =
    subst (λ (s : Spec). c.search_proposals.new.steps ≤ c.args.steps.now + most_ticks (setting s c.args.x.num c.args.x.den g.row.F)) c.system-system.ensures.system
    (most-none (setting c.system-system.result.now c.args.x.num c.args.x.den g.row.F) c.args.steps.now c.search_candidates.new.steps c.search_proposals.new.steps (sym c.in_ok-candidate.ensures.exact ∙ c.in-None.is) c.search_candidates.ensures.ticks c.search_proposals.ensures.ticks)
