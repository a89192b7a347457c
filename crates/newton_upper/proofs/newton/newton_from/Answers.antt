use Rattle.std.proofs.Common.{◌∙◌, sym}
use Rattle.newton_upper.proofs.Chains.{from-none, from-half, from-some}
use Rattle.newton_upper.proofs.newton.newton_from.Goals as goal

pub returns-in_default-clause-exact : goal.returns-in_default-clause-exact
returns-in_default-clause-exact c = from-none c.args.y.now c.args.sums.now c.items.result.now c.items.ensures.items (sym c.in_ok-next.ensures.exact ∙ c.in_default.is)

pub returns-in_default-2-clause-exact : goal.returns-in_default-2-clause-exact
returns-in_default-2-clause-exact c =
    from-half c.args.y.now c.args.sums.now c.items.result.now c.in-Some.next c.items-2.result.now c.items-3.result.now c.items.ensures.items c.items-2.ensures.items c.items-3.ensures.items
    (sym c.in_ok-next.ensures.exact ∙ c.in-Some.is) (sym c.in_ok-proposal.ensures.exact ∙ c.in_default-2.is)

pub returns-clause-exact : goal.returns-clause-exact
returns-clause-exact c =
    from-some c.args.y.now c.args.sums.now c.items.result.now c.in-Some.next c.items-2.result.now c.items-3.result.now c.in-Some-2.proposal c.items.ensures.items c.items-2.ensures.items c.items-3.ensures.items
    (sym c.in_ok-next.ensures.exact ∙ c.in-Some.is) (sym c.in_ok-proposal.ensures.exact ∙ c.in-Some-2.is)
