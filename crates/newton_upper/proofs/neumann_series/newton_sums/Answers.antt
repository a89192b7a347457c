use Rattle.std.proofs.Common.{◌≡◌, ◌∙◌, sym, arith}
use Rattle.newton_upper.proofs.Chains.{sums-none, sums-missing, sums-some}
use Rattle.newton_upper.proofs.neumann_series.newton_sums.Goals as goal

pub returns-in_default-clause-exact : goal.returns-in_default-clause-exact
returns-in_default-clause-exact g c = sums-none g.row.F c.args.matrix c.args.gap.now c.args.margin.now (sym c.in_ok-sums.ensures.exact ∙ c.in_default.is)

pub returns-in_default-2-clause-exact : goal.returns-in_default-2-clause-exact
returns-in_default-2-clause-exact g c =
    sums-missing g.row.F c.args.matrix c.args.gap.now c.args.margin.now c.loop-k._k c.loop-k.sums c.loop-k.invariant.raised (sym c.in_ok-next.ensures.exact ∙ c.in_default-2.is) c.loop-k-test.true

pub returns-clause-exact : goal.returns-clause-exact
returns-clause-exact g c =
    let all : c.loop-k._k ≡ 23 = omega arith in
    sums-some g.row.F c.args.matrix c.args.gap.now c.args.margin.now c.loop-k._k c.loop-k.sums all c.loop-k.invariant.raised
