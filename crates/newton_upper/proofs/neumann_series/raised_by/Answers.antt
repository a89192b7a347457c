use Rattle.std.proofs.Common.{◌∙◌, sym}
use Rattle.newton_upper.proofs.Chains.{raised-none, raised-half, raised-some}
use Rattle.newton_upper.proofs.neumann_series.raised_by.Goals as goal

pub returns-in_default-clause-exact : goal.returns-in_default-clause-exact
returns-in_default-clause-exact g c = raised-none g.row.F c.args.matrix c.args.gap.now c.args.margin.now (sym c.in_ok-gap.ensures.exact ∙ c.in_default.is)

pub returns-in_default-2-clause-exact : goal.returns-in_default-2-clause-exact
returns-in_default-2-clause-exact g c = raised-half g.row.F c.args.matrix c.args.gap.now c.args.margin.now c.in-Some.gap (sym c.in_ok-gap.ensures.exact ∙ c.in-Some.is) (sym c.in_ok-margin.ensures.exact ∙ c.in_default-2.is)

pub returns-clause-exact : goal.returns-clause-exact
returns-clause-exact g c =
    raised-some g.row.F c.args.matrix c.args.gap.now c.args.margin.now c.in-Some.gap c.in-Some-2.margin (sym c.in_ok-gap.ensures.exact ∙ c.in-Some.is) (sym c.in_ok-margin.ensures.exact ∙ c.in-Some-2.is)
