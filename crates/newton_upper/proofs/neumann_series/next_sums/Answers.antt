use Rattle.std.proofs.Common.{◌∙◌, sym}
use Rattle.newton_upper.specs.Newton.{raised_by, next_sums}
use Rattle.newton_upper.proofs.Chains.{answers, next-none, next-some}
use Rattle.newton_upper.proofs.neumann_series.next_sums.Goals as goal

pub returns-in_default-clause-exact : goal.returns-in_default-clause-exact
returns-in_default-clause-exact g c = next-none g.row.F c.args.sums.now (sym c.in_ok-matrix.ensures.exact ∙ c.in_default.is)

pub returns-clause-exact : goal.returns-clause-exact
returns-clause-exact g c =
    answers c.raised_by.result (raised_by g.row.F c.in-Some.matrix c.items.result.now c.items-2.result.now) (next_sums g.row.F c.args.sums.now)
    (next-some g.row.F c.args.sums.now c.in-Some.matrix c.items.result.now c.items-2.result.now c.items.ensures.items c.items-2.ensures.items (sym c.in_ok-matrix.ensures.exact ∙ c.in-Some.is))
    c.raised_by.ensures.exact
