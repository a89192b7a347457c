use Rattle.std.proofs.Common.{◌∙◌, sym}
use Rattle.newton_upper.specs.Newton.{sum_of_vectors, plus_times}
use Rattle.newton_upper.proofs.Chains.{answers, plus-none, plus-some}
use Rattle.newton_upper.proofs.neumann_series.plus_times.Goals as goal

pub returns-in_default-clause-exact : goal.returns-in_default-clause-exact
returns-in_default-clause-exact g c = plus-none g.row.F c.args.matrix.now c.args.vector.now (sym c.in_ok-product.ensures.exact ∙ c.in_default.is)

pub returns-clause-exact : goal.returns-clause-exact
returns-clause-exact g c =
    answers c.sum_of_vectors.result (sum_of_vectors c.args.vector.now c.items.result.now) (plus_times g.row.F c.args.matrix.now c.args.vector.now)
    (plus-some g.row.F c.args.matrix.now c.args.vector.now c.in-Some.product c.items.result.now c.items.ensures.items (sym c.in_ok-product.ensures.exact ∙ c.in-Some.is))
    c.sum_of_vectors.ensures.exact
