use Rattle.std.proofs.Common.{◌≡◌, ◌∙◌, length, sym, ap, arith}
use Rattle.newton_upper.specs.Below.{all_below}
use Rattle.newton_upper.specs.Newton.{row_times, matrix_times}
use Rattle.newton_upper.proofs.ResultsBelow.{all-missing}
use Rattle.newton_upper.proofs.matrix.Matrix.times.Goals as goal

pub returns-in_default-clause-exact : goal.returns-in_default-clause-exact
unfolding matrix_times
returns-in_default-clause-exact g c =
    sym (all-missing (row_times g.row.F c.args.self.now c.args.vector.now) c.loop-i.i (length c.args.vector.now) (sym c.row_times.ensures.exact ∙ c.in_default.is) c.loop-i-test.true)

pub returns-clause-exact : goal.returns-clause-exact
unfolding matrix_times
returns-clause-exact g c =
    let all : c.loop-i.i ≡ length c.args.vector.now = omega arith in
    sym c.loop-i.invariant.entries ∙ ap (all_below (row_times g.row.F c.args.self.now c.args.vector.now)) all
