use Rattle.std.proofs.Common.{sym, ◌∙◌, arith}
use Rattle.series_bounds.specs.Running.{kind_of}
use Rattle.series_bounds.proofs.Rules.{range_up-above}
use Rattle.series_bounds.proofs.Ends.{range-is}
use Rattle.series_bounds.proofs.value_bounds.range_hi.Goals as goal

pub returns-in_err-summed-clause-exact : goal.returns-in_err-summed-clause-exact
returns-in_err-summed-clause-exact g c = rw c.from_residual.ensures (c.in_err-summed.ensures.exact ∙ range-is (kind_of c.args.kind) g.row.F c.args.a.0 c.args.low c.args.i (omega arith))

pub returns-clause-exact : goal.returns-clause-exact
returns-clause-exact g c = c.in_ok-summed.ensures.exact ∙ range-is (kind_of c.args.kind) g.row.F c.args.a.0 c.args.low c.args.i (omega arith)

pub returns-clause-upper : goal.returns-clause-upper
returns-clause-upper g c = range_up-above (kind_of c.args.kind) g.row.F c.args.a.0 c.args.low c.args.i c.in_ok-summed.summed.sum c.requires.first (sym (c.in_ok-summed.ensures.exact ∙ range-is (kind_of c.args.kind) g.row.F c.args.a.0 c.args.low c.args.i (omega arith)))
