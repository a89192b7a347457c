use Rattle.std.proofs.Common.{sym, ◌∙◌, subst}
use Rattle.series_bounds.specs.Running.{kind_of}
use Rattle.series_bounds.specs.ExactSums.{IsAtMostTerms}
use Rattle.series_bounds.proofs.Rules.{part_down-reached}
use Rattle.series_bounds.proofs.Ends.{summed_down-is}
use Rattle.series_bounds.proofs.value_bounds.part_lo.Goals as goal

pub returns-clause-exact : goal.returns-clause-exact
returns-clause-exact g c = c.lower_sum.ensures.exact ∙ summed_down-is (kind_of c.args.kind) g.row.F c.args.a.0 c.args.low c.args.i

pub returns-clause-lower : goal.returns-clause-lower
returns-clause-lower g c = subst (λ v. IsAtMostTerms (kind_of c.args.kind) g.row.F c.args.a.0 c.args.low c.args.i v) (sym (c.lower_sum.ensures.exact ∙ summed_down-is (kind_of c.args.kind) g.row.F c.args.a.0 c.args.low c.args.i)) (part_down-reached (kind_of c.args.kind) g.row.F c.args.a.0 c.args.low c.args.i)
