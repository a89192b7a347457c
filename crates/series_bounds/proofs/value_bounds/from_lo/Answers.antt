use Rattle.std.proofs.Common.{sym, ◌∙◌, subst}
use Rattle.series_bounds.specs.Running.{kind_of}
use Rattle.series_bounds.specs.ExactSums.{IsReached}
use Rattle.series_bounds.proofs.Rules.{from_down-reached}
use Rattle.series_bounds.proofs.Ends.{value_down-is}
use Rattle.series_bounds.proofs.value_bounds.from_lo.Goals as goal

pub returns-clause-exact : goal.returns-clause-exact
returns-clause-exact g c = c.value_lo.ensures.exact ∙ value_down-is (kind_of c.args.kind) g.row.F c.args.a.0 c.args.low

pub returns-clause-lower : goal.returns-clause-lower
returns-clause-lower g c = subst (λ v. IsReached (kind_of c.args.kind) g.row.F c.args.a.0 c.args.low v) (sym (c.value_lo.ensures.exact ∙ value_down-is (kind_of c.args.kind) g.row.F c.args.a.0 c.args.low)) (from_down-reached (kind_of c.args.kind) g.row.F c.args.a.0 c.args.low c.requires.first)
