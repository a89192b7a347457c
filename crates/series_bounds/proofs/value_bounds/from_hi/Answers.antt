use Rattle.std.proofs.Common.{◌∙◌}
use Rattle.series_bounds.specs.Running.{kind_of}
use Rattle.series_bounds.proofs.Ends.{value_up-is, above-value}
use Rattle.series_bounds.proofs.value_bounds.from_hi.Goals as goal

pub returns-clause-exact : goal.returns-clause-exact
returns-clause-exact g c = c.value_hi.ensures.exact ∙ value_up-is (kind_of c.args.kind) g.row.F c.args.a.0 c.args.low

pub returns-clause-upper : goal.returns-clause-upper
returns-clause-upper g c = above-value (λ h. h.0) (kind_of c.args.kind) g.row.F c.args.a.0 c.args.low c.requires.first c.value_hi.result (c.value_hi.ensures.exact ∙ value_up-is (kind_of c.args.kind) g.row.F c.args.a.0 c.args.low)
