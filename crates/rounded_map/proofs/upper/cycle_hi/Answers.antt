use Rattle.std.proofs.Common.{◌∙◌}
use Rattle.series_bounds.specs.Series.{Kind}
use Rattle.class_system.specs.Views.{spec_range}
use Rattle.rounded_map.proofs.Ranged.{without_high-up}
use Rattle.rounded_map.proofs.upper.cycle_hi.Goals as goal

pub returns-in_err-value-in-None : goal.returns-in_err-value-in-None
returns-in_err-value-in-None g c = without_high-up Kind.Cyc g.row.F (spec_range c.args.range) c.in_ok-part.field-0 c.args.part _ c.in_ok-part.was c.in-None.is (rw (← c.from-low.ensures) (c.from_residual-in_err-value-in-None.ensures ∙ c.in_err-value-in-None.ensures.exact))

pub returns-in_ok-value-in-None : goal.returns-in_ok-value-in-None
returns-in_ok-value-in-None g c = without_high-up Kind.Cyc g.row.F (spec_range c.args.range) c.in_ok-part.field-0 c.args.part _ c.in_ok-part.was c.in-None.is (rw (← c.from-low.ensures) c.in_ok-value-in-None.ensures.exact)
