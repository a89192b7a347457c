use Rattle.std.proofs.Common.{◌∙◌}
use Rattle.series_bounds.specs.Series.{Kind}
use Rattle.rounded_map.proofs.SlopesRunning.{slope-with_high}
use Rattle.rounded_map.proofs.counted_derivative.set_slope.Goals as goal

pub returns-in-Some : goal.returns-in-Some
returns-in-Some g c = c.slope_sum.ensures ∙ rw (c.from.ensures, c.from-in-Some.ensures) (slope-with_high Kind.Set g.row.F c.args.range.low c.in-Some.high c.args.part c.args.range.high c.in-Some.is)
