use Rattle.series_bounds.specs.Series.{Kind}
use Rattle.class_system.specs.Views.{spec_range}
use Rattle.rounded_map.proofs.Ranged.{without_high-down}
use Rattle.rounded_map.proofs.lower.set_lo.Goals as goal

pub returns-in-None : goal.returns-in-None
returns-in-None g c = without_high-down Kind.Set g.row.F (spec_range c.args.range) c.args.part.0 _ c.in-None.is (rw (← c.from-low.ensures) c.set_from_lo.ensures.exact)
