use Rattle.std.proofs.Common.{◌∙◌, refl}
use Rattle.series_bounds.proofs.Ends.{set_down-is}
use Rattle.series_bounds.proofs.value_bounds.value_lo.Goals as goal

pub returns-in-Set : goal.returns-in-Set
returns-in-Set g c = record { exact = rw c.in-Set.is (c.lower_sum.ensures.exact ∙ set_down-is g.row.F c.args.a.0 c.args.low 127 refl) }
