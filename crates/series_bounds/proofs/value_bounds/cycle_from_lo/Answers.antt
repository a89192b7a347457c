use Rattle.std.proofs.Common.{◌∙◌, refl, arith}
use Rattle.series_bounds.proofs.Ends.{cycle_down-is, cycle_down-past}
use Rattle.series_bounds.proofs.value_bounds.cycle_from_lo.Goals as goal

pub returns-then-from-power_of_two : goal.returns-then-from-power_of_two
returns-then-from-power_of_two g c = record { exact = cycle_down-past g.row.F c.args.a.0 c.args.low (omega arith) }

pub returns : goal.returns
returns g c = record { exact = c.lower_sum.ensures.exact ∙ cycle_down-is g.row.F c.args.a.0 c.args.low 4096 refl (omega arith) (omega arith) }
