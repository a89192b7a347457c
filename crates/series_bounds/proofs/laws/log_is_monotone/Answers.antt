use Rattle.std.proofs.Common.{arith}
use Rattle.series_bounds.proofs.LogarithmMonotone.{log_up-monotone}
use Rattle.series_bounds.proofs.laws.log_is_monotone.Goals as goal

pub returns : goal.returns
returns g c = record { monotone = log_up-monotone g.row.F c.args.a.0 c.args.b.0 (omega arith) c.requires.no_greater }
