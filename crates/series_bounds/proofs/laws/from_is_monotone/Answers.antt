use Rattle.std.proofs.Common.{arith}
use Rattle.series_bounds.proofs.Monotone.{seq_from_up-monotone, set_from_up-monotone}
use Rattle.series_bounds.proofs.LogarithmMonotone.{cyc_from_up-monotone}
use Rattle.series_bounds.proofs.laws.from_is_monotone.Goals as goal

pub returns : goal.returns
returns g c = record {
  sequences = seq_from_up-monotone g.row.F c.args.a.0 c.args.b.0 c.args.low c.requires.no_greater;
  sets = set_from_up-monotone g.row.F c.args.a.0 c.args.b.0 c.args.low c.requires.no_greater;
  cycles = cyc_from_up-monotone g.row.F c.args.a.0 c.args.b.0 c.args.low (omega arith) c.requires.no_greater;
}
