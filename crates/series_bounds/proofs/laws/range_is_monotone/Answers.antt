use Rattle.series_bounds.specs.Series.{Kind}
use Rattle.series_bounds.proofs.Monotone.{range_up-monotone}
use Rattle.series_bounds.proofs.laws.range_is_monotone.Goals as goal

pub returns : goal.returns
returns g c = record {
  sequences = range_up-monotone Kind.Seq g.row.F c.args.a.0 c.args.b.0 c.args.low c.args.i c.requires.no_greater;
  sets = range_up-monotone Kind.Set g.row.F c.args.a.0 c.args.b.0 c.args.low c.args.i c.requires.no_greater;
  cycles = range_up-monotone Kind.Cyc g.row.F c.args.a.0 c.args.b.0 c.args.low c.args.i c.requires.no_greater;
}
