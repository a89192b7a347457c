use Rattle.series_bounds.specs.Series.{Kind}
use Rattle.series_bounds.proofs.Monotone.{part_up-monotone}
use Rattle.series_bounds.proofs.laws.part_is_monotone.Goals as goal

pub returns : goal.returns
returns g c = record {
  sequences = part_up-monotone Kind.Seq g.row.F c.args.a.0 c.args.b.0 c.args.low c.args.i c.args.c.0 c.args.d.0 c.requires.no_greater.0 c.requires.no_greater.1;
  sets = part_up-monotone Kind.Set g.row.F c.args.a.0 c.args.b.0 c.args.low c.args.i c.args.c.0 c.args.d.0 c.requires.no_greater.0 c.requires.no_greater.1;
  cycles = part_up-monotone Kind.Cyc g.row.F c.args.a.0 c.args.b.0 c.args.low c.args.i c.args.c.0 c.args.d.0 c.requires.no_greater.0 c.requires.no_greater.1;
}
