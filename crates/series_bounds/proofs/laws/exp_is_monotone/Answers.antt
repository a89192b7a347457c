use Rattle.series_bounds.proofs.Monotone.{exp_up-monotone}
use Rattle.series_bounds.proofs.laws.exp_is_monotone.Goals as goal

pub returns : goal.returns
returns g c = record { monotone = exp_up-monotone g.row.F c.args.a.0 c.args.b.0 c.requires.no_greater }
