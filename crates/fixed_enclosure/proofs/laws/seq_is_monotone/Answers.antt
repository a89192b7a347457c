use Rattle.fixed_enclosure.proofs.Monotone.{seq_up-monotone}
use Rattle.fixed_enclosure.proofs.laws.seq_is_monotone.Goals as goal

pub returns : goal.returns
returns g c = record { monotone = seq_up-monotone g.row.F c.args.a.0 c.args.b.0 c.requires.no_greater }
