use Rattle.fixed_enclosure.proofs.Monotone.{mul_up-monotone}
use Rattle.fixed_enclosure.proofs.laws.mul_is_monotone.Goals as goal

pub returns : goal.returns
returns g c = record { monotone = mul_up-monotone g.row.F c.args.a.0 c.args.b.0 c.args.c.0 c.args.d.0 c.requires.no_greater.0 c.requires.no_greater.1 }
