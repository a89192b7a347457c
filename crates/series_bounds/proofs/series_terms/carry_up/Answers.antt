use Rattle.std.proofs.Common.{◌^◌, pow_pos}
use Rattle.series_bounds.proofs.Halves.{rounded_again}
use Rattle.series_bounds.proofs.series_terms.carry_up.Goals as goal

pub returns-in-Set-clause-exact : goal.returns-in-Set-clause-exact
returns-in-Set-clause-exact g c = rw (c.in-Set.is, c.divide.ensures.exact, c.scale_up-scaled.ensures.exact, c.from.ensures) (rounded_again _ (2 ^ g.row.F) c.args.place (pow_pos g.row.F))
