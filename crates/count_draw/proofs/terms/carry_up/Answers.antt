use Rattle.std.proofs.Common.{◌^◌, pow_pos}
use Rattle.series_bounds.proofs.Halves.{rounded_again}
use Rattle.count_draw.proofs.terms.carry_up.Goals as goal

pub returns-in-Set-clause-exact : goal.returns-in-Set-clause-exact
returns-in-Set-clause-exact g c = rw (c.in-Set.is, c.in_ok-scaled.ensures.same, c.from.ensures, c.from-2.ensures, c.power_of_two.ensures.exact) (rounded_again _ (2 ^ g.row.F) c.args.place (pow_pos g.row.F))
