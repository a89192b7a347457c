use Rattle.std.proofs.Common.{◌^◌}
use Rattle.series_bounds.proofs.Halves.{divided_again}
use Rattle.count_draw.proofs.terms.carry_down.Goals as goal

pub returns-in-Set-clause-exact : goal.returns-in-Set-clause-exact
returns-in-Set-clause-exact g c = rw (c.in-Set.is, c.in_ok-scaled.ensures.same, c.from.ensures, c.from-2.ensures) (divided_again _ (2 ^ g.row.F) c.args.place)
