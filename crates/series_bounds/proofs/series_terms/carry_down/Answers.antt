use Rattle.series_bounds.proofs.Halves.{divided_again}
use Rattle.std.proofs.Common.{◌^◌}
use Rattle.series_bounds.proofs.series_terms.carry_down.Goals as goal

pub returns-in-Set : goal.returns-in-Set
returns-in-Set g c = record { exact = rw (c.in-Set.is, c.divide.ensures.exact, c.scale_down-scaled.ensures.exact) (divided_again _ (2 ^ g.row.F) c.args.place) }
