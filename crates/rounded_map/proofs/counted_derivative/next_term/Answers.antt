use Rattle.std.proofs.Common.{◌^◌, pow_pos}
use Rattle.series_bounds.proofs.Halves.{rounded_again}
use Rattle.rounded_map.proofs.counted_derivative.next_term.Goals as goal

pub returns-in-Set : goal.returns-in-Set
returns-in-Set g c = record { exact = rw (c.in-Set.is, c.from.ensures, c.from-2.ensures, c.from-in-Set.ensures, c.from-in-Set-2.ensures, c.power_of_two.ensures.exact) (rounded_again _ (2 ^ g.row.F) c.args.place (pow_pos g.row.F)) }
