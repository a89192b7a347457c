use Rattle.std.proofs.Common.{◌-◌, ◌*◌, ◌/◌, ◌^◌, arith}
use Rattle.std.proofs.Math.Nat.{le_refl}
use Rattle.fixed_enclosure.specs.Rounded.{greatest}
use Rattle.fixed_enclosure.proofs.Quotients.{saturated-le}
use Rattle.fixed_enclosure.proofs.Powers.{one_part, reached_below, reached_from_one, reached-less}
use Rattle.fixed_enclosure.proofs.lower.Lo.seq.Goals as goal

pub returns-then-a-one-clause-lower : goal.returns-then-a-one-clause-lower
returns-then-a-one-clause-lower g c = reached_from_one g.row.F c.args.self.0 greatest greatest (omega arith) (le_refl greatest)

pub overflow_sub-power_of_two : goal.overflow_sub-power_of_two
overflow_sub-power_of_two g c = rw (c.power_of_two.ensures.exact, c.power_of_two-one.ensures.exact, c.from-a.ensures) (one_part g.row.F c.args.self.0 (omega arith))

pub returns-clause-lower : goal.returns-clause-lower
returns-clause-lower g c = rw (c.saturate.ensures.exact, c.power_of_two.ensures.exact, c.power_of_two-one.ensures.exact, c.from-a.ensures) (reached-less g.row.F c.args.self.0 _ (2 ^ (2 * g.row.F) / (2 ^ g.row.F - c.args.self.0) - 1) (saturated-le (2 ^ (2 * g.row.F) / (2 ^ g.row.F - c.args.self.0) - 1)) (reached_below g.row.F c.args.self.0 (omega arith) (omega arith)))
