use Rattle.std.proofs.Common.{arith, sym}
use Rattle.fixed_enclosure.proofs.Powers.{above_quotient}
use Rattle.fixed_enclosure.proofs.upper.Hi.seq.Goals as goal

pub returns-clause-upper : goal.returns-clause-upper
returns-clause-upper g c =
    let e = rw (c.divide_up.ensures.exact, c.power_of_two.ensures.exact, c.power_of_two-one.ensures.exact, c.from-a.ensures) at c.in_ok-v.ensures.exact in
    above_quotient g.row.F c.args.self.0 c.in_ok-v.v (omega arith) (sym e)
