use Rattle.std.proofs.Common.{sym}
use Rattle.fixed_enclosure.proofs.Enclosing.{mul_up-above}
use Rattle.fixed_enclosure.proofs.upper.Hi.mul.Goals as goal

pub returns-clause-upper : goal.returns-clause-upper
returns-clause-upper g c =
    let e = rw (c.from.ensures, c.from-2.ensures, c.power_of_two.ensures.exact) at c.in_ok-v.ensures.exact in
    mul_up-above g.row.F c.args.self.0 c.args.b.0 c.in_ok-v.v (sym e)
