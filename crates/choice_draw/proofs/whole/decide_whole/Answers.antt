use Rattle.std.proofs.Common.{arith}
use Rattle.choice_draw.proofs.WholeNumbers.{decides-begin, straddles-none}
use Rattle.choice_draw.proofs.whole.decide_whole.Goals as goal

pub returns-then-low-from-clause-decided : goal.returns-then-low-from-clause-decided
returns-then-low-from-clause-decided c =
    let test = rw (c.from.ensures, c.from-2.ensures, c.from-3.ensures, c.power_of_two-width.ensures.exact) at c.if-low-from.true in
    rw (c.from.ensures, c.from-2.ensures) (decides-begin c.args.cell.k c.args.cell.b c.args.m (omega arith) (omega (arith, test)))

pub returns-else-low-from-clause-straddles : goal.returns-else-low-from-clause-straddles
returns-else-low-from-clause-straddles c =
    let test = rw (c.from.ensures, c.from-2.ensures, c.from-3.ensures, c.power_of_two-width.ensures.exact) at c.if-low-from.false in
    straddles-none c.args.cell.k c.args.cell.b c.args.m (omega arith) (omega (arith, test))
