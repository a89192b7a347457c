use Rattle.std.proofs.Common.{arith}
use Rattle.choice_draw.proofs.WholeNumbers.{decides-begin}
use Rattle.choice_draw.proofs.SeenWholes.{short-end}
use Rattle.choice_draw.proofs.whole.decide_short.Goals as goal

pub overflow_mul-option : goal.overflow_mul-option
overflow_mul-option c = omega (arith, short-end c.args.cell.k c.args.cell.b c.args.m c.short_power.result c.requires.cell.below c.requires.short c.requires.within_limit c.short_power.ensures.exact)

pub returns-then-low-m-clause-decided : goal.returns-then-low-m-clause-decided
returns-then-low-m-clause-decided c =
    let test = rw (c.short_power.ensures.exact) at c.if-low-m.true in
    decides-begin c.args.cell.k c.args.cell.b c.args.m (omega arith) (omega (arith, test))
