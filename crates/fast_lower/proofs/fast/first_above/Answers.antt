use Rattle.std.proofs.Common.{arith}
use Rattle.fast_lower.proofs.ClassByClass.{at_most-each}
use Rattle.fast_lower.proofs.fast.first_above.Goals as goal

pub returns-clause-none : goal.returns-clause-none
returns-clause-none c = at_most-each c.args.low.now c.args.other.now c.requires.lengths (λ p below. c.loop-c.invariant p (omega arith))
