use Rattle.std.proofs.Common.{arith}
use Rattle.well_founded.proofs.Pivots.{closed-start, closed-more, closed-all}
use Rattle.well_founded.proofs.closure.close.Goals as goal

pub loop-pivot-init : goal.loop-pivot-init
loop-pivot-init c = closed-start _

pub loop-pivot-preserved : goal.loop-pivot-preserved
loop-pivot-preserved c = closed-more _ _ _ _ c.loop-pivot.invariant c.pass.ensures

pub returns : goal.returns
returns c = closed-all _ _ _ (omega arith) c.loop-pivot.invariant
