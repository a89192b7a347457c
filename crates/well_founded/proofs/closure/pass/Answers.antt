use Rattle.std.proofs.Common.{arith}
use Rattle.well_founded.proofs.Pivots.{passed-start, passed-more, passed-all}
use Rattle.well_founded.proofs.closure.pass.Goals as goal

pub loop-row-init : goal.loop-row-init
loop-row-init c = passed-start _ _ _

pub loop-row-preserved : goal.loop-row-preserved
loop-row-preserved c = passed-more _ _ _ _ _ (record { 0 = 0 }) _ c.loop-row.invariant (omega arith) c.widened.ensures

pub returns : goal.returns
returns c = passed-all _ _ _ (record { 0 = 0 }) _ (omega arith) c.requires.in_range c.loop-row.invariant c.loop-row.auto.rows
