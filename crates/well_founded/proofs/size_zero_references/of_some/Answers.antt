use Rattle.std.proofs.Common.{arith}
use Rattle.well_founded.proofs.Pointed.{joins-start, joins-more, joins-all}
use Rattle.well_founded.proofs.size_zero_references.of_some.Goals as goal

pub loop-part-init : goal.loop-part-init
loop-part-init c = joins-start _ _ _ c.empty-set.ensures

pub loop-part-preserved : goal.loop-part-preserved
loop-part-preserved c = joins-more _ _ _ _ _ _ (record { 0 = 0 }) c.loop-part.invariant c.loop-part-test.true c.set_of.ensures c.union-set.ensures

pub returns : goal.returns
returns c = joins-all _ _ _ _ (omega arith) c.loop-part.invariant
