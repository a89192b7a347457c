use Rattle.well_founded.proofs.Pivots.{ClosedTo}
use Rattle.well_founded.proofs.closure.close.Given as goal

abbrev pub invariant-loop-pivot : goal.invariant-loop-pivot
invariant-loop-pivot l = ClosedTo l.initial.rows l.rows l.pivot
