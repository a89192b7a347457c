use Rattle.well_founded.proofs.Pivots.{WidenedBelow}
use Rattle.well_founded.proofs.closure.pass.Given as goal

abbrev pub invariant-loop-row : goal.invariant-loop-row
invariant-loop-row l = WidenedBelow l.initial.rows l.rows l.pivot l.through l.row-index
