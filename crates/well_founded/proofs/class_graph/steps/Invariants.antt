use Rattle.well_founded.proofs.StepRows.{RowsTo}
use Rattle.well_founded.proofs.class_graph.steps.Given as goal

abbrev pub invariant-loop-body : goal.invariant-loop-body
invariant-loop-body l = RowsTo l.sets l.bodies l.rows.items l.body-index
