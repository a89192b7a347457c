use Rattle.std.proofs.Common.{◌+◌, arith, subst, sym}
use Rattle.well_founded.proofs.StepRows.{RowsTo, rows-more, rows-all}
use Rattle.well_founded.proofs.class_graph.steps.Goals as goal

pub loop-body-preserved : goal.loop-body-preserved
loop-body-preserved c = subst (λ xs. RowsTo c.args.sets.now c.args.bodies.now xs (c.loop-body.body-index + 1)) (sym c.in_ok-push.ensures.items) (rows-more _ _ _ _ _ (record { 0 = 0 }) c.loop-body.invariant c.loop-body-test.true c.set_of.ensures)

pub returns-clause-exact : goal.returns-clause-exact
returns-clause-exact c = rows-all _ _ _ _ (omega arith) c.loop-body.invariant
