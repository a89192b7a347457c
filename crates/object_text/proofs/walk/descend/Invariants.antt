-- The same is printed, and the way down is as long as the counter says.
use Rattle.object_store.proofs.Descent.{Descent}
use Rattle.object_text.specs.Printing.{Goes, nodes_of}
use Rattle.object_text.proofs.walk.descend.Given as goal

abbrev pub invariant-loop-e : goal.invariant-loop-e
invariant-loop-e l = record {
  goes : Goes l.system l.initial.todos l.initial.output l.todos l.output;
  descent : Descent l.system (nodes_of l.initial.todos) (nodes_of l.todos) l.left;
}

abbrev pub decreases-loop-e : goal.decreases-loop-e
decreases-loop-e l = l.left
