-- Only what needs no token was done.
use Rattle.std.proofs.Common.{length}
use Rattle.object_text.specs.Printing.{PassesFreely}
use Rattle.object_text.proofs.walk.next_node.Given as goal

abbrev pub invariant-loop-todo : goal.invariant-loop-todo
invariant-loop-todo l = PassesFreely l.initial.todos l.initial.output l.todos l.output

abbrev pub decreases-loop-todo : goal.decreases-loop-todo
decreases-loop-todo l = length l.todos
