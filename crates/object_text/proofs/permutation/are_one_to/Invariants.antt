-- The labels that are left are free just where all are.
use Rattle.object_text.proofs.Marks.{Marking}
use Rattle.object_text.proofs.permutation.are_one_to.Given as goal

abbrev pub invariant-loop-label : goal.invariant-loop-label
invariant-loop-label l = Marking l.initial.seen.items l.labels l.label-index l.seen.items
