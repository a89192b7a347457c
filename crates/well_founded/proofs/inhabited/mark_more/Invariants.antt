use Rattle.std.proofs.Common.{IsTrue}
use Rattle.well_founded.proofs.Marked.{Widened}
use Rattle.well_founded.proofs.inhabited.mark_more.Given as goal

abbrev pub invariant-loop-e : goal.invariant-loop-e
invariant-loop-e l = Widened l.system (IsTrue l.atoms) l.initial.marks l.marks l.marked l.e
