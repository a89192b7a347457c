use Rattle.std.proofs.Common.{drop}
use Rattle.rank_tables.specs.Grids.{number_at}
use Rattle.rank_tables.proofs.StackTold.{ListTold}
use Rattle.rank_tables.proofs.rank_steps.list_of.Given as goal

abbrev pub invariant-loop-i : goal.invariant-loop-i
invariant-loop-i l = ListTold (number_at l.counts) l.fn.e.0 l.fn.part.0 (drop l.i l.objects) l.whole
