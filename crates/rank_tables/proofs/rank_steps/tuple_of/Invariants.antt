use Rattle.std.proofs.Common.{map, drop}
use Rattle.class_system.specs.Views.{number}
use Rattle.rank_tables.specs.Grids.{number_at}
use Rattle.rank_tables.proofs.StackTold.{TupleTold}
use Rattle.rank_tables.proofs.rank_steps.tuple_of.Given as goal

abbrev pub invariant-loop-i : goal.invariant-loop-i
invariant-loop-i l = TupleTold (number_at l.counts) (drop l.i (map number l.parts)) (drop l.i l.objects) l.whole
