use Rattle.std.proofs.Common.{map}
use Rattle.class_system.specs.Views.{number}
use Rattle.rank_tables.specs.Grids.{number_at}
use Rattle.rank_tables.proofs.Parting.{TupleSoFar}
use Rattle.rank_tables.proofs.unranking.tuple_tasks.Given as goal

abbrev pub invariant-loop-i : goal.invariant-loop-i
invariant-loop-i l = TupleSoFar (number_at l.counts) (map number l.parts) l.fn.n l.fn.place l.i l.left l.rest l.tasks.items
