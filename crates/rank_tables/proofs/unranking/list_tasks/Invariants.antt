use Rattle.rank_tables.specs.Grids.{number_at}
use Rattle.rank_tables.proofs.Parting.{ListSoFar}
use Rattle.rank_tables.proofs.unranking.list_tasks.Given as goal

abbrev pub invariant-objects : goal.invariant-objects
invariant-objects l = ListSoFar (number_at l.counts) l.fn.e.0 l.fn.part.0 l.fn.n l.fn.place l.left l.rest l.tasks.items

abbrev pub decreases-objects : goal.decreases-objects
decreases-objects l = l.left
