use Rattle.rank_tables.specs.Grids.{number_at}
use Rattle.rank_tables.proofs.Replaced.{IsUnderWay}
use Rattle.rank_tables.proofs.unranking.made.Given as goal

abbrev pub invariant-steps : goal.invariant-steps
invariant-steps l = IsUnderWay l.system l.counts.sizes (number_at l.counts) l.fn.task l.tasks l.shape.items
