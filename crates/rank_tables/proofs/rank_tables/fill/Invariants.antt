use Rattle.rank_tables.proofs.FilledSizes.{AreFilled}
use Rattle.rank_tables.proofs.rank_tables.fill.Given as goal

abbrev pub invariant-loop-n : goal.invariant-loop-n
invariant-loop-n l = AreFilled l.system l.counts l.tails l.sizes l.n
