use Rattle.rank_tables.proofs.Passed.{PassedTo}
use Rattle.rank_tables.proofs.filling.pass.Given as goal

abbrev pub invariant-loop-e : goal.invariant-loop-e
invariant-loop-e l = PassedTo l.system l.classes l.initial.rows l.initial.tails l.rows l.tails l.fn.n l.e
