use Rattle.well_founded.proofs.Passed.{PassedTo}
use Rattle.well_founded.proofs.size_zero_references.under.Given as goal

abbrev pub invariant-loop-e : goal.invariant-loop-e
invariant-loop-e l = PassedTo l.system l.sets.items l.e
