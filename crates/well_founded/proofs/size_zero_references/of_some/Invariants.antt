use Rattle.well_founded.proofs.Pointed.{JoinsSome}
use Rattle.well_founded.proofs.size_zero_references.of_some.Given as goal

abbrev pub invariant-loop-part : goal.invariant-loop-part
invariant-loop-part l = JoinsSome l.sets l.parts l.set l.part-index
