use Rattle.well_founded.proofs.Pointed.{JoinsOne}
use Rattle.well_founded.proofs.size_zero_references.of_one.Given as goal

abbrev pub invariant-loop-part : goal.invariant-loop-part
invariant-loop-part l = JoinsOne l.zero l.sets l.parts l.set l.all_zero l.part-index
