use Rattle.well_founded.proofs.Firsts.{EachBelow}
use Rattle.well_founded.proofs.examination.first_without_object.Given as goal

abbrev pub invariant-loop-c : goal.invariant-loop-c
invariant-loop-c l = EachBelow l.system l.c
