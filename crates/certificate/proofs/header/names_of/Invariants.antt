-- The names of the first classes are there.
use Rattle.std.proofs.Common.{◌≡◌, take}
use Rattle.certificate.proofs.header.names_of.Given as goal

abbrev pub invariant-loop-class : goal.invariant-loop-class
invariant-loop-class l = l.names ≡ take l.class l.system.names
