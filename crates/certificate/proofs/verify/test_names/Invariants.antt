use Rattle.certificate.proofs.BaseTests.{Agree}
use Rattle.certificate.proofs.verify.test_names.Given as goal

-- the names so far are those of the classes
abbrev pub invariant-loop-class : goal.invariant-loop-class
invariant-loop-class l = Agree l.names l.system.names l.class
