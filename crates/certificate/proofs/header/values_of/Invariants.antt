-- The first values are there.
use Rattle.std.proofs.Common.{◌≡◌, take}
use Rattle.certificate.proofs.header.values_of.Given as goal

abbrev pub invariant-loop-value : goal.invariant-loop-value
invariant-loop-value l = l.values ≡ take l.value-index l.base
