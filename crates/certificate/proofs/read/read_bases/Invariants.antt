-- The lines so far pass.
use Rattle.std.proofs.Common.{length}
use Rattle.certificate.proofs.Parts.{BasesRead}
use Rattle.certificate.proofs.read.read_bases.Given as goal

abbrev pub invariant-bases : goal.invariant-bases
invariant-bases l = BasesRead l.fn.text l.names l.base l.rest

abbrev pub decreases-bases : goal.decreases-bases
decreases-bases l = length l.rest
