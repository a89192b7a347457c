-- The entries so far pass.
use Rattle.std.proofs.Common.{length}
use Rattle.certificate.proofs.Parts.{EntriesRead}
use Rattle.certificate.proofs.read.read_entries.Given as goal

abbrev pub invariant-entries : goal.invariant-entries
invariant-entries l = EntriesRead l.fn.text l.entries l.rest

abbrev pub decreases-entries : goal.decreases-entries
decreases-entries l = length l.rest
