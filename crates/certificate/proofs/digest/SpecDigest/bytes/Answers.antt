-- The array has 32 bytes.
use Rattle.std.proofs.Common.{subst}
use Rattle.certificate.specs.Fields.{IsDigest}
use Rattle.certificate.proofs.digest.SpecDigest.bytes.Goals as goal

pub returns-clause-digest : goal.returns-clause-digest
returns-clause-digest c = subst IsDigest c.self.view_is (record { count = c.self.told; each = c.self.invariant })
