use Rattle.certificate.proofs.DigestBytes.{is-digest}
use Rattle.certificate.proofs.laws.a_digest_is_32_bytes.Goals as goal

pub returns : goal.returns
returns c = is-digest
