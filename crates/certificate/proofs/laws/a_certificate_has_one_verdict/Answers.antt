use Rattle.certificate.specs.Checks.{checks}
use Rattle.certificate.proofs.Chains.{one-verdict}
use Rattle.certificate.proofs.laws.a_certificate_has_one_verdict.Goals as goal

pub returns : goal.returns
returns c = λ s F cert told other h i. one-verdict (checks s F cert) told other h i
