use Rattle.certificate.proofs.AlikeTests.{alike-verdict, alike-count, alike-lines}
use Rattle.certificate.proofs.laws.alike_certificates_have_one_verdict.Goals as goal

pub returns : goal.returns
returns c = record { verdict = alike-verdict; count = alike-count; lines = alike-lines }
