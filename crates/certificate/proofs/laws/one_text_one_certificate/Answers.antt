-- Line by line.
use Rattle.certificate.proofs.OneText.{same-lines}
use Rattle.certificate.proofs.laws.one_text_one_certificate.Goals as goal

pub returns : goal.returns
returns c = λ a b is r are q e. same-lines a b is r are q e
