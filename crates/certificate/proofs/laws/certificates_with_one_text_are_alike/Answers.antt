use Rattle.certificate.proofs.OneMeaning.{texts-alike}
use Rattle.certificate.proofs.laws.certificates_with_one_text_are_alike.Goals as goal

pub returns : goal.returns
returns c = λ bytes a b is are. texts-alike bytes a b is are
