-- Neither comes before the other.
use Rattle.certificate.proofs.OneText.{one-bad}
use Rattle.certificate.proofs.laws.first_bad_line_is_one.Goals as goal

pub returns : goal.returns
returns c = λ bytes m n a b. one-bad bytes m n a b
