use Rattle.certificate.proofs.Complete.{complete}
use Rattle.certificate.proofs.laws.what_a_drawing_prints_is_valid.Goals as goal

pub returns : goal.returns
returns c = λ s F cert sound of. complete s F cert sound of
