use Rattle.bz_laws.proofs.Texts.{one_text}
use Rattle.bz_model.specs.ObjectText.{Arrangement}
use Rattle.bz_laws.proofs.object_texts.an_object_has_one_text.Goals as goal

pub returns : goal.returns
returns c = λ s e o labels b c. one_text Arrangement.Canonical s e o labels b c
