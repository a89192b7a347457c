use Rattle.bz_laws.proofs.Readings.{printed_again}
use Rattle.bz_laws.proofs.object_texts.a_canonical_text_is_printed_again.Goals as goal

pub returns : goal.returns
returns c = λ s e text o p labels others b plain a k. printed_again s plain e text o p labels others b a k
