use Rattle.bz_laws.proofs.Readings.{one_reading}
use Rattle.bz_laws.proofs.object_texts.a_text_is_that_of_one_object.Goals as goal

pub returns-clause-read : goal.returns-clause-read
returns-clause-read c = λ s e text o p labels others plain a b. one_reading s plain e text o p labels others a b

pub returns-clause-canonical : goal.returns-clause-canonical
returns-clause-canonical c = λ s e text o p labels others plain a b. one_reading s plain e text o p labels others a.read b
