use Rattle.bz_laws.proofs.LeastHeights.{height-there, height-within, height-one}
use Rattle.bz_laws.proofs.by_height.an_object_has_one_height.Goals as goal

pub returns-clause-there : goal.returns-clause-there
returns-clause-there c = λ s e o b. height-there s e o b

pub returns-clause-within : goal.returns-clause-within
returns-clause-within c = λ s e h k o is. height-within s e o h k is

pub returns-clause-one : goal.returns-clause-one
returns-clause-one c = λ s e h k o a b. height-one s e o h k a b
