use Rattle.bz_laws.proofs.Leaves.{class-into-within, class-from-within, class-none-within}
use Rattle.bz_laws.proofs.Samples.{AboveBy-weaker, BelowBy-weaker, above-none}
use Rattle.bz_laws.proofs.by_height.a_reference_takes_one_height.Goals as goal

pub returns-clause-into : goal.returns-clause-into
returns-clause-into c = λ s h e k body o node at b. class-into-within s h e k body node at o b

pub returns-clause-from : goal.returns-clause-from
returns-clause-from c = λ s h e k body o node at b. class-from-within s h e k body node at o b

pub returns-clause-none : goal.returns-clause-none
returns-clause-none c = λ s e k o node. class-none-within s e k node o

pub returns-clause-above : goal.returns-clause-above
returns-clause-above c = λ s x f h e k body node at up. AboveBy-weaker (class-from-within s h e k body node at) up

pub returns-clause-above_none : goal.returns-clause-above_none
returns-clause-above_none c = λ s x f e k node. above-none (class-none-within s e k node)

pub returns-clause-below : goal.returns-clause-below
returns-clause-below c = λ s x f h e k body node at down. BelowBy-weaker (class-into-within s h e k body node at) down
