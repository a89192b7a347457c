use Rattle.bz_laws.proofs.Leaves.{class-into, class-from, above-class, below-class}
use Rattle.bz_laws.proofs.constructions.references_have_what_their_bodies_have.Goals as goal

pub returns-clause-into : goal.returns-clause-into
returns-clause-into c = λ s e k body o node at b. class-into s e k body node at o b

pub returns-clause-from : goal.returns-clause-from
returns-clause-from c = λ s e k body o node at b. class-from s e k body node at o b

pub returns-clause-above : goal.returns-clause-above
returns-clause-above c = λ s x f e k body node at up. above-class s x e k body node at up

pub returns-clause-below : goal.returns-clause-below
returns-clause-below c = λ s x f e k body node at down. below-class s x e k body node at down
