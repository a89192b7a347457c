use Rattle.bz_laws.proofs.Bounds.{above-higher, below-lower}
use Rattle.bz_model.specs.Object.{Belongs}
use Rattle.bz_model.specs.Ideal.{Upto}
use Rattle.bz_laws.proofs.order.bounds_pass_on.Goals as goal

pub returns-clause-above : goal.returns-clause-above
returns-clause-above c = λ s x f g e le up. above-higher x f g (Belongs s e) le up

pub returns-clause-below : goal.returns-clause-below
returns-clause-below c = λ s x f g e le down. below-lower x f g (Belongs s e) le down

pub returns-clause-above_upto : goal.returns-clause-above_upto
returns-clause-above_upto c = λ s x f g e i le up. above-higher x f g (Upto s e i) le up

pub returns-clause-below_upto : goal.returns-clause-below_upto
returns-clause-below_upto c = λ s x f g e i le down. below-lower x f g (Upto s e i) le down
