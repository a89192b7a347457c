use Rattle.bz_laws.proofs.Bounds.{below-max, above-min}
use Rattle.bz_laws.proofs.Samples.{AboveBy-weaker}
use Rattle.bz_model.specs.Object.{Belongs}
use Rattle.bz_model.specs.Ideal.{Upto}
use Rattle.bz_laws.proofs.constructions.the_better_bound_is_a_bound.Goals as goal

pub returns-clause-below : goal.returns-clause-below
returns-clause-below c = λ s x F e a b. below-max x F a b (Belongs s e)

pub returns-clause-above : goal.returns-clause-above
returns-clause-above c = λ s x F e a b. above-min x F a b (Belongs s e)

pub returns-clause-above_upto : goal.returns-clause-above_upto
returns-clause-above_upto c = λ s x F e i a b h k. above-min x F a b (Upto s e i) h (AboveBy-weaker (λ o m. m.0) k)
