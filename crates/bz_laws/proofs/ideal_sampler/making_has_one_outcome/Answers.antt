use Rattle.bz_laws.proofs.Outcomes.{one_outcome}
use Rattle.bz_laws.proofs.ideal_sampler.making_has_one_outcome.Goals as goal

pub returns : goal.returns
returns c = λ s x e room us left rest m n h k. one_outcome s x h k
