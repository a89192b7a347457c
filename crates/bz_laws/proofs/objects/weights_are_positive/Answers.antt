use Rattle.bz_laws.proofs.Weights.{weight-pos}
use Rattle.bz_laws.proofs.Inhabited.{above-pos}
use Rattle.bz_model.specs.Object.{Belongs}
use Rattle.bz_laws.proofs.objects.weights_are_positive.Goals as goal

pub returns-clause-weight : goal.returns-clause-weight
returns-clause-weight c = λ x o p. weight-pos x p o

pub returns-clause-above : goal.returns-clause-above
returns-clause-above c = λ s x f e o p b up. above-pos x f (Belongs s e) o p b up
