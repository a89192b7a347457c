use Rattle.bz_laws.proofs.Decide.{passes}
use Rattle.bz_laws.proofs.Weights.{bound-pos}
use Rattle.bz_laws.proofs.Options.{none_earlier, none_up_to}
use Rattle.bz_model.specs.Object.{Belongs}
use Rattle.std.proofs.Common.{arith}
use Rattle.bz_laws.proofs.decisions.bounds_decide.Goals as goal

pub returns-clause-passes : goal.returns-clause-passes
returns-clause-passes c = λ s x u k b F e i lo hi o p belongs up down h cell. passes s x u k b F e i lo hi (bound-pos x F hi (Belongs s e) o p belongs up) up down h cell

pub returns-clause-fails : goal.returns-clause-fails
returns-clause-fails c = λ s x u k b F e i lo hi down up h cell j le. none_earlier s x u k b F e i lo hi down up h cell j (omega arith)

pub returns-clause-over : goal.returns-clause-over
returns-clause-over c = λ s x u k b F e room lo hi o kn p belongs down up h cell. none_up_to s x u k b F e room lo hi kn p o belongs down up h cell
