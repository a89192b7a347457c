use Rattle.bz_laws.proofs.Sweeps.{below-zero, lower-swept}
use Rattle.bz_model.specs.Object.{Belongs}
use Rattle.bz_laws.proofs.enclosures.lower_sweeps_from_zero_are_reached.Goals as goal

pub returns-clause-zero : goal.returns-clause-zero
returns-clause-zero c = λ s x F e. below-zero x F (Belongs s e)

pub returns-clause-swept : goal.returns-clause-swept
returns-clause-swept c = λ s x F entry value sound sweeps n k body at. lower-swept s sound x F entry value sweeps n k body at
