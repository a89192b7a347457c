use Rattle.bz_laws.proofs.Leaves.{above-atom, below-atom}
use Rattle.bz_laws.proofs.constructions.atoms_total_x.Goals as goal

pub returns-clause-above : goal.returns-clause-above
returns-clause-above c = λ s x e word at. above-atom s x e word at

pub returns-clause-below : goal.returns-clause-below
returns-clause-below c = λ s x e word at. below-atom s x e word at
