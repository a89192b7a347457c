use Rattle.bz_laws.proofs.Leaves.{above-empty, below-empty}
use Rattle.bz_laws.proofs.constructions.neutral_leaves_total_one.Goals as goal

pub returns-clause-above : goal.returns-clause-above
returns-clause-above c = λ s x e word at. above-empty s x e word at

pub returns-clause-below : goal.returns-clause-below
returns-clause-below c = λ s x e word at. below-empty s x e word at
