use Rattle.bz_laws.proofs.Leaves.{above-empty-at, below-empty-at, above-atom-at, below-atom-at}
use Rattle.bz_model.specs.Object.{ClassHas}
use Rattle.bz_laws.proofs.by_height.leaves_are_bounded_at_each_height.Goals as goal

pub returns-clause-neutral_above : goal.returns-clause-neutral_above
returns-clause-neutral_above c = λ s x h e word at. above-empty-at s (ClassHas s h) x e word at

pub returns-clause-neutral_below : goal.returns-clause-neutral_below
returns-clause-neutral_below c = λ s x h e word at. below-empty-at s (ClassHas s h) x e word at

pub returns-clause-atom_above : goal.returns-clause-atom_above
returns-clause-atom_above c = λ s x h e word at. above-atom-at s (ClassHas s h) x e word at

pub returns-clause-atom_below : goal.returns-clause-atom_below
returns-clause-atom_below c = λ s x h e word at. below-atom-at s (ClassHas s h) x e word at
