use Rattle.bz_laws.proofs.Unions.{above-union-at, below-union-at, above-upto-at, below-upto-at}
use Rattle.bz_model.specs.Object.{ClassHas}
use Rattle.bz_laws.proofs.by_height.unions_are_bounded_at_each_height.Goals as goal

pub returns-clause-above : goal.returns-clause-above
returns-clause-above c = λ s x h e parts value at b. above-union-at s (ClassHas s h) x e parts at value b

pub returns-clause-below : goal.returns-clause-below
returns-clause-below c = λ s x h e parts value at b. below-union-at s (ClassHas s h) x e parts at value b

pub returns-clause-above_upto : goal.returns-clause-above_upto
returns-clause-above_upto c = λ s x h e i parts value at b. above-upto-at s (ClassHas s h) x e parts at value i b

pub returns-clause-below_upto : goal.returns-clause-below_upto
returns-clause-below_upto c = λ s x h e i parts value at b. below-upto-at s (ClassHas s h) x e parts at value i b
