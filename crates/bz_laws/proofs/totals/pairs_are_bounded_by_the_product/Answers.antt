use native.Mathlib.Decide.{ℕ_discrete}
use Rattle.bz_laws.proofs.Pairs.{above-pairs, below-pairs}
use Rattle.bz_model.specs.Measures.{weight}
use Rattle.bz_model.specs.Object.{Object-discrete}
use Rattle.bz_laws.proofs.totals.pairs_are_bounded_by_the_product.Goals as goal

pub returns-clause-above : goal.returns-clause-above
returns-clause-above c = λ s x f g d e a b. above-pairs (weight x) (weight x) (Object-discrete ℕ_discrete) a b

pub returns-clause-below : goal.returns-clause-below
returns-clause-below c = λ s x f g d e a b. below-pairs (weight x) (weight x) a b
