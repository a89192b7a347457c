use Rattle.bz_laws.proofs.Tallest.{above-each-height, below-some-height}
use Rattle.bz_laws.proofs.by_height.bounds_at_each_height_are_bounds.Goals as goal

pub returns-clause-above : goal.returns-clause-above
returns-clause-above c = λ s x f e up. above-each-height s e up

pub returns-clause-below : goal.returns-clause-below
returns-clause-below c = λ s x f e down. below-some-height s e down
