use Rattle.bz_laws.proofs.Unions.{above-union, below-union, above-upto, below-upto}
use Rattle.bz_laws.proofs.Bounds.{below-lower, above-higher, units_sum, units_sum'}
use Rattle.std.proofs.Common.{take, suc, sum_by}
use Rattle.bz_model.specs.Fraction.{units}
use Rattle.bz_model.specs.Totals.{total_by}
use Rattle.bz_model.specs.Ideal.{Upto}
use Rattle.bz_laws.proofs.constructions.unions_are_bounded_by_their_parts.Goals as goal

pub returns-clause-above : goal.returns-clause-above
returns-clause-above c = λ s x e parts value node h. above-union s x e parts node value h

pub returns-clause-below : goal.returns-clause-below
returns-clause-below c = λ s x e parts value node h. below-union s x e parts node value h

pub returns-clause-above_upto : goal.returns-clause-above_upto
returns-clause-above_upto c = λ s x F e i parts hi node h. above-higher x (total_by (λ p. units F (hi p)) (take (suc i) parts)) (units F (sum_by hi (take (suc i) parts))) (Upto s e i) (units_sum' F hi (take (suc i) parts)) (above-upto s x e parts node (λ p. units F (hi p)) i h)

pub returns-clause-below_upto : goal.returns-clause-below_upto
returns-clause-below_upto c = λ s x F e i parts lo node h. below-lower x (total_by (λ p. units F (lo p)) (take (suc i) parts)) (units F (sum_by lo (take (suc i) parts))) (Upto s e i) (units_sum F lo (take (suc i) parts)) (below-upto s x e parts node (λ p. units F (lo p)) i h)
