use Rattle.bz_laws.proofs.First.{none-upto}
use Rattle.bz_laws.proofs.Samples.{above-none}
use Rattle.bz_laws.proofs.constructions.nothing_is_up_to_an_option_below_the_low.Goals as goal

pub returns-clause-none : goal.returns-clause-none
returns-clause-none c = λ s e part low i high node form o at kind ranged lt. none-upto s e part low high node form at kind ranged i lt o

pub returns-clause-above : goal.returns-clause-above
returns-clause-above c = λ s x f e part low i high node form at kind ranged lt. above-none (λ o h. none-upto s e part low high node form at kind ranged i lt o h)
