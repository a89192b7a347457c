use Rattle.bz_laws.proofs.Unions.{option-in_range}
use Rattle.bz_laws.proofs.Counted.{option-ranged}
use Rattle.bz_laws.proofs.decisions.options_lie_in_the_range.Goals as goal

pub returns-clause-union : goal.returns-clause-union
returns-clause-union c = λ s e parts o at b. option-in_range s e parts at o b

pub returns-clause-counted : goal.returns-clause-counted
returns-clause-counted c = λ s e part node form o at kind b. option-ranged s e part node form at kind o b
