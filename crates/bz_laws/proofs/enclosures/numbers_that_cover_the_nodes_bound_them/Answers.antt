use Rattle.bz_laws.proofs.Values.{covers-belongs, covers-height, covers-height_zero}
use Rattle.bz_laws.proofs.enclosures.numbers_that_cover_the_nodes_bound_them.Goals as goal

pub returns-clause-belongs : goal.returns-clause-belongs
returns-clause-belongs c = λ s x told entry value sound cover up e t. covers-belongs s sound.below x entry value told cover up e t

pub returns-clause-height : goal.returns-clause-height
returns-clause-height c = λ s x h told entry value sound cover up e t. covers-height s sound.below x entry value told cover h up e t

pub returns-clause-height_zero : goal.returns-clause-height_zero
returns-clause-height_zero c = λ s x told entry value sound cover e t. covers-height_zero s sound.below x entry value told cover e t
