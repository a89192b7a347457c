use Rattle.bz_laws.proofs.Values.{reached-belongs}
use Rattle.bz_laws.proofs.enclosures.numbers_that_the_nodes_reach_are_reached.Goals as goal

pub returns : goal.returns
returns c = λ s x entry value sound reach down e lt. reached-belongs s sound.below x entry value reach sound.classes down e lt
