use Rattle.bz_laws.proofs.Counted.{above-upto, below-upto}
use Rattle.bz_laws.proofs.constructions.counted_nodes_up_to_an_option_are_bounded_by_sums.Goals as goal

pub returns-clause-above : goal.returns-clause-above
returns-clause-above c = λ s x a e part low i high node form at kind ranged up. above-upto s x a e part node form at kind low high ranged i up

pub returns-clause-below : goal.returns-clause-below
returns-clause-below c = λ s x a e part low i high node form at kind ranged fits down. below-upto s x a e part node form at kind low high ranged i fits down
