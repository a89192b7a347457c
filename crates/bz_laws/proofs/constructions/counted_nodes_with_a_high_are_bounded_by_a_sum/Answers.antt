use Rattle.bz_laws.proofs.Counted.{above-ranged, below-ranged}
use Rattle.bz_laws.proofs.constructions.counted_nodes_with_a_high_are_bounded_by_a_sum.Goals as goal

pub returns-clause-above : goal.returns-clause-above
returns-clause-above c = λ s x a e part low high node form at kind ranged up. above-ranged s x a e part node form at kind low high ranged up

pub returns-clause-below : goal.returns-clause-below
returns-clause-below c = λ s x a e part low high node form at kind ranged down. below-ranged s x a e part node form at kind low high ranged down
