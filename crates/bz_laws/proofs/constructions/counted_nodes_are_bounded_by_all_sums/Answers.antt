use Rattle.bz_laws.proofs.Counted.{above-counted, below-counted}
use Rattle.bz_laws.proofs.constructions.counted_nodes_are_bounded_by_all_sums.Goals as goal

pub returns-clause-above : goal.returns-clause-above
returns-clause-above c = λ s x a f e part low high node form at kind ranged sums up. above-counted s x a e part node form at kind low high ranged sums up

pub returns-clause-below : goal.returns-clause-below
returns-clause-below c = λ s x a e part low n node form at kind ranged down. below-counted s x a e part node form at kind low n ranged down
