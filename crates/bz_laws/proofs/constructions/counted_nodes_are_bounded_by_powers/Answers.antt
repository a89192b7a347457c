use Rattle.bz_laws.proofs.Counted.{above-exactly, below-exactly}
use Rattle.bz_laws.proofs.constructions.counted_nodes_are_bounded_by_powers.Goals as goal

pub returns-clause-above : goal.returns-clause-above
returns-clause-above c = λ s x a e part k node form at kind up. above-exactly s x a e part node form at kind k up

pub returns-clause-below : goal.returns-clause-below
returns-clause-below c = λ s x a e part k node form at kind within down. below-exactly s x a e part node form at kind k within down
