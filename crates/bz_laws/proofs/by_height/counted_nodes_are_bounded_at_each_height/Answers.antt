use Rattle.bz_laws.proofs.Counted.{above-exactly-at, below-exactly-at, above-upto-at, below-upto-at, above-ranged-at, below-ranged-at, above-counted-at, below-counted-at}
use Rattle.bz_model.specs.Object.{ClassHas}
use Rattle.bz_laws.proofs.by_height.counted_nodes_are_bounded_at_each_height.Goals as goal

pub returns-clause-above_exactly : goal.returns-clause-above_exactly
returns-clause-above_exactly c = λ s x a h e part k node form at kind up. above-exactly-at s (ClassHas s h) x a part e node form at kind k up

pub returns-clause-below_exactly : goal.returns-clause-below_exactly
returns-clause-below_exactly c = λ s x a h e part k node form at kind within down. below-exactly-at s (ClassHas s h) x a part e node form at kind k within down

pub returns-clause-above_upto : goal.returns-clause-above_upto
returns-clause-above_upto c = λ s x a h e part low i high node form at kind ranged up. above-upto-at s (ClassHas s h) x a part e node form at kind low high ranged i up

pub returns-clause-below_upto : goal.returns-clause-below_upto
returns-clause-below_upto c = λ s x a h e part low i high node form at kind ranged fits down. below-upto-at s (ClassHas s h) x a part e node form at kind low high ranged i fits down

pub returns-clause-above_ranged : goal.returns-clause-above_ranged
returns-clause-above_ranged c = λ s x a h e part low high node form at kind ranged up. above-ranged-at s (ClassHas s h) x a part e node form at kind low high ranged up

pub returns-clause-below_ranged : goal.returns-clause-below_ranged
returns-clause-below_ranged c = λ s x a h e part low high node form at kind ranged down. below-ranged-at s (ClassHas s h) x a part e node form at kind low high ranged down

pub returns-clause-above_all : goal.returns-clause-above_all
returns-clause-above_all c = λ s x a f h e part low high node form at kind ranged sums up. above-counted-at s (ClassHas s h) x a part e node form at kind low high ranged sums up

pub returns-clause-below_all : goal.returns-clause-below_all
returns-clause-below_all c = λ s x a h e part low n node form at kind ranged down. below-counted-at s (ClassHas s h) x a part e node form at kind low n ranged down
