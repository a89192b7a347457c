use Rattle.object_store.specs.Tokens.{IsOf}
use Rattle.object_store.specs.Walking.{visits_left}
use Rattle.rank_tables.proofs.Walked.{IsWalked}
use Rattle.rank_tables.proofs.rank_steps.steps_of.Given as goal

abbrev pub invariant-nodes : goal.invariant-nodes
invariant-nodes l = (shape : IsOf l.system 0 l.shape.items) × IsWalked l.system shape.body shape.object l.walk l.steps.items

abbrev pub decreases-nodes : goal.decreases-nodes
decreases-nodes l = visits_left l.walk
