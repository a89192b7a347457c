-- The walk is on its way, whatever object has the tokens.
use Rattle.std.proofs.Common.{◌≡◌}
use Rattle.object_store.specs.Tokens.{IsOf}
use Rattle.object_store.specs.Walking.{visits_left}
use Rattle.chance_law.specs.Weights.{IsOnTheWay}
use Rattle.chance_law.proofs.chance.weights_of.Given as goal

abbrev pub invariant-visits : goal.invariant-visits
invariant-visits l = record {
  system : l.walk.system ≡ l.system;
  on_the_way : (of : IsOf l.system 0 l.shape.items) → IsOnTheWay l.system l.x of.object l.walk.waiting l.walk.left l.weights;
}

abbrev pub decreases-visits : goal.decreases-visits
decreases-visits l = visits_left l.walk
