-- The tokens left are asked of the nodes that wait.
use Rattle.std.proofs.Common.{◌≡◌, ◌↔◌}
use Rattle.object_store.specs.Tokens.{AreOf}
use Rattle.object_store.specs.Walking.{visits_left}
use Rattle.object_store.proofs.shape.Shape.is_of.Given as goal

abbrev pub invariant-visits : goal.invariant-visits
invariant-visits l = record {
  system : l.walk.system ≡ l.system;
  same : AreOf l.system l.initial.walk.waiting l.initial.walk.left ↔ AreOf l.system l.walk.waiting l.walk.left;
}

abbrev pub decreases-visits : goal.decreases-visits
decreases-visits l = visits_left l.walk
