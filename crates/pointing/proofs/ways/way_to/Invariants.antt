use Rattle.std.proofs.Common.{◌≡◌}
use Rattle.object_store.specs.Tokens.{IsOf}
use Rattle.object_store.specs.Walking.{visits_left}
use Rattle.pointing.proofs.Searches.{IsSearching}
use Rattle.pointing.proofs.ways.way_to.Given as goal

abbrev pub invariant-visits : goal.invariant-visits
invariant-visits l = record {
  system : l.walk.system ≡ l.system;
  on : (of : IsOf l.system 0 l.shape.items) → IsSearching l.system of.object l.fn.atom l.walk l.search;
}

abbrev pub decreases-visits : goal.decreases-visits
decreases-visits l = visits_left l.walk
