use Rattle.object_store.specs.Walking.{visits_left}
use Rattle.pointing.proofs.MarkWalk.{IsMarking}
use Rattle.pointing.proofs.marking.with_mark.Given as goal

abbrev pub invariant-visits : goal.invariant-visits
invariant-visits l = IsMarking l.system l.shape.items l.places l.walk l.writing

abbrev pub decreases-visits : goal.decreases-visits
decreases-visits l = visits_left l.walk
