use Rattle.object_store.specs.Walking.{visits_left}
use Rattle.pointing.proofs.UnmarkWalk.{IsUnmarking}
use Rattle.pointing.proofs.unmarking.without_mark.Given as goal

abbrev pub invariant-visits : goal.invariant-visits
invariant-visits l = IsUnmarking l.system l.pointed l.shape.items l.walk l.unmarking

abbrev pub decreases-visits : goal.decreases-visits
decreases-visits l = visits_left l.walk
