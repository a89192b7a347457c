use Rattle.pointing.proofs.TaskSteps.{IsUnderWay}
use Rattle.pointing.proofs.building.lay_out.Given as goal

abbrev pub invariant-tasks : goal.invariant-tasks
invariant-tasks l = IsUnderWay l.system l.classes l.initial.layout l.tasks l.layout
