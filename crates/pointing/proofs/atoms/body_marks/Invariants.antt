use Rattle.std.proofs.Common.{◌≡◌, take, map}
use Rattle.class_system.specs.Views.{number}
use Rattle.well_founded.specs.EmptyObjects.{answer_at}
use Rattle.pointing.proofs.atoms.body_marks.Given as goal

abbrev pub invariant-loop-body : goal.invariant-loop-body
invariant-loop-body l = l.marks.items ≡ map (answer_at l.nodes) (map number (take l.body-index l.body-items))
