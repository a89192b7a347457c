use Rattle.std.proofs.Common.{◌≡◌, ◌+◌, take, map}
use Rattle.class_system.specs.Views.{number}
use Rattle.well_founded.specs.EmptyObjects.{answer_at}
use Rattle.pointing.specs.PointedForm.{how_many}
use Rattle.pointing.proofs.resolving.marked_part.Given as goal

abbrev pub invariant-loop-i : goal.invariant-loop-i
invariant-loop-i l = how_many (map (answer_at l.marks) (map number (take l.i l.parts))) + l.left ≡ l.choice
