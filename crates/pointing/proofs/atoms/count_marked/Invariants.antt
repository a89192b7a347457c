use Rattle.std.proofs.Common.{◌≡◌, ◌≤◌, take, map}
use Rattle.class_system.specs.Views.{number}
use Rattle.well_founded.specs.EmptyObjects.{answer_at}
use Rattle.pointing.specs.PointedForm.{how_many}
use Rattle.pointing.proofs.atoms.count_marked.Given as goal

abbrev pub invariant-loop-part : goal.invariant-loop-part
invariant-loop-part l = record {
  counted : l.count ≡ how_many (map (answer_at l.marks) (map number (take l.part-index l.parts)));
  few : l.count ≤ l.part-index;
}
