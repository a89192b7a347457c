use Rattle.std.proofs.Common.{◌≡◌, ◌≤◌, take}
use Rattle.pointing.specs.PointedForm.{how_many}
use Rattle.pointing.proofs.atoms.count_first.Given as goal

abbrev pub invariant-loop-mark : goal.invariant-loop-mark
invariant-loop-mark l = record {
  counted : l.count ≡ how_many (take l.mark-index l.mark-items);
  few : l.count ≤ l.mark-index;
}
