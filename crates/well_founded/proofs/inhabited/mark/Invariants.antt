use Rattle.std.proofs.Common.{◌≡◌, ℕ, length, IsTrue}
use Rattle.well_founded.specs.Foundedness.{Least}
use Rattle.well_founded.specs.Marking.{IsMarked, unmarked_count}
use Rattle.well_founded.proofs.inhabited.mark.Given as goal

abbrev pub invariant-loop : goal.invariant-loop
invariant-loop l = record {
  one_per_node : length l.marks.items ≡ length l.system.nodes;
  right : (e : ℕ) → IsMarked l.marks.items e → Least l.system (IsTrue l.atoms) e;
}

abbrev pub decreases-loop : goal.decreases-loop
decreases-loop l = unmarked_count l.marks.items
