-- The nodes from i on stand in front, and each has taken one of the spare places.
use Rattle.std.proofs.Common.{◌≡◌, ◌+◌, ◌≤◌, ◌++◌, map, length, drop}
use Rattle.class_system.specs.Views.{number}
use Rattle.object_store.proofs.pending.Pending.push_all.Given as goal

abbrev pub invariant-loop-i : goal.invariant-loop-i
invariant-loop-i l = record {
  items : l.self.items ≡ map number (drop l.i l.nodes) ++ l.initial.self.items;
  spare : l.initial.self.spare + l.i ≤ l.self.spare + length l.nodes;
}
