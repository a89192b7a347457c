use Rattle.std.proofs.Common.{◌≡◌, ◌++◌, length}
use Rattle.rank_tables.proofs.places_stack.PlacesStack.take.Given as goal

abbrev pub invariant-loop-i : goal.invariant-loop-i
invariant-loop-i l = record {
  items : l.initial.self ≡ l.taken.items ++ l.self;
  long : length l.taken.items ≡ l.i;
}
