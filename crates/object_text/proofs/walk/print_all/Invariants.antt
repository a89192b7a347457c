-- What is to be done makes the same text with the tokens and labels left.
use Rattle.std.proofs.Common.{ℕ, List, ◌≤◌, ◌-◌, length, drop}
use Rattle.object_text.specs.Printing.{Prints}
use Rattle.object_text.proofs.walk.print_all.Given as goal

abbrev pub invariant-loop-e : goal.invariant-loop-e
invariant-loop-e l = record {
  within : l.place ≤ length l.tokens;
  few : l.used ≤ l.place;
  on : (whole : List ℕ) → Prints l.system whole l.initial.todos l.tokens l.labels l.initial.output → Prints l.system whole l.todos (drop l.place l.tokens) (drop l.used l.labels) l.output;
}

abbrev pub decreases-loop-e : goal.decreases-loop-e
decreases-loop-e l = length l.tokens - l.place
