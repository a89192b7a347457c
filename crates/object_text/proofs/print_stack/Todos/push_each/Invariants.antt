-- The nodes after the first, from i on, stand in front.
use Rattle.std.proofs.Common.{◌≡◌, ◌++◌, drop}
use Rattle.object_text.specs.Todos.{spaced_objects}
use Rattle.object_text.proofs.print_stack.Todos.push_each.Given as goal

abbrev pub invariant-loop-i : goal.invariant-loop-i
invariant-loop-i l = l.self ≡ spaced_objects (drop l.i l.later) ++ l.initial.self
