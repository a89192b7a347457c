-- The nodes from i on stand in front.
use Rattle.std.proofs.Common.{◌≡◌, ◌++◌, drop}
use Rattle.object_text.specs.Expected.{expected_parts}
use Rattle.object_text.proofs.parse_stack.Stack.push_parts.Given as goal

abbrev pub invariant-loop-i : goal.invariant-loop-i
invariant-loop-i l = l.self ≡ expected_parts (drop l.i l.nodes) ++ l.initial.self
