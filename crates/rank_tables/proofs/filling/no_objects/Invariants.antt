use Rattle.std.proofs.Common.{◌≡◌, Some, replicate}
use Rattle.rank_tables.proofs.filling.no_objects.Given as goal

abbrev pub invariant-loop-c : goal.invariant-loop-c
invariant-loop-c l = l.numbers.items ≡ replicate l._c (Some 0)
