use Rattle.std.proofs.Common.{◌≡◌, ◌++◌, drop}
use Rattle.pointing.proofs.tasks.Tasks.push_all.Given as goal

abbrev pub invariant-loop-i : goal.invariant-loop-i
invariant-loop-i l = l.self ≡ drop l.i l.tasks ++ l.initial.self
