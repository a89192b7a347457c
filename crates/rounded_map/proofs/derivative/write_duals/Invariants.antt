use Rattle.std.proofs.Common.{◌≡◌, ◌++◌, take, drop, map}
use Rattle.class_system.specs.Views.{number}
use Rattle.rounded_map.specs.RoundedMap.{at_each}
use Rattle.rounded_map.specs.Derivative.{dual_at}
use Rattle.rounded_map.proofs.Replaced.{replaced}
use Rattle.rounded_map.proofs.derivative.write_duals.Given as goal

-- the numbers so far, and the new one in place of each further one, are the whole
abbrev pub invariant-loop-c : goal.invariant-loop-c
invariant-loop-c l = take l.c l.dual ++ at_each replaced (drop l.c l.dual) (drop l.c (map (dual_at l.derivatives) (map number l.bodies))) ≡ at_each replaced l.initial.dual (map (dual_at l.derivatives) (map number l.bodies))
