use Rattle.std.proofs.Common.{◌≡◌, ◌++◌, ◌-◌, take, drop}
use Rattle.rounded_map.specs.RoundedMap.{at_each}
use Rattle.newton_upper.proofs.newton.take_units_off.Given as goal

-- the entries so far, and each further one less 256 units, are the whole
abbrev pub invariant-loop-c : goal.invariant-loop-c
invariant-loop-c l = take l.c l.entries ++ at_each (λ a b. a - 256) (drop l.c l.entries) (drop l.c l.initial.entries) ≡ at_each (λ a b. a - 256) l.initial.entries l.initial.entries
