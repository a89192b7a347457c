use Rattle.std.proofs.Common.{◌≡◌, ◌++◌, ◌-◌, take, drop}
use Rattle.rounded_map.specs.RoundedMap.{at_each}
use Rattle.newton_upper.proofs.newton.take_entries_off.Given as goal

-- the entries so far, and the further ones less those of the other vector, are the whole
abbrev pub invariant-loop-c : goal.invariant-loop-c
invariant-loop-c l = take l.c l.entries ++ at_each (λ a b. a - b) (drop l.c l.entries) (drop l.c l.others) ≡ at_each (λ a b. a - b) l.initial.entries l.others
