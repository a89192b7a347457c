use Rattle.std.proofs.Common.{◌≡◌, ◌++◌, take, drop, map}
use Rattle.class_system.specs.Views.{number}
use Rattle.rounded_map.specs.RoundedMap.{at_each, lesser, value_at}
use Rattle.rounded_map.proofs.upper.lower_entries.Given as goal

-- the entries so far, and the lesser of each further one and its body's value, are the whole
abbrev pub invariant-loop-c : goal.invariant-loop-c
invariant-loop-c l = take l.c l.classes ++ at_each lesser (drop l.c l.classes) (drop l.c (map (value_at l.values) (map number l.bodies))) ≡ at_each lesser l.initial.classes (map (value_at l.values) (map number l.bodies))
