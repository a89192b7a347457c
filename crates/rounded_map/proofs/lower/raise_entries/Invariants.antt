use Rattle.std.proofs.Common.{◌≡◌, ◌++◌, take, drop, map, max}
use Rattle.std.specs.Prelude.{slice_index}
use Rattle.class_system.specs.Views.{number}
use Rattle.rounded_map.specs.RoundedMap.{at_each}
use Rattle.rounded_map.proofs.lower.raise_entries.Given as goal

-- the entries so far, and the greater of each further one and its body's value, are the whole
abbrev pub invariant-loop-c : goal.invariant-loop-c
invariant-loop-c l = take l.c l.classes ++ at_each max (drop l.c l.classes) (drop l.c (map (slice_index l.values) (map number l.bodies))) ≡ at_each max l.initial.classes (map (slice_index l.values) (map number l.bodies))
