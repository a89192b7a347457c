use Rattle.std.proofs.Common.{◌≡◌, take, map, Some}
use Rattle.rounded_map.proofs.upper.copy_values.Given as goal

-- the values so far are copied
abbrev pub invariant-loop-e : goal.invariant-loop-e
invariant-loop-e l = map Some (take l.e l.nodes) ≡ take l.e l.values
