use Rattle.std.proofs.Common.{ℕ, ◌<◌, ◌≢◌, map, None}
use Rattle.class_system.specs.Views.{number}
use Rattle.rounded_map.specs.RoundedMap.{value_at}
use Rattle.rounded_map.specs.Derivative.{dual_at}
use Rattle.rounded_map.proofs.derivative.are_there.Given as goal

-- the classes so far have new numbers
abbrev pub invariant-loop-c : goal.invariant-loop-c
invariant-loop-c l = (c : ℕ) → c < l.c → value_at (map (dual_at l.derivatives) (map number l.bodies)) c ≢ None
