use Rattle.std.proofs.Common.{ℕ, ◌<◌, map}
use Rattle.std.specs.Prelude.{slice_index}
use Rattle.class_system.specs.Views.{number}
use Rattle.rounded_map.specs.RoundedMap.{value_at}
use Rattle.rounded_map.specs.Contracting.{IsLess}
use Rattle.rounded_map.proofs.contraction.test_slopes.Given as goal

-- the bodies so far have derivatives that are less than their classes' weights
abbrev pub invariant-loop-c : goal.invariant-loop-c
invariant-loop-c l = (c : ℕ) → c < l.c → IsLess (value_at (map (value_at l.derivatives) (map number l.bodies)) c) (slice_index l.weights c)
