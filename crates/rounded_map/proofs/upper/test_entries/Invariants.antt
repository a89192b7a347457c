use Rattle.std.proofs.Common.{ℕ, ◌<◌, map, Some}
use Rattle.std.specs.Prelude.{slice_index}
use Rattle.class_system.specs.Views.{number}
use Rattle.fixed_enclosure.specs.UpperValues.{IsNoGreater}
use Rattle.rounded_map.specs.RoundedMap.{value_at}
use Rattle.rounded_map.proofs.upper.test_entries.Given as goal

-- the bodies so far have values that are at most their classes' entries
abbrev pub invariant-loop-c : goal.invariant-loop-c
invariant-loop-c l = (c : ℕ) → c < l.c → IsNoGreater (value_at (map (value_at l.values) (map number l.bodies)) c) (Some (slice_index l.classes c))
