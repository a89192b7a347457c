use Rattle.std.proofs.Common.{◌≡◌, drop, map}
use Rattle.class_system.specs.Views.{number}
use Rattle.series_bounds.specs.Lists.{added_up}
use Rattle.rounded_map.specs.RoundedMap.{value_at}
use Rattle.rounded_map.proofs.upper.union_hi.Given as goal

abbrev pub invariant-loop-part : goal.invariant-loop-part
invariant-loop-part l = added_up l.sum (map (value_at l.before) (map number (drop l.part-index l.rest))) ≡ added_up l.initial.sum (map (value_at l.before) (map number l.rest))
