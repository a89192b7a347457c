use Rattle.std.proofs.Common.{◌≡◌, drop, map}
use Rattle.class_system.specs.Views.{number}
use Rattle.series_bounds.specs.Lists.{multiplied_up}
use Rattle.rounded_map.specs.RoundedMap.{value_at}
use Rattle.rounded_map.proofs.upper.product_hi.Given as goal

abbrev pub invariant-loop-part : goal.invariant-loop-part
invariant-loop-part g l = multiplied_up g.row.F l.product (map (value_at l.before) (map number (drop l.part-index l.rest))) ≡ multiplied_up g.row.F l.initial.product (map (value_at l.before) (map number l.rest))
