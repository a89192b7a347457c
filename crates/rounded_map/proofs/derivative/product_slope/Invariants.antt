use Rattle.std.proofs.Common.{◌≡◌, [], drop, map, Some}
use Rattle.class_system.specs.Views.{number}
use Rattle.series_bounds.specs.Lists.{added_up, total_up}
use Rattle.rounded_map.specs.RoundedMap.{value_at}
use Rattle.rounded_map.specs.Derivative.{replaced_products}
use Rattle.rounded_map.proofs.derivative.product_slope.Given as goal

-- the sum so far, with the further products added, is the whole sum
abbrev pub invariant-loop-place : goal.invariant-loop-place
invariant-loop-place g l = added_up l.sum (drop l.place (replaced_products g.row.F [] (map (value_at (map Some l.values)) (map number l.parts)) (map (value_at l.before) (map number l.parts)))) ≡ total_up (replaced_products g.row.F [] (map (value_at (map Some l.values)) (map number l.parts)) (map (value_at l.before) (map number l.parts)))
