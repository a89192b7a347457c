use Rattle.std.proofs.Common.{◌≡◌, drop, set, map, Some}
use Rattle.class_system.specs.Views.{number}
use Rattle.series_bounds.specs.Lists.{multiplied_up, product_up}
use Rattle.rounded_map.specs.RoundedMap.{value_at}
use Rattle.rounded_map.proofs.derivative.replaced_product.Given as goal

-- the product so far, with the further factors multiplied, is the whole product
abbrev pub invariant-loop-other : goal.invariant-loop-other
invariant-loop-other g l = multiplied_up g.row.F l.product (drop l.other (set (map (value_at (map Some l.values)) (map number l.parts)) l.place (value_at (map (value_at l.before) (map number l.parts)) l.place))) ≡ product_up g.row.F (set (map (value_at (map Some l.values)) (map number l.parts)) l.place (value_at (map (value_at l.before) (map number l.parts)) l.place))
