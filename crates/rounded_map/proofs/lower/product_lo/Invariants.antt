use Rattle.std.proofs.Common.{◌≡◌, drop, map}
use Rattle.std.specs.Prelude.{slice_index}
use Rattle.class_system.specs.Views.{number}
use Rattle.series_bounds.specs.Lists.{multiplied_down}
use Rattle.rounded_map.proofs.lower.product_lo.Given as goal

abbrev pub invariant-loop-part : goal.invariant-loop-part
invariant-loop-part g l = multiplied_down g.row.F l.product.0 (map (slice_index l.before) (map number (drop l.part-index l.rest))) ≡ multiplied_down g.row.F l.initial.product.0 (map (slice_index l.before) (map number l.rest))
