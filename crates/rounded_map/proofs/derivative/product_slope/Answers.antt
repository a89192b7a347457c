use Rattle.std.proofs.Common.{[], map, Some, arith}
use Rattle.class_system.specs.Views.{number}
use Rattle.rounded_map.specs.RoundedMap.{value_at}
use Rattle.rounded_map.specs.Derivative.{replaced_products}
use Rattle.rounded_map.proofs.Replaced.{replaced-at, length-products, added-first, added-more, added-ends}
use Rattle.rounded_map.proofs.derivative.product_slope.Goals as goal

pub loop-place-init : goal.loop-place-init
loop-place-init g c = added-first _ _ (replaced-at g.row.F c.args.values.now c.args.before.now c.args.parts.now 0 _ (omega arith) c.replaced_product-sum.ensures.product)

pub loop-place-preserved : goal.loop-place-preserved
loop-place-preserved g c =
    rw c.add_hi-sum.ensures (added-more (replaced_products g.row.F [] (map (value_at (map Some c.args.values.now)) (map number c.args.parts.now)) (map (value_at c.args.before.now) (map number c.args.parts.now))) c.loop-place.place c.loop-place.sum c.replaced_product.result _
    (replaced-at g.row.F c.args.values.now c.args.before.now c.args.parts.now c.loop-place.place _ (omega arith) c.replaced_product.ensures.product) c.loop-place.invariant)

pub returns : goal.returns
returns g c = record {
  sum = added-ends (replaced_products g.row.F [] (map (value_at (map Some c.args.values.now)) (map number c.args.parts.now)) (map (value_at c.args.before.now) (map number c.args.parts.now))) c.loop-place.place c.loop-place.sum _ (omega (arith, length-products g.row.F c.args.values.now c.args.before.now c.args.parts.now)) c.loop-place.invariant;
}
