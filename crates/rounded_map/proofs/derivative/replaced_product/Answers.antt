use Rattle.std.proofs.Common.{◌<◌, length, map, set, arith, sym, Some, get_or}
use Rattle.std.proofs.lemmas.Bool.{eqb-true, eqb-false}
use Rattle.class_system.specs.Views.{number}
use Rattle.rounded_map.specs.RoundedMap.{value_at}
use Rattle.rounded_map.proofs.PartsListed.{part-in_range}
use Rattle.rounded_map.proofs.Replaced.{factor-at, multiplied-first, multiplied-more}
use Rattle.rounded_map.proofs.derivative.replaced_product.Goals as goal

pub factor-product-requires-clause-in_range : goal.factor-product-requires-clause-in_range
factor-product-requires-clause-in_range g c = part-in_range c.args.parts.now _ 0 _ (omega arith) c.requires.parts

pub loop-other-init : goal.loop-other-init
loop-other-init g c =
    let inside : (get_or c.args.parts.now 0 (record { 0 = 0 })).0 < length c.args.values.now = omega (arith, part-in_range c.args.parts.now (length c.args.before.now) 0 (record { 0 = 0 }) (omega arith) c.requires.parts) in
    multiplied-first g.row.F _ _
    (factor-at c.args.values.now c.args.before.now c.args.parts.now c.args.place 0 (record { 0 = 0 }) _ _ (λ t. sym (eqb-true c.args.place 0 t)) (λ t same. eqb-false c.args.place 0 t (sym same)) (omega arith) inside c.factor-product.ensures.factor)

pub factor-requires-clause-in_range : goal.factor-requires-clause-in_range
factor-requires-clause-in_range g c = part-in_range c.args.parts.now _ c.loop-other.other _ (omega arith) c.requires.parts

pub loop-other-preserved : goal.loop-other-preserved
loop-other-preserved g c =
    let other = c.loop-other.other in
    let inside : (get_or c.args.parts.now c.loop-other.other (record { 0 = 0 })).0 < length c.args.values.now = omega (arith, part-in_range c.args.parts.now (length c.args.before.now) c.loop-other.other (record { 0 = 0 }) (omega arith) c.requires.parts) in
    rw c.mul_hi-product.ensures (multiplied-more g.row.F (set (map (value_at (map Some c.args.values.now)) (map number c.args.parts.now)) c.args.place (value_at (map (value_at c.args.before.now) (map number c.args.parts.now)) c.args.place)) other c.loop-other.product c.factor.result _
    (factor-at c.args.values.now c.args.before.now c.args.parts.now c.args.place other (record { 0 = 0 }) _ _ (eqb-true other c.args.place) (eqb-false other c.args.place) (omega arith) inside c.factor.ensures.factor) c.loop-other.invariant)
