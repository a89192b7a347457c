use Rattle.std.proofs.Common.{◌≡◌, ◌<◌, map, length, arith, sym, ◌∙◌, ap, subst}
use Rattle.std.specs.List.{AllByRecursion}
use Rattle.class_system.specs.Views.{number}
use Rattle.class_system.proofs.Soundness.{product_parts}
use Rattle.rank_tables.specs.Grids.{number_at, AreSuffixes}
use Rattle.rank_tables.specs.Visits as visits
use Rattle.rank_tables.proofs.NodeParts.{node-is, parts-inside}
use Rattle.rank_tables.proofs.StackTold.{TupleTold, tuple-taken}
use Rattle.rank_tables.proofs.Suffixes.{mapped-length}
use Rattle.rank_tables.proofs.rank_steps.take_tuple.Goals as goal

pub tuple_of-requires-clause-some : goal.tuple_of-requires-clause-some
tuple_of-requires-clause-some c =
    let two = product_parts c.args.system.now c.known.ensures.sound c.args.e.0 _ (node-is c.args.system.now c.args.e.0 c.node.result.now _ c.node.ensures.node c.in-Product.is) in
    let long = mapped-length c.in-Product.parts in
    let as_long : length c.items-items.result.now ≡ length c.in-Product.parts = ap length c.items-items.ensures.items in
    omega arith

pub tuple_of-requires-clause-nodes : goal.tuple_of-requires-clause-nodes
tuple_of-requires-clause-nodes c =
    subst (λ ps. AllByRecursion (λ p. p < c.args.counts.now.nodes) (map number ps)) (sym c.items-items.ensures.items)
    (parts-inside c.args.system.now c.known.ensures.sound c.args.e.0 c.args.counts.now.nodes _ (node-is c.args.system.now c.args.e.0 c.node.result.now _ c.node.ensures.node c.in-Product.is) c.requires.counted.each_node)

pub tuple_of-requires-clause-tails : goal.tuple_of-requires-clause-tails
tuple_of-requires-clause-tails c = λ m lt.
    subst (λ ps. AreSuffixes (number_at c.args.counts.now) c.args.tails.now (map number ps) m) (sym c.items-items.ensures.items)
    (subst (λ ps. AreSuffixes (number_at c.args.counts.now) c.args.tails.now ps m) (ap visits.product_parts (node-is c.args.system.now c.args.e.0 c.node.result.now _ c.node.ensures.node c.in-Product.is)) (c.requires.counted.each_tail m lt c.args.e.0))

pub returns : goal.returns
returns c = record {
  taken = tuple-taken c.args.system.now (number_at c.args.counts.now) c.args.e.0 (map number c.in-Product.parts) c.in_ok-tuple.tuple c.args.stack.now c.in_ok-objects.objects.items c.take.new.self c.push.new.self c.in_ok-objects.ensures.items
      (c.in_ok-objects.ensures.count ∙ ap length c.items-items.ensures.items ∙ sym (mapped-length c.in-Product.parts)) c.in_ok-push.ensures.ok (node-is c.args.system.now c.args.e.0 c.node.result.now _ c.node.ensures.node c.in-Product.is)
      (subst (λ xs. TupleTold (number_at c.args.counts.now) (map number c.in-Product.parts) xs c.in_ok-tuple.tuple) c.deref.ensures.value
      (subst (λ ps. TupleTold (number_at c.args.counts.now) (map number ps) c.deref.result.now c.in_ok-tuple.tuple) c.items-items.ensures.items c.in_ok-tuple.ensures.whole));
}
