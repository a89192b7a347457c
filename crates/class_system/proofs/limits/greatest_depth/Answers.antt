use Rattle.std.proofs.Common.{◌≡◌, ◌<◌, ◌+◌, arith, sym, ◌∙◌, ap, refl, length}
use Rattle.std.proofs.lemmas.List.{length-map}
use Rattle.class_system.specs.Views.{spec_node}
use Rattle.class_system.specs.Limits.{greatest_of, node_depth}
use Rattle.class_system.proofs.Soundness.{node_listed, part_below, has_range}
use Rattle.class_system.proofs.Results.{results-more, results-all}
use Rattle.class_system.proofs.Depths.{greatest_so_far}
use Rattle.class_system.proofs.limits.greatest_depth.Goals as goal

pub depth_above-depth-requires-clause-in_range : goal.depth_above-depth-requires-clause-in_range
depth_above-depth-requires-clause-in_range c = record {
  at = λ i part at.
      let listed = node_listed _ c.args.draft.now.nodes c.loop-item.item-index c.item-item.result c.nodes-item-items.ensures.nodes c.item-item.is c.loop-item-test.true in
      let below : part < c.loop-item.item-index = part_below c.args.draft.now c.requires.sound _ part _ listed (record { place = i; is_there = rw (← c.parts.ensures.parts) at }) in
      omega (arith, below, c.deref.ensures.len, c.loop-item.invariant.len);
}

pub depth_above-depth-requires-clause-small : goal.depth_above-depth-requires-clause-small
depth_above-depth-requires-clause-small c =
    let same : greatest_of c.deref.result.now ≡ c.loop-item.most = ap greatest_of c.deref.ensures.value ∙ sym c.loop-item.invariant.greatest_is in
    omega (arith, same, c.loop-item.invariant.few)

pub loop-item-preserved : goal.loop-item-preserved
loop-item-preserved c =
    let listed = node_listed _ c.args.draft.now.nodes c.loop-item.item-index c.item-item.result c.nodes-item-items.ensures.nodes c.item-item.is c.loop-item-test.true in
    let ranged = has_range c.args.draft.now c.requires.sound _ _ listed in
    let is_depth : c.depth_above-depth.result ≡ node_depth c.loop-item.depths.items (spec_node c.item-item.result) ranged.0 = c.depth_above-depth.ensures.exact ∙ rw (c.deref.ensures.value, c.parts.ensures.parts) refl in
    let grown = greatest_so_far c.loop-item.depths.items c.push.new.self.items c.loop-item.most c.max-most.result c.depth_above-depth.result c.loop-item.item-index (spec_node c.item-item.result) ranged.0 c.loop-item.invariant.greatest_is c.loop-item.invariant.few is_depth c.in_ok-push.ensures.items c.max-most.ensures in
    record {
      found = results-more node_depth c.args.draft.now c.loop-item.item-index _ ranged.0 _ _ _ listed ranged.1 c.loop-item.invariant.found is_depth c.in_ok-push.ensures.items;
      greatest_is = grown.0;
      few = grown.1;
      len = c.in_ok-push.ensures.len ∙ ap (λ n. n + 1) c.loop-item.invariant.len;
    }

pub returns : goal.returns
returns c = record {
  depth =
      c.loop-item.invariant.greatest_is ∙ ap greatest_of (results-all node_depth c.args.draft.now c.loop-item.item-index _ c.loop-item.invariant.found
      (omega (arith, c.loop-item-test.false, length-map c.nodes-item-items.result.now spec_node, ap length c.nodes-item-items.ensures.nodes)));
}
