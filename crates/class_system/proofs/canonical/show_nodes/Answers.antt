use Rattle.std.proofs.Common.{◌≡◌, ◌<◌, ◌+◌, arith, ◌∙◌, ap, refl, length, get_or, None}
use Rattle.std.proofs.lemmas.List.{length-map}
use Rattle.std.proofs.lemmas.Option.{slice_get_within}
use Rattle.class_system.specs.Views.{spec_node, spec_range}
use Rattle.class_system.specs.CanonicalText.{node_shown}
use Rattle.class_system.proofs.Soundness.{node_listed, range_listed, part_below}
use Rattle.class_system.proofs.Results.{results-more, results-all}
use Rattle.class_system.proofs.canonical.show_nodes.Goals as goal

pub show_node-requires-clause-parts : goal.show_node-requires-clause-parts
show_node-requires-clause-parts c = record {
  at = λ i part at.
      let listed = node_listed _ c.args.draft.now.nodes c.loop-e.e c.index-nodes-e.result c.nodes-nodes.ensures.nodes c.index-nodes-e.is c.loop-e-test.true in
      let below : part < c.loop-e.e = part_below c.args.draft.now c.requires.sound _ part _ listed (record { place = i; is_there = at }) in
      omega (arith, below, c.deref.ensures.len, c.loop-e.invariant.len);
}

pub show_node-requires-clause-reference : goal.show_node-requires-clause-reference
show_node-requires-clause-reference c =
    let listed = node_listed _ c.args.draft.now.nodes c.loop-e.e c.index-nodes-e.result c.nodes-nodes.ensures.nodes c.index-nodes-e.is c.loop-e-test.true in
    rw c.names.ensures.names (c.requires.sound.references.at _ _ listed)

pub loop-e-preserved : goal.loop-e-preserved
loop-e-preserved c =
    let listed = node_listed _ c.args.draft.now.nodes c.loop-e.e c.index-nodes-e.result c.nodes-nodes.ensures.nodes c.index-nodes-e.is c.loop-e-test.true in
    let ranged = range_listed c.args.draft.now c.requires.sound c.ranges-ranges.result.now c.loop-e.e (record { low = 0; high = None }) c.ranges-ranges.ensures.ranges (slice_get_within _ _ _ listed) in
    let is_result : c.in_ok-text.text ≡ node_shown c.args.draft.now.names c.loop-e.shown.items (spec_node c.index-nodes-e.result) (spec_range (get_or c.ranges-ranges.result.now c.loop-e.e (record { low = 0; high = None }))) = c.in_ok-text.ensures.shown ∙ rw (c.names.ensures.names, c.deref.ensures.value) refl in
    record {
      found = results-more (node_shown c.args.draft.now.names) c.args.draft.now c.loop-e.e _ _ _ _ _ listed ranged c.loop-e.invariant.found is_result c.in_ok-push.ensures.items;
      len = c.in_ok-push.ensures.len ∙ ap (λ n. n + 1) c.loop-e.invariant.len;
    }

pub returns : goal.returns
returns c = record {
  shown = results-all (node_shown c.args.draft.now.names) c.args.draft.now c.loop-e.e _ c.loop-e.invariant.found
      (omega (arith, c.loop-e-test.false, length-map c.nodes-nodes.result.now spec_node, ap length c.nodes-nodes.ensures.nodes));
}
