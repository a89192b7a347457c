use Rattle.std.proofs.Common.{◌≡◌, arith, sym, ◌∙◌, ap, map, slice_get, refl, length, inl, inr}
use Rattle.std.proofs.lemmas.Bool.{cases_lt}
use Rattle.std.proofs.lemmas.List.{length-map}
use Rattle.std.proofs.lemmas.Option.{same_Some, slice_get_within}
use Rattle.class_system.specs.Views.{spec_node, number}
use Rattle.class_system.specs.NodeOrder.{parts_of}
use Rattle.class_system.proofs.Soundness.{node_listed}
use Rattle.class_system.proofs.limits.first_excess.Goals as goal

pub loop-item-preserved : goal.loop-item-preserved
loop-item-preserved c = λ i n below at.
    elim (cases_lt i c.loop-item.item-index) [
      | inl before ↦ c.loop-item.invariant i n before at
      | inr here ↦
          let same : i ≡ c.loop-item.item-index = omega arith in
          let listed = node_listed c.args.nodes.now (map spec_node c.args.nodes.now) c.loop-item.item-index c.item-item.result refl c.item-item.is c.loop-item-test.true in
          let is : n ≡ spec_node c.item-item.result = same_Some _ _ (sym at ∙ ap (slice_get (map spec_node c.args.nodes.now)) same ∙ listed) in
          let lengths : length c.parts-count.result.now ≡ length (parts_of n) = sym (length-map c.parts-count.result.now number) ∙ ap length (c.parts-count.ensures.parts ∙ ap parts_of (sym is)) in
          record { few = omega (arith, lengths, c.if-count-gt-MOST_PARTS.false) }
    ]

pub returns-clause-none : goal.returns-clause-none
returns-clause-none c = record { at = λ i n at. c.loop-item.invariant i n (omega (arith, slice_get_within _ i n at, length-map c.args.nodes.now spec_node)) at }
