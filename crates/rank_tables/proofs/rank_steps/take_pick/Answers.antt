use Rattle.std.proofs.Common.{◌<◌, map, take, refl, sym, ◌∙◌, ap, subst}
use Rattle.std.specs.Prelude.{sum_by}
use Rattle.std.specs.List.{AllByRecursion}
use Rattle.class_system.specs.Views.{number}
use Rattle.rank_tables.specs.Capped.{Tells}
use Rattle.rank_tables.specs.Grids.{number_at}
use Rattle.rank_tables.proofs.NodeParts.{node-is, parts-inside}
use Rattle.rank_tables.proofs.StackTold.{pick-taken, first-parts, map-take}
use Rattle.rank_tables.proofs.rank_steps.take_pick.Goals as goal

pub sum_of_parts-before-requires-clause-nodes : goal.sum_of_parts-before-requires-clause-nodes
sum_of_parts-before-requires-clause-nodes c =
    first-parts c.args.counts.now.nodes c.args.option c.items-options.result.now
    (subst (λ ps. AllByRecursion (λ p. p < c.args.counts.now.nodes) (map number ps)) (sym c.items-options.ensures.items)
    (parts-inside c.args.system.now c.known.ensures.sound c.args.e.0 c.args.counts.now.nodes _ (node-is c.args.system.now c.args.e.0 c.node.result.now _ c.node.ensures.node c.in-Union.is) c.requires.nodes))

pub returns : goal.returns
returns c = record {
  taken = pick-taken c.args.system.now (number_at c.args.counts.now) c.args.e.0 c.args.option (map number c.in-Union.parts) c.in-Some.part _ c.args.stack.now c.pop.new.self c.push.new.self c.in-Some.ensures.items c.in_ok-push.ensures.ok (node-is c.args.system.now c.args.e.0 c.node.result.now _ c.node.ensures.node c.in-Union.is) refl
      (λ y a. c.plus.ensures (sum_by (λ q. number_at c.args.counts.now q c.in-Some.part.size) (take c.args.option (map number c.in-Union.parts))) y
      (subst (λ ps. Tells c.sum_of_parts-before.result (sum_by (λ q. number_at c.args.counts.now q c.in-Some.part.size) ps)) (map-take c.args.option c.items-options.result.now ∙ ap (λ ps. take c.args.option (map number ps)) c.items-options.ensures.items) c.sum_of_parts-before.ensures) a);
}
