-- The node's construction is that of its arm, its range is one of the text, and its part is a node.
use Rattle.std.proofs.Common.{◌≡◌, Some, sym, ◌∙◌, ap}
use Rattle.bz_model.specs.Spec.{node_at}
use Rattle.class_system.specs.Views.{spec_node, spec_range}
use Rattle.count_draw.specs.Kinds.{series_of_kind, counted_node}
use Rattle.count_draw.proofs.CountedNodes.{suits, node_inside, part_inside}
use Rattle.count_draw.proofs.kind.counted_at.Goals as goal
use Rattle.count_draw.proofs.kind.counted_at.Goals.{in-Seq, in-Set, in-Cyc}

pub returns-clause-suits : goal.returns-clause-suits
returns-clause-suits c =
    let here : node_at c.args.system.now c.args.node.0 ≡ Some (counted_node (series_of_kind c.match-node.kind.0) c.match-node.kind.1.0) = elim c.match-node.branch [
      | in-Seq w ↦ c.node.ensures.node ∙ ap (λ n. Some (spec_node n)) w.in-Seq.is ∙ ap (λ k. Some (counted_node (series_of_kind k.0) k.1.0)) (sym w.kind-is)
      | in-Set w ↦ c.node.ensures.node ∙ ap (λ n. Some (spec_node n)) w.in-Set.is ∙ ap (λ k. Some (counted_node (series_of_kind k.0) k.1.0)) (sym w.kind-is)
      | in-Cyc w ↦ c.node.ensures.node ∙ ap (λ n. Some (spec_node n)) w.in-Cyc.is ∙ ap (λ k. Some (counted_node (series_of_kind k.0) k.1.0)) (sym w.kind-is)
    ] in
    suits c.args.system.now c.args.node.0 c.match-node.kind.1.0 (series_of_kind c.match-node.kind.0) (spec_range c.range-range.result) c.known.ensures.sound here c.range-range.ensures.range

pub returns-clause-part : goal.returns-clause-part
returns-clause-part c =
    let here : node_at c.args.system.now c.args.node.0 ≡ Some (counted_node (series_of_kind c.match-node.kind.0) c.match-node.kind.1.0) = elim c.match-node.branch [
      | in-Seq w ↦ c.node.ensures.node ∙ ap (λ n. Some (spec_node n)) w.in-Seq.is ∙ ap (λ k. Some (counted_node (series_of_kind k.0) k.1.0)) (sym w.kind-is)
      | in-Set w ↦ c.node.ensures.node ∙ ap (λ n. Some (spec_node n)) w.in-Set.is ∙ ap (λ k. Some (counted_node (series_of_kind k.0) k.1.0)) (sym w.kind-is)
      | in-Cyc w ↦ c.node.ensures.node ∙ ap (λ n. Some (spec_node n)) w.in-Cyc.is ∙ ap (λ k. Some (counted_node (series_of_kind k.0) k.1.0)) (sym w.kind-is)
    ] in
    part_inside c.args.system.now c.args.node.0 c.match-node.kind.1.0 (series_of_kind c.match-node.kind.0) c.known.ensures.sound here

pub returns-clause-in_range : goal.returns-clause-in_range
returns-clause-in_range c = node_inside c.args.system.now c.args.node.0 c.requires.counted.part c.requires.counted.kind c.requires.counted.here
