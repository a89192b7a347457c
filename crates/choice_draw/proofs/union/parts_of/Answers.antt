-- The arm's parts are those of the union, whose node is sound and within the limits.
use Rattle.std.proofs.Common.{◌≡◌, map, Some, sym, ◌∙◌, ap}
use Rattle.bz_model.specs.Spec.{Node, node_at}
use Rattle.class_system.specs.Views.{spec_node, number}
use Rattle.choice_draw.proofs.UnionParts.{parts-two, parts-few, parts-in_range}
use Rattle.choice_draw.proofs.union.parts_of.Goals as goal
use Rattle.choice_draw.proofs.union.parts_of.Goals.{After-items}

here : (c : After-items) → node_at c.args.system.now c.args.node.0 ≡ Some (Node.Union (map number c.items.result.now))
here c = c.node.ensures.node ∙ ap (λ n. Some (spec_node n)) c.in-Union.is ∙ ap (λ ps. Some (Node.Union (map number ps))) (sym c.items.ensures.items)

pub returns-clause-some : goal.returns-clause-some
returns-clause-some c = parts-two c.args.system.now c.args.node.0 c.items.result.now c.known.ensures.sound (here c)

pub returns-clause-few : goal.returns-clause-few
returns-clause-few c = parts-few c.args.system.now c.args.node.0 c.items.result.now c.known.ensures.limits (here c)

pub returns-clause-in_range : goal.returns-clause-in_range
returns-clause-in_range c = parts-in_range c.args.system.now c.args.node.0 c.items.result.now c.known.ensures.sound (here c)
