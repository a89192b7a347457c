-- The way goes on.
use Rattle.std.proofs.Common.{◌≡◌, ◌-◌, ◌≤◌, ap, sym, subst, arith, ◌∙◌, Some, [], ◌∷◌}
use Rattle.bz_model.specs.Spec.{Node, node_at}
use Rattle.class_system.specs.Views.{spec_node}
use Rattle.object_store.proofs.Descent.{Descent}
use Rattle.object_store.proofs.InRange.{class-known, body-below}
use Rattle.object_text.proofs.Resolving.{same-start, same-body, way-start, way-goes, way-on, no-class}
use Rattle.object_text.proofs.reader.resolved.Goals as goal

pub loop-c-init : goal.loop-c-init
loop-c-init c = record {
  below = c.requires.in_range;
  same = same-start c.args.system.now c.args.e.0;
  way = subst (λ n. Descent c.args.system.now (c.args.e.0 ∷ []) (c.args.e.0 ∷ []) n) (sym c.node_count-left.ensures.count) (way-start c.args.system.now c.args.e.0 c.requires.in_range);
}

pub overflow_sub-left : goal.overflow_sub-left
overflow_sub-left c = way-goes c.args.system.now c.requires.objects c.args.e.0 c.loop-c.e.0 c.loop-c.left c.requires.in_range c.loop-c.invariant.way

pub loop-c-smaller : goal.loop-c-smaller
loop-c-smaller c = let some : 1 ≤ c.loop-c.left = overflow_sub-left c in omega (arith, some)

pub loop-c-preserved : goal.loop-c-preserved
loop-c-preserved c =
    let at : node_at c.args.system.now c.loop-c.e.0 ≡ Some (Node.Class c.in-Class.c.0) = c.node.ensures.node ∙ ap (λ n. Some (spec_node n)) c.in-Class.is in
    let some : 1 ≤ c.loop-c.left = way-goes c.args.system.now c.requires.objects c.args.e.0 c.loop-c.e.0 c.loop-c.left c.requires.in_range c.loop-c.invariant.way in
    record {
      below = body-below c.args.system.now c.known.ensures.sound c.in-Class.c.0 c.body-e.result.0 c.body-e.ensures.body;
      same = same-body c.args.system.now c.args.e.0 c.loop-c.e.0 c.in-Class.c.0 c.body-e.result.0 c.loop-c.invariant.same at c.body-e.ensures.body;
      way = way-on c.args.system.now c.known.ensures.sound c.args.e.0 c.loop-c.e.0 c.in-Class.c.0 c.body-e.result.0 c.loop-c.left at c.body-e.ensures.body some c.loop-c.invariant.way (c.loop-c.left - 1) (omega arith);
    }

pub returns : goal.returns
returns c = record {
  resolved = record {
    below = c.loop-c.invariant.below;
    no_class = no-class c.args.system.now c.loop-c.e.0 c.node.result.now c.node.ensures.node c.in_default.not-Class;
    same = c.loop-c.invariant.same;
  };
}

pub body-e-requires : goal.body-e-requires
body-e-requires c = record { in_range = class-known c.args.system.now c.known.ensures.sound c.loop-c.e.0 c.in-Class.c.0 (c.node.ensures.node ∙ ap (λ n. Some (spec_node n)) c.in-Class.is) }
