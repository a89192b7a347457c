use Rattle.std.proofs.Common.{◌++◌, ◌∙◌, sym, ap, subst}
use Rattle.std.specs.Prelude.{option_to_list}
use Rattle.std.proofs.lemmas.List.{append-nil}
use Rattle.object_store.specs.Walking.{IsNext}
use Rattle.rank_tables.proofs.Walked.{IsWalked, walked-start, walked-on, walked-end}
use Rattle.rank_tables.proofs.rank_steps.steps_of.Goals as goal

pub nodes-init : goal.nodes-init
nodes-init c =
    let k = c.in_ok-walk.ensures.waits c.requires.object in
    (c.requires.object, subst (IsWalked c.args.system.now c.requires.object.body c.requires.object.object c.in_ok-walk.walk) (sym c.new-steps.ensures.items) (walked-start c.args.system.now c.requires.object.body c.requires.object.object c.in_ok-walk.walk c.in_ok-walk.ensures.system k.0 k.1))

pub nodes-preserved-in-Continue-branch-4 : goal.nodes-preserved-in-Continue-branch-4
nodes-preserved-in-Continue-branch-4 c = (
  c.nodes.invariant.0,
  walked-on c.args.system.now c.known.ensures.sound c.requires.unlabelled (c.nodes.invariant.0).body (c.nodes.invariant.0).object c.nodes.walk c.next.new.self c.in-Node.e c.in-Node.visit c.nodes.steps.items c.push.new.self.items
      (subst (IsNext c.nodes.walk c.next.new.self) c.in-Node.is c.in_ok-e.ensures.next)
      (c.in_ok-push-in-Node.ensures.items ∙ ap (λ z. c.nodes.steps.items ++ z) (ap option_to_list (sym c.in-Some.is) ∙ c.step_of.ensures)) c.nodes.invariant.1,
)

pub nodes-preserved : goal.nodes-preserved
nodes-preserved c = (
  c.nodes.invariant.0,
  walked-on c.args.system.now c.known.ensures.sound c.requires.unlabelled (c.nodes.invariant.0).body (c.nodes.invariant.0).object c.nodes.walk c.next.new.self c.in-Node.e c.in-Node.visit c.nodes.steps.items c.nodes.steps.items
      (subst (IsNext c.nodes.walk c.next.new.self) c.in-Node.is c.in_ok-e.ensures.next)
      (sym (append-nil c.nodes.steps.items) ∙ ap (λ z. c.nodes.steps.items ++ z) (ap option_to_list (sym c.in_default.is) ∙ c.step_of.ensures)) c.nodes.invariant.1,
)

pub returns-in-End : goal.returns-in-End
returns-in-End c = record { steps = walked-end c.args.system.now c.args.shape.now.items c.nodes.invariant.0 c.nodes.walk c.next.new.self c.nodes.steps.items (subst (IsNext c.nodes.walk c.next.new.self) c.in-End.is c.in_ok-e.ensures.next) c.nodes.invariant.1 }
