use Rattle.std.proofs.Common.{◌≡◌, ◌∷◌, map, Some, refl, sym, ◌∙◌, ap}
use Rattle.bz_model.specs.Spec.{Node, node_at}
use Rattle.class_system.specs.Views.{number, spec_node}
use Rattle.pointing.specs.declared.dues.Due.TheVariants as due
use Rattle.pointing.proofs.UnmarkSteps.{choice-place}
use Rattle.pointing.proofs.UnmarkVisits.{tuple-due, split-read}
use Rattle.pointing.proofs.unmarking.Unmarking.unmark_tuple.Goals as goal

pub returns-in_ok-unmark_part-in-Product : goal.returns-in_ok-unmark_part-in-Product
returns-in_ok-unmark_part-in-Product c =
    let s = c.args.system.now in
    let old = c.args.self.now in
    let ps = map number c.items.result.now in
    let place = c.in-Some.place in
    let at : node_at s c.args.node.0 ≡ Some (Node.Product ps) = c.in_ok-parts.ensures.node ∙ ap (λ x. Some (spec_node x)) c.in-Product.is ∙ ap (λ z. Some (Node.Product (map number z))) (sym c.items.ensures.items) in
    record {
      read = record {
        on = λ whole atom es os ts fs us shows h.
            c.in_ok-unmark_part-in-Product.ensures.read.on whole atom es os ts fs us shows
            (tuple-due s c.args.pointed.now whole atom old.dues old.told old.written c.args.e.0 es os ts fs us c.unmark_part.new.self c.requires.pointable c.args.node ps place c.in-Some.field-0-1.0 at
            (choice-place s c.args.atomic.now ps c.items.result.now 0 place c.in-Some.field-0-1 c.requires.atomic refl c.in-Some.ensures.choice) shows h);
      };
    }

pub returns-in_ok-push-in-Seq : goal.returns-in_ok-push-in-Seq
returns-in_ok-push-in-Seq c =
    let s = c.args.system.now in
    let old = c.args.self.now in
    let at = c.in_ok-parts.ensures.node ∙ ap (λ x. Some (spec_node x)) c.in-Seq.is in
    record {
      read = record {
        on = λ whole atom es os ts fs us shows h.
            split-read s c.args.pointed.now whole atom old.dues old.told old.written c.args.e.0 es os ts fs us (record { dues = c.push.new.self; written = c.self.inside.written.items; told = c.self.inside.told }) c.args.node c.in-Seq.part at
            (c.in_ok-push-in-Seq.ensures.ok ∙ ap (λ z. due.Split c.in-Seq.part ∷ z.dues) c.self.view_is)
            (ap (λ z. z.told) c.self.view_is)
            (ap (λ z. z.written) c.self.view_is)
            shows h;
      };
    }
