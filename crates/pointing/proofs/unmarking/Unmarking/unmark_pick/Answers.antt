use Rattle.std.proofs.Common.{◌≡◌, ◌≤◌, ◌∷◌, [], ◌++◌, length, map, Some, arith, refl, sym, ◌∙◌, ap}
use Rattle.std.proofs.lemmas.List.{length-map}
use Rattle.bz_model.specs.Spec.{Node, node_at}
use Rattle.class_system.specs.Views.{number, spec_node}
use Rattle.object_store.specs.declared.token.Token.TheVariants as token
use Rattle.pointing.specs.declared.dues.Due.TheVariants as due
use Rattle.pointing.proofs.UnmarkSteps.{choice-place}
use Rattle.pointing.proofs.UnmarkVisits.{pick-read, choice-read}
use Rattle.pointing.proofs.unmarking.Unmarking.unmark_pick.Goals as goal

pub overflow_cast-place : goal.overflow_cast-place
overflow_cast-place c =
    let at : node_at c.args.system.now c.args.node.0 ≡ Some (Node.Union (map number c.items.result.now)) = c.in_ok-parts.ensures.node ∙ ap (λ x. Some (spec_node x)) c.in-Union.is ∙ ap (λ z. Some (Node.Union (map number z))) (sym c.items.ensures.items) in
    let limit : length (map number c.items.result.now) ≤ 64 = (c.known.ensures.limits.parts.at c.args.node.0 (Node.Union (map number c.items.result.now)) at).few in
    let same = length-map c.items.result.now number in
    let within = c.in-Some.ensures.within in
    omega arith

pub returns-in_ok-push-in-Union-2 : goal.returns-in_ok-push-in-Union-2
returns-in_ok-push-in-Union-2 c =
    let s = c.args.system.now in
    let old = c.args.self.now in
    let ps = map number c.items.result.now in
    let at : node_at s c.args.node.0 ≡ Some (Node.Union ps) = c.in_ok-parts.ensures.node ∙ ap (λ x. Some (spec_node x)) c.in-Union.is ∙ ap (λ z. Some (Node.Union (map number z))) (sym c.items.ensures.items) in
    record {
      read = λ p f part. record {
        on = λ whole atom es os ts fs us shows h.
            pick-read s p whole atom old.dues old.told old.written f es os ts fs us (record { dues = c.push-in-Union.new.self; written = c.push.new.self.items; told = c.self.inside.told }) c.requires.pointable c.args.node ps c.args.choice c.in-Some.place part.0 c.in-Some.part at
            (c.requires.resolved.choices ps at)
            (choice-place s c.args.atomic.now ps c.items.result.now c.args.choice c.in-Some.place c.in-Some.part c.requires.atomic refl c.in-Some.ensures.choice)
            (c.in_ok-push-in-Union-2.ensures.ok ∙ ap (λ z. due.Marked c.in-Some.part ∷ z.dues) c.self.view_is)
            (ap (λ z. z.told) c.self.view_is)
            (c.in_ok-push-in-Union.ensures.items ∙ ap (λ z. z.written ++ token.Pick c.in-Some.place ∷ []) c.self.view_is)
            shows h;
      };
    }

pub returns-in_ok-push-in-Product : goal.returns-in_ok-push-in-Product
returns-in_ok-push-in-Product c =
    let s = c.args.system.now in
    let old = c.args.self.now in
    let ps = map number c.items-in-Product.result.now in
    let place = c.in-Some-marked_part.place in
    let at : node_at s c.args.node.0 ≡ Some (Node.Product ps) = c.in_ok-parts.ensures.node ∙ ap (λ x. Some (spec_node x)) c.in-Product.is ∙ ap (λ z. Some (Node.Product (map number z))) (sym c.items-in-Product.ensures.items) in
    record {
      read = λ p f part. record {
        on = λ whole atom es os ts fs us shows h.
            choice-read s p whole atom old.dues old.told old.written f es os ts fs us (record { dues = c.push-in-Product.new.self; written = c.self.inside.written.items; told = c.self.inside.told }) c.requires.pointable c.args.node ps c.args.choice place part.0 c.in-Some-marked_part.field-0-1.0 at
            (choice-place s c.args.atomic.now ps c.items-in-Product.result.now c.args.choice place c.in-Some-marked_part.field-0-1 c.requires.atomic refl c.in-Some-marked_part.ensures.choice)
            (c.in_ok-push-in-Product.ensures.ok ∙ ap (λ z. due.Tuple c.args.node place ∷ z.dues) c.self.view_is)
            (ap (λ z. z.told) c.self.view_is)
            (ap (λ z. z.written) c.self.view_is)
            shows h;
      };
    }
