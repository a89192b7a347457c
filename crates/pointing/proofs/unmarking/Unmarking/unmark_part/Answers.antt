use Rattle.std.proofs.Common.{◌-◌, ◌∷◌, ◌++◌, length, map, Some, refl, sym, ◌∙◌, ap}
use Rattle.std.specs.Prelude.{option_map}
use Rattle.std.proofs.lemmas.Option.{slice_get-map, slice_get_read}
use Rattle.bz_model.specs.Spec.{Node}
use Rattle.class_system.specs.Views.{number, spec_node}
use Rattle.pointing.specs.Unmarking.{due_copies}
use Rattle.pointing.specs.declared.dues.Due.TheVariants as due
use Rattle.pointing.proofs.UnmarkVisits.{tuple-read}
use Rattle.pointing.proofs.unmarking.Unmarking.unmark_part.Goals as goal

pub returns : goal.returns
returns c =
    let old = c.args.self.now in
    let s = c.args.system.now in
    let ps = map number c.items.result.now in
    let place = c.args.place in
    let part = c.in-Some.part.now in
    let later = c.saturating_sub-2.result in
    let at = c.in_ok-parts.ensures.node ∙ ap (λ x. Some (spec_node x)) c.in-Product.is ∙ ap (λ z. Some (Node.Product (map number z))) (sym c.items.ensures.items) in
    record {
      read = record {
        on = λ whole atom es os ts fs us shows h.
            tuple-read s c.args.pointed.now whole atom old.dues old.told old.written c.args.e.0 es os ts fs us (record { dues = c.push_copied-2.new.self; written = c.self.inside.written.items; told = c.self.inside.told }) c.args.node ps place c.parts_of-objects.result later part at
            (slice_get-map number c.items.result.now place ∙ ap (option_map number) (let h = c.in-Some.ensures.lookup in slice_get_read c.items.result.now (length c.items.result.now) place part refl h.3.0 h.1))
            c.parts_of-objects.ensures.exact
            (c.saturating_sub-2.ensures ∙ ap (λ n. n - 1) c.saturating_sub.ensures)
            (c.in_ok-push_copied-2.ensures.ok ∙ ap (λ z. due_copies place ++ z) (c.in_ok-push.ensures.ok ∙ ap (λ z. due.Marked part ∷ z) (c.in_ok-push_copied.ensures.ok ∙ ap (λ z. due_copies later ++ z) (ap (λ z. z.dues) c.self.view_is))))
            (ap (λ z. z.told) c.self.view_is)
            (ap (λ z. z.written) c.self.view_is)
            shows h;
      };
    }
