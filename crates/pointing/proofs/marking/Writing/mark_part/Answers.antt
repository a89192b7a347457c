use Rattle.std.proofs.Common.{◌-◌, ◌∷◌, ◌++◌, ◌∙◌, ap}
use Rattle.object_store.specs.Seen.{parts_at}
use Rattle.bz_model.specs.Spec.{node_at}
use Rattle.pointing.specs.Atoms.{is_atomic_node}
use Rattle.pointing.specs.Marking.{choices, choice_at}
use Rattle.pointing.specs.Writing.{copied, pick_of}
use Rattle.pointing.specs.declared.pieces.Piece.TheVariants as piece
use Rattle.pointing.proofs.MarkVisits.{tuple-written}
use Rattle.pointing.proofs.marking.Writing.mark_part.Goals as goal

pub returns : goal.returns
returns c =
    let s = c.args.system.now in
    let place = c.next_place-place.result in
    let later = c.saturating_sub-later.result in
    let old = c.args.self.now in
    let parts = parts_at (node_at s c.args.e.0) in
    record {
      written = record {
        on = λ whole es os ts fs us shows h.
            tuple-written s whole old.pieces old.places old.written c.args.e.0 es ts fs us (record { pieces = c.push_copied-2.new.self; places = c.self.inside.places.now; written = c.self.inside.written.items }) os place later
            c.next_place-place.ensures.place
            (λ i ways e. ap (λ z. z.places) c.self.view_is ∙ c.in_ok-choose.ensures.places ∙ c.next_place-place.ensures.places i ways e)
            (c.saturating_sub-later.ensures ∙ ap (λ n. n - 1) (c.saturating_sub.ensures ∙ ap (λ n. n - place) c.parts_of.ensures.exact))
            (c.in_ok-push_copied-2.ensures.ok ∙ ap (λ z. copied place ++ z) (c.in_ok-push.ensures.ok ∙ ap (λ z. piece.Marked ∷ z) (c.in_ok-push_copied.ensures.ok ∙ ap (λ z. copied later ++ z) (ap (λ z. z.pieces) c.self.view_is ∙ c.in_ok-choose.ensures.pieces ∙ c.next_place-place.ensures.pieces))))
            (ap (λ z. z.written) c.self.view_is ∙ c.in_ok-choose.ensures.written ∙ ap (λ z. z ++ pick_of (choices (is_atomic_node s) parts) (choice_at (is_atomic_node s) parts place)) c.next_place-place.ensures.written)
            shows h;
      };
    }
