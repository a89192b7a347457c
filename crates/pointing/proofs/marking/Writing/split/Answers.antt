use Rattle.std.proofs.Common.{◌-◌, ◌∷◌, [], ◌++◌, ◌∙◌, ap}
use Rattle.object_store.specs.declared.token.Token.TheVariants as token
use Rattle.pointing.specs.Writing.{copied}
use Rattle.pointing.specs.declared.pieces.Piece.TheVariants as piece
use Rattle.pointing.proofs.MarkVisits.{list-written}
use Rattle.pointing.proofs.marking.Writing.split.Goals as goal

pub returns : goal.returns
returns c =
    let place = c.next_place-place.result in
    let later = c.saturating_sub-later.result in
    let old = c.args.self.now in
    record {
      written = λ s e part. record {
        on = λ whole es os ts fs us shows h.
            list-written s whole old.pieces old.places old.written e es ts fs us (record { pieces = c.push_copied-2.new.self; places = c.self.inside.places.now; written = c.push.new.self.items }) os c.args.parts part.0 place later
            c.next_place-place.ensures.place
            (λ i ways e. ap (λ z. z.places) c.self.view_is ∙ c.next_place-place.ensures.places i ways e)
            (c.saturating_sub-later.ensures ∙ ap (λ n. n - 1) c.saturating_sub.ensures)
            (c.in_ok-push_copied-2.ensures.ok ∙ ap (λ z. copied place ++ z) (c.in_ok-push-3.ensures.ok ∙ ap (λ z. piece.Marked ∷ z) (c.in_ok-push-2.ensures.ok ∙ ap (λ z. piece.Count later ∷ z) (c.in_ok-push_copied.ensures.ok ∙ ap (λ z. copied later ++ z) (ap (λ z. z.pieces) c.self.view_is ∙ c.next_place-place.ensures.pieces)))))
            (c.in_ok-push.ensures.ok ∙ ap (λ z. z ++ token.Count place ∷ []) (ap (λ z. z.written) c.self.view_is ∙ c.next_place-place.ensures.written))
            shows h;
      };
    }
