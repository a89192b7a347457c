use Rattle.std.proofs.Common.{◌∷◌, ◌∙◌, ap, subst}
use Rattle.object_store.specs.Waiting.{Shows}
use Rattle.pointing.specs.declared.pieces.Piece.TheVariants as piece
use Rattle.pointing.proofs.MarkVisits.{pick-written}
use Rattle.pointing.proofs.marking.Writing.mark.Goals as goal

pub returns-in_ok-push-in-Union : goal.returns-in_ok-push-in-Union
returns-in_ok-push-in-Union c =
    let s = c.args.system.now in
    let old = c.args.self.now in
    record {
      written = record {
        on = λ whole es os ts fs us shows h.
            pick-written s whole old.pieces old.places old.written c.args.e.0 es ts fs us (record { pieces = c.push-in-Union.new.self; places = c.self-in-Union.inside.places.now; written = c.self-in-Union.inside.written.items }) os c.in-Union.option c.in-Union.field-1.0
            (c.in_ok-push-in-Union.ensures.ok ∙ ap (λ z. piece.Marked ∷ z) (ap (λ z. z.pieces) c.self-in-Union.view_is ∙ c.in_ok-choose-in-Union.ensures.pieces))
            (ap (λ z. z.places) c.self-in-Union.view_is ∙ c.in_ok-choose-in-Union.ensures.places)
            (ap (λ z. z.written) c.self-in-Union.view_is ∙ c.in_ok-choose-in-Union.ensures.written)
            (subst (λ v. Shows s c.args.e.0 es os ts v fs us) c.in-Union.is shows) h;
      };
    }
