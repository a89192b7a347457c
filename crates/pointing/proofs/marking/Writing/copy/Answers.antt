use Rattle.std.proofs.Common.{◌≡◌, suc, ◌-◌, ◌∷◌, ◌++◌, arith, ◌∙◌, ap, subst}
use Rattle.pointing.specs.Writing.{copied, Copies, Writes}
use Rattle.pointing.proofs.MarkVisits.{copied-written}
use Rattle.pointing.proofs.marking.Writing.copy.Goals as goal

pub returns : goal.returns
returns c =
    let n = c.args.objects - 1 in
    let one_more : c.args.objects ≡ suc n = (let some = c.requires.some in omega arith) in
    let k = c.parts_below.result in
    let old = c.args.self.now in
    record {
      written = record {
        on = λ whole es os ts fs us shows h.
            copied-written c.args.system.now whole old.pieces old.places old.written c.args.e.0 es ts fs us (record { pieces = c.push_copied-2.new.self; places = c.self.inside.places.now; written = c.self.inside.written.items }) c.args.visit k n os c.parts_below.ensures.exact
            (c.in_ok-push_copied-2.ensures.ok ∙ ap (λ z. copied k ++ z) (c.in_ok-push_copied.ensures.ok ∙ ap (λ z. copied n ++ z) (ap (λ z. z.pieces) c.self.view_is ∙ c.in_ok-write_token.ensures.pieces)))
            (ap (λ z. z.places) c.self.view_is ∙ c.in_ok-write_token.ensures.places)
            (ap (λ z. z.written) c.self.view_is ∙ c.in_ok-write_token.ensures.written)
            shows
            (subst (λ m. Copies m (Writes c.args.system.now whole old.pieces old.places) (c.args.e.0 ∷ es) os old.written) one_more h);
      };
    }
