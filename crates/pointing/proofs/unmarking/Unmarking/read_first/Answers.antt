use Rattle.std.proofs.Common.{◌∷◌, [], ◌++◌, length, ◌∙◌, ap, subst}
use Rattle.object_store.specs.declared.token.Token.TheVariants as token
use Rattle.object_store.specs.Waiting.{Shows}
use Rattle.pointing.specs.Unmarking.{due_copies}
use Rattle.pointing.specs.declared.dues.Due.TheVariants as due
use Rattle.pointing.proofs.UnmarkVisits.{first-read}
use Rattle.pointing.proofs.unmarking.Unmarking.read_first.Goals as goal

pub returns : goal.returns
returns c =
    let old = c.args.self.now in
    let n = c.in-Seq.before in
    record {
      read = λ s p f. record {
        on = λ whole atom es os ts fs us shows h.
            first-read s p whole atom old.dues old.told old.written f es os ts fs us (record { dues = c.push_copied.new.self; written = c.push.new.self.items; told = c.self.inside.told }) c.args.part n c.len-place.result c.in-Seq.field-1.0
            (c.len-place.ensures ∙ c.self.inside.written.ok.0 ∙ ap (λ z. length z.written) c.self.view_is)
            (c.in_ok-push_copied.ensures.ok ∙ ap (λ z. due_copies n ++ z) (c.in_ok-push-3.ensures.ok ∙ ap (λ z. due.Marked c.args.part ∷ z) (c.in_ok-push-2.ensures.ok ∙ ap (λ z. due.Last c.len-place.result n ∷ z) (ap (λ z. z.dues) c.self.view_is))))
            (ap (λ z. z.told) c.self.view_is)
            (c.in_ok-push.ensures.items ∙ ap (λ z. z ++ token.Count 0 ∷ []) (ap (λ z. z.written) c.self.view_is))
            (subst (λ v. Shows p f es os ts v fs us) c.in-Seq.is shows) h;
      };
    }
