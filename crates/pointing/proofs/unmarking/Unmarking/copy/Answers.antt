use Rattle.std.proofs.Common.{◌≡◌, suc, ◌-◌, ◌++◌, arith, ◌∙◌, ap, subst}
use Rattle.pointing.specs.Writing.{token_at}
use Rattle.pointing.specs.Unmarking.{due_copies, CopiesObjects, ReadsDue}
use Rattle.pointing.proofs.UnmarkVisits.{copied-read}
use Rattle.pointing.proofs.unmarking.Unmarking.copy.Goals as goal

pub returns : goal.returns
returns c =
    let old = c.args.self.now in
    let n = c.args.objects - 1 in
    let one_more : c.args.objects ≡ suc n = (let some = c.requires.some in omega arith) in
    let k = c.parts_below.result in
    record {
      read = λ s. record {
        on = λ whole atom es os ts fs us shows h.
            copied-read s c.args.pointed.now whole atom old.dues old.told old.written c.args.e.0 es os ts fs us (record { dues = c.push_copied-2.new.self; written = c.write_token.new.written.items; told = c.self.inside.told }) c.args.visit k n c.parts_below.ensures.exact
            (c.in_ok-push_copied-2.ensures.ok ∙ ap (λ z. due_copies k ++ z) (c.in_ok-push_copied.ensures.ok ∙ ap (λ z. due_copies n ++ z.dues) c.self.view_is))
            (ap (λ z. z.told) c.self.view_is)
            (c.in_ok-write_token.ensures.written ∙ ap (λ z. z.written ++ token_at c.args.visit) c.self.view_is)
            shows
            (subst (λ m. CopiesObjects m (ReadsDue s whole atom old.dues old.told) os old.written) one_more h);
      };
    }
