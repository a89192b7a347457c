use Rattle.std.proofs.Common.{◌≡◌, ◌+◌, ◌++◌, arith, ◌∙◌, ap, subst}
use Rattle.object_store.specs.Waiting.{Shows}
use Rattle.pointing.specs.Unmarking.{due_copies}
use Rattle.pointing.proofs.UnmarkVisits.{last-read}
use Rattle.pointing.proofs.unmarking.Unmarking.read_last.Goals as goal

pub returns : goal.returns
returns c =
    let old = c.args.self.now in
    let n = c.in-Seq.later in
    let sum : c.in-Some-checked_add.all ≡ c.args.before + 1 + n = (let a = c.in-Some.ensures in let b = c.in-Some-checked_add.ensures in omega arith) in
    record {
      read = λ s p f. record {
        on = λ whole atom es os ts fs us shows h.
            last-read s p whole atom old.dues old.told old.written f es os ts fs us (record { dues = c.push_copied.new.self; written = c.put_token.new.written.items; told = c.self.inside.told }) c.args.place c.args.before n c.in-Some-checked_add.all c.in-Seq.field-1.0 sum
            (c.in_ok-push_copied.ensures.ok ∙ ap (λ z. due_copies n ++ z.dues) c.self.view_is)
            (ap (λ z. z.told) c.self.view_is)
            (λ front tail kept is at. c.put_token.ensures.put front tail kept (ap (λ z. z.written) c.self.view_is ∙ is) at)
            (subst (λ v. Shows p f es os ts v fs us) c.in-Seq.is shows) h;
      };
    }
