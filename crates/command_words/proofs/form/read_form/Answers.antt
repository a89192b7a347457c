use Rattle.std.proofs.Common.{◌∙◌, sym}
use Rattle.command_words.specs.Views.{given_of}
use Rattle.command_words.proofs.Formed.{formed, not_formed}
use Rattle.command_words.proofs.form.read_form.Goals as goal

pub returns-then-not-is_complete-clause-err : goal.returns-then-not-is_complete-clause-err
returns-then-not-is_complete-clause-err c =
    not_formed c.args.words.now c.in-Some.first.now c.in-Some.others.now c.in-Some-read.name (given_of c.in_ok-given.given)
    c.in-Some.ensures.cases.0 (sym c.bytes.ensures ∙ c.in-Some-read.ensures.named) c.in_ok-given.ensures.ok
    (λ complete. let yes = c.is_complete.ensures.1 complete in let no = c.if-not-is_complete.true in absurd (cc))

pub returns-clause-ok : goal.returns-clause-ok
returns-clause-ok c =
    formed c.args.words.now c.in-Some.first.now c.in-Some.others.now c.in-Some-read.name (given_of c.in_ok-given.given)
    (c.are_printable.ensures.0 c.if-not-are_printable.false) c.in-Some.ensures.cases.0 (sym c.bytes.ensures ∙ c.in-Some-read.ensures.named) c.in_ok-given.ensures.ok
    (c.is_complete.ensures.0 c.if-not-is_complete.false)
