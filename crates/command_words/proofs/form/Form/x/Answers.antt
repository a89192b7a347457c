use Rattle.std.proofs.Common.{List, ℕ, subst}
use Rattle.command_words.specs.Values.{IsRefused}
use Rattle.command_words.specs.declared.fault.ValueName.TheVariants.{X}
use Rattle.command_words.proofs.Fractions.{no_fault}
use Rattle.command_words.proofs.form.Form.x.Goals as goal

pub returns-in-Err-clause-refused : goal.returns-in-Err-clause-refused
returns-in-Err-clause-refused c =
    let e = c.in-Some.ensures in
    let h = c.in-Err.ensures in
    let P : List (List ℕ) → Type 0 = IsRefused c.args.self.now.name X in
    subst P e (λ a. no_fault c.in-Some.text.now c.in-Err.field-0 h a.0 a.1)
