use Rattle.std.proofs.Common.{List, ℕ, subst, refl}
use Rattle.command_words.specs.Values.{IsRefused}
use Rattle.command_words.proofs.Refused.{not_accepted}
use Rattle.command_words.proofs.form.Form.number.Goals as goal

pub returns-in-None-clause-refused : goal.returns-in-None-clause-refused
returns-in-None-clause-refused c = let e = c.in-Some.ensures in let P : List (List ℕ) → Type 0 = IsRefused c.args.self.now.name c.args.name in subst P e (not_accepted c.args.self.now.name c.args.name c.in-Some.text.now c.requires.number (c.in-None.ensures.none refl))
