-- Line after line.
use Rattle.std.proofs.Common.{◌∙◌, ap, ◌++◌, ◌∷◌, []}
use Rattle.std.specs.Prelude.{codes}
use Rattle.certificate.specs.Patterns.{filled}
use Rattle.certificate.proofs.Writing.{above-joined}
use Rattle.certificate.proofs.write.push_above_window.Goals as goal

pub returns : goal.returns
returns c =
    above-joined c.args.h.now c.args.text.now.items c.push_words.new.text.items c.push_digest.new.text.items c.push_line.new.text.items c.push_line-2.new.text.items
    (c.in_ok-push_words.ensures ∙ ap (λ w. c.args.text.now.items ++ ((codes "mode " ++ w) ++ 10 ∷ [])) c.mode_of.ensures)
    c.in_ok-push_digest.ensures c.in_ok-push_line.ensures
    (c.in_ok-push_line-2.ensures ∙ ap (λ v. c.push_line.new.text.items ++ (filled (codes "fraction #") (v ∷ []) ++ 10 ∷ [])) c.from.ensures)
