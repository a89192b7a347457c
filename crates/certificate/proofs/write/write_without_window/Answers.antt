-- The first line, the lines above the window, and the base.
use Rattle.std.proofs.Common.{◌∙◌, ap, ◌++◌, ◌∷◌, []}
use Rattle.std.specs.Prelude.{codes}
use Rattle.certificate.specs.Patterns.{filled}
use Rattle.certificate.proofs.Writing.{without-joined}
use Rattle.certificate.proofs.write.write_without_window.Goals as goal

pub returns : goal.returns
returns c =
    without-joined c.args.h.now c.new-text.result.items c.push_line.new.text.items c.push_above_window.new.text.items c.push_base.new.text.items c.new-text.ensures.items
    (c.in_ok-push_line.ensures ∙ ap (λ v. c.new-text.result.items ++ (filled (codes "boltzmann #") (v ∷ []) ++ 10 ∷ [])) c.from.ensures)
    c.in_ok-push_above_window.ensures c.in_ok-push_base.ensures
