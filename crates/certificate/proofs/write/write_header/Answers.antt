-- The first line, and those below it.
use Rattle.std.proofs.Common.{◌∙◌, ap, ◌++◌, ◌∷◌, []}
use Rattle.std.specs.Prelude.{codes}
use Rattle.certificate.specs.Certificates.{lines_below_version}
use Rattle.certificate.specs.Lines.{text_of}
use Rattle.certificate.specs.Patterns.{filled}
use Rattle.certificate.proofs.write.write_header.Goals as goal

pub returns : goal.returns
returns c =
    let rest = text_of (lines_below_version c.args.h.now) in
    c.in_ok-push_below_version.ensures
    ∙ ap (λ t. t ++ rest) (c.in_ok-push_line.ensures ∙ ap (λ v. c.new-text.result.items ++ (filled (codes "boltzmann #") (v ∷ []) ++ 10 ∷ [])) c.from.ensures)
    ∙ ap (λ t. (t ++ (filled (codes "boltzmann #") (c.args.h.now.version ∷ []) ++ 10 ∷ [])) ++ rest) c.new-text.ensures.items
