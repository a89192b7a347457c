use Rattle.std.proofs.Common.{◌++◌, ◌∙◌, ap}
use Rattle.std.specs.Prelude.{codes}
use Rattle.certificate.specs.declared.certificate.Header.{Header}
use Rattle.certificate.specs.Certificates.{lines_below_version}
use Rattle.certificate.specs.Lines.{text_of}
use Rattle.sample_command.proofs.entries.fast_header.Goals as goal

-- below another first line the text is that of the header
pub returns : goal.returns
returns g c =
    let below = text_of (lines_below_version c.in_ok-header.header) in
    c.in_ok-append_below_version.ensures.ok
    ∙ ap (λ t. t ++ below) (c.in_ok-extend_from_slice.ensures.items ∙ ap (λ t. t ++ codes "boltzmann fast\n") c.new-text.ensures.items)
    ∙ ap (λ (h : Header). codes "boltzmann fast\n" ++ text_of (lines_below_version h)) c.in_ok-header.ensures.same
