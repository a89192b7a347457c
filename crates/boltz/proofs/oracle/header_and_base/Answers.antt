use Rattle.std.proofs.Common.{◌≡◌, ◌∙◌, subst}
use Rattle.std.specs.Prelude.{IfOk}
use Rattle.certificate.specs.declared.certificate.Header.{Header}
use Rattle.certificate.specs.Certificates.{lines_without_window}
use Rattle.certificate.specs.Lines.{text_of}
use Rattle.boltz.proofs.oracle.header_and_base.Goals as goal

-- there is a value for each name
pub header_of-requires : goal.header_of-requires
header_of-requires g c = record { one_each = c.requires.one_per_class ∙ c.known.ensures.sound.bodies }

-- the text is that of the header
pub returns : goal.returns
returns g c = subst (λ (h : Header). IfOk c.write_without_window.result (λ text. text.items ≡ text_of (lines_without_window h))) c.in_ok-header.ensures.same c.write_without_window.ensures
