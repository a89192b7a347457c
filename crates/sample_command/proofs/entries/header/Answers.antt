use Rattle.std.proofs.Common.{◌≡◌, subst}
use Rattle.std.specs.Prelude.{IfOk}
use Rattle.certificate.specs.declared.certificate.Header.{Header}
use Rattle.certificate.specs.Certificates.{header_lines}
use Rattle.certificate.specs.Lines.{text_of}
use Rattle.sample_command.proofs.entries.header.Goals as goal

-- the text is that of the header
pub returns : goal.returns
returns g c = subst (λ (h : Header). IfOk c.write_header.result (λ text. text.items ≡ text_of (header_lines h))) c.in_ok-header.ensures.same c.write_header.ensures
