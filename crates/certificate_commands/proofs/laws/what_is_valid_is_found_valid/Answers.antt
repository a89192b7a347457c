use Rattle.std.proofs.Common.{length}
use Rattle.certificate_commands.specs.VerifyCommand.{valid_line}
use Rattle.certificate_commands.specs.MigrateCommand.{migrated_text}
use Rattle.certificate_commands.proofs.OneCertificate.{OneText, one-counted, one-migrated, valid-verified}
use Rattle.certificate_commands.proofs.laws.what_is_valid_is_found_valid.Goals as goal

pub returns : goal.returns
returns c =
    let alike = c.alike_certificates_have_one_verdict.ensures in
    let laws : OneText = record { alike = c.certificates_with_one_text_are_alike.ensures; carried = alike.verdict; count = alike.count; lines = alike.lines; one = c.a_certificate_has_one_verdict.ensures } in
    record {
      verify = valid-verified laws (λ s cert. valid_line (length cert.entries)) (one-counted laws);
      migrate = valid-verified laws migrated_text (one-migrated laws);
    }
