use Rattle.certificate_commands.proofs.OneCertificate.{OneText}
use Rattle.certificate_commands.proofs.Migrated.{migrated-valid, verified-again, migrated-again}
use Rattle.certificate_commands.proofs.laws.what_migrate_wrote_is_valid.Goals as goal

pub returns : goal.returns
returns c =
    let alike = c.alike_certificates_have_one_verdict.ensures in
    let laws : OneText = record { alike = c.certificates_with_one_text_are_alike.ensures; carried = alike.verdict; count = alike.count; lines = alike.lines; one = c.a_certificate_has_one_verdict.ensures } in
    let digests = c.a_digest_is_32_bytes.ensures in
    record { valid = migrated-valid digests; verify = verified-again laws digests; migrate = migrated-again laws digests }
