-- The command `migrate`.
use Rattle.std.specs.Prelude.{ℕ, List, Option, Some, None}
use Rattle.bz_model.specs.Spec.{Spec}
use Rattle.certificate.specs.declared.certificate.Certificate.{Certificate}
use Rattle.certificate.specs.declared.certificate.CertEntry.{CertEntry}
use Rattle.certificate.specs.declared.certificate.Header.{Header}
use Rattle.certificate.specs.Certificates.{entry_lines, certificate_lines}
use Rattle.certificate.specs.Lines.{text_of}
use Rattle.class_system.specs.CanonicalText.{canonical_text}
use Rattle.sha2.specs.Sha256.{sha256}
use Rattle.call_stages.specs.Outcomes.{Outcome, MaySay}
use Rattle.call_stages.specs.Stages.{Files}
use Rattle.call_stages.specs.declared.status.Status.{Status}
use Rattle.certificate_commands.specs.Tested.{test_ticks, Verified}

-- The digest of a header: its own, or where it has none that of the specification's canonical text.
abbrev pub own_digest : Spec → Option (List ℕ) → List ℕ
own_digest s (Some digest) = digest
own_digest s None = sha256 (canonical_text s)

-- A header in version 2: with a digest, and all else as it was. One of version 2 stays as it is.
abbrev pub header_in_2 : Spec → Header → Header
header_in_2 s h = record h { version = 2; digest = Some (own_digest s h.digest) }

-- A certificate in version 2: with that header, and the same entries and closing.
abbrev pub certificate_in_2 : Spec → Certificate → Certificate
certificate_in_2 s c = record c { header = header_in_2 s c.header }

-- The lines of an entry.
abbrev pub entry_text : CertEntry → List ℕ
entry_text e = text_of (entry_lines e)

-- The lines of a certificate in version 2.
abbrev pub migrated_text : Spec → Certificate → List ℕ
migrated_text s c = text_of (certificate_lines (certificate_in_2 s c))

-- A valid certificate is written in version 2.
abbrev pub WrittenIn2 : Spec → Certificate → Outcome
WrittenIn2 s c = MaySay Status.Done (migrated_text s c) test_ticks

-- `migrate FILE CERT`: a specification is read and judged, a certificate is read and tested against
-- it, and where it is valid it is written in version 2.
abbrev pub CarriesMigrate : Files → (file cert : List ℕ) → Outcome
CarriesMigrate f file cert = Verified f file cert WrittenIn2
