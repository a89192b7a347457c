-- A certificate is read from a file: a stage of a call with what comes next as a parameter.
use Rattle.std.specs.Prelude.{ℕ, ◌<◌, ◌≤◌, List, [], ◌++◌, length, decimal, codes, Option}
use Rattle.certificate.specs.declared.certificate.Certificate.{Certificate}
use Rattle.certificate.specs.Reading.{IsTextOf, IsFirstBad}
use Rattle.call_stages.specs.Lines.{feed}
use Rattle.call_stages.specs.Outcomes.{Outcome, Says}
use Rattle.call_stages.specs.Stages.{Files, AreRead, FileRead}
use Rattle.call_stages.specs.declared.status.Status.{Status}

-- A certificate's file is too long.
abbrev pub long_certificate_line : List ℕ
long_certificate_line = codes "refused certificate too long" ++ feed

-- The first bad line of a text that is no certificate's.
abbrev pub bad_line : (line : ℕ) → List ℕ
bad_line line = codes "refused certificate line " ++ (decimal line ++ feed)

-- The bytes are read: they are too many, they are no certificate's text, or they are that of a
-- certificate. The specification isn't looked at.
pub data CertificateJudged (next : Certificate
    → Outcome) (bytes : List ℕ) (status : Status) (text : List ℕ) (ticks : ℕ) : Type 0 where
  too_long : 268435456 < length bytes
      → Says Status.CertRefused long_certificate_line 0 status text ticks
      → CertificateJudged next bytes status text ticks
  refused : (line : ℕ) → length bytes ≤ 268435456 → IsFirstBad bytes line
      → Says Status.CertRefused (bad_line line) 0 status text ticks
      → CertificateJudged next bytes status text ticks
  no_memory : Says Status.OutOfMemory [] 0 status text ticks
      → CertificateJudged next bytes status text ticks
  read : (c : Certificate) → length bytes ≤ 268435456 → IsTextOf bytes c → next c status text ticks
      → CertificateJudged next bytes status text ticks

-- A certificate is read from the first 268435457 bytes of a file.
abbrev pub CertificateRead : Files → (file : List ℕ) → (next : Certificate → Outcome) → Outcome
CertificateRead f file next = FileRead f file 268435457 (CertificateJudged next)

-- This certificate was read from a file.
pub record IsCertificateIn (content : List ℕ → Option (List ℕ)) (file : List ℕ) (c : Certificate)
    : Type 0 where
  pub bytes : List ℕ
  pub read : AreRead content file 268435457 bytes
  pub few : length bytes ≤ 268435456
  pub is_text : IsTextOf bytes c
