-- A certificate is tested against a specification: the stages that `verify` and `migrate` share,
-- with what comes next as a parameter.
use Rattle.std.specs.Prelude.{ℕ, ◌+◌, List, [], ◌++◌, nat_eq, if◌then◌else◌, decimal, codes, Option}
use Rattle.bz_model.specs.Spec.{Spec}
use Rattle.certificate.specs.declared.certificate.Certificate.{Certificate}
use Rattle.certificate.specs.declared.certificate.Header.{Header}
use Rattle.certificate.specs.declared.reason.Reason.{Reason}
use Rattle.certificate.specs.declared.reason.Reason.TheVariants as reason
use Rattle.certificate.specs.declared.reason.Verdict.TheVariants.{Valid, Invalid}
use Rattle.certificate.specs.Checks.{checks}
use Rattle.certificate.specs.Soundness.{IsSoundCertificate}
use Rattle.certificate.specs.Verdicts.{FirstFails}
use Rattle.oracle_memo.specs.Levels.{cost_at}
use Rattle.call_stages.specs.Lines.{feed}
use Rattle.call_stages.specs.Outcomes.{Outcome, Says}
use Rattle.call_stages.specs.Stages.{Files, Specified, IsSpecified}
use Rattle.call_stages.specs.declared.status.Status.{Status}
use Rattle.certificate_commands.specs.CertificateStage.{CertificateRead, IsCertificateIn}

-- The fraction bits with which a certificate is tested: 40 or 52 where a header of version 2 names
-- them, and 48 otherwise, also where it names a number that no command offers. That one fails the
-- test of the fraction bits.
abbrev pub tested_bits : Header → ℕ
tested_bits h =
    if nat_eq h.version 1 then 48
    else if nat_eq h.fraction 40 then 40
    else if nat_eq h.fraction 52 then 52
    else 48

-- The word of a test.
abbrev pub reason_word : Reason → List ℕ
reason_word reason.Mode = codes "mode"
reason_word reason.Spec = codes "spec"
reason_word reason.Fraction = codes "fraction"
reason_word reason.Window = codes "window"
reason_word reason.Base = codes "base"
reason_word reason.Object = codes "object"
reason_word reason.Cells = codes "cells"
reason_word reason.Text = codes "text"
reason_word reason.Closing = codes "closing"

-- The first test that fails, with the line where its field is.
abbrev pub invalid_line : (line : ℕ) → Reason → List ℕ
invalid_line line why =
    codes "invalid line " ++ (decimal line ++ (codes " " ++ (reason_word why ++ feed)))

-- The most steps of the tests: one for the base, and those of all six levels.
abbrev pub test_ticks : ℕ
test_ticks = 1 + cost_at 6

-- All tests of a certificate pass, and it is sound.
pub record IsValid (s : Spec) (c : Certificate) : Type 0 where
  pub passes : FirstFails (checks s (tested_bits c.header) c) Valid
  pub sound : IsSoundCertificate s (tested_bits c.header) c

-- A certificate is tested: a test fails, and the first that does is told, or it is valid. What
-- comes next states the steps of the tests, too.
pub data Tested (s : Spec) (c : Certificate) (next : Outcome) (status : Status) (text : List ℕ)
    (ticks : ℕ) : Type 0 where
  invalid : (line : ℕ) (why : Reason)
      → FirstFails (checks s (tested_bits c.header) c) (Invalid line why)
      → Says Status.CertRefused (invalid_line line why) test_ticks status text ticks
      → Tested s c next status text ticks
  no_memory : Says Status.OutOfMemory [] test_ticks status text ticks
      → Tested s c next status text ticks
  valid : IsValid s c → next status text ticks → Tested s c next status text ticks

-- A certificate is read from a file, and tested.
abbrev pub ReadAndTested : Files → (cert : List ℕ) → (next : Spec → Certificate → Outcome) → Spec
    → Outcome
ReadAndTested f cert next s = CertificateRead f cert (λ c. Tested s c (next s c))

-- A specification is read and judged, then a certificate is read and tested against it.
abbrev pub Verified : Files → (file cert : List ℕ) → (next : Spec → Certificate → Outcome) → Outcome
Verified f file cert next = Specified f file (ReadAndTested f cert next)

-- This specification and this certificate were read from files, and the certificate is valid.
pub record AreVerified (content : List ℕ → Option (List ℕ)) (file cert : List ℕ) (s : Spec)
    (c : Certificate) : Type 0 where
  pub specified : IsSpecified content file s
  pub found : IsCertificateIn content cert c
  pub valid : IsValid s c
