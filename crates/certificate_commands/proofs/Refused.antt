-- When the answer is certain: the certificate's file is too long, or is no certificate's text.
use Rattle.std.proofs.Common.{◌≡◌, ◌≢◌, ℕ, ◌≤◌, List, length, take, subst, ap, ◌∙◌, arith}
use Rattle.std.proofs.lemmas.List.{take_all}
use Rattle.bz_model.specs.Spec.{Spec}
use Rattle.certificate.specs.declared.certificate.Certificate.{Certificate}
use Rattle.certificate.specs.Reading.{IsFirstBad}
use Rattle.certificate.proofs.OneText.{one-bad}
use Rattle.call_stages.specs.Outcomes.{Outcome}
use Rattle.call_stages.specs.Stages.{Files, IsCalm, HasSpecification}
use Rattle.call_stages.specs.declared.status.Status.{Status}
use Rattle.call_stages.proofs.Completing.{specified-only}
use Rattle.call_stages.proofs.OneReading.{read-only}
use Rattle.certificate_commands.specs.CertificateStage.{bad_line, CertificateJudged}
use Rattle.certificate_commands.specs.CertificateStage as stage
use Rattle.certificate_commands.specs.Tested.{Tested, ReadAndTested, Verified}

module _ (status : Status) (text : List ℕ) (ticks : ℕ) (memory : status ≢ Status.OutOfMemory) where
  bad-only : (next : Certificate → Outcome) (bytes : List ℕ) (line : ℕ) → length bytes ≤ 268435456 → IsFirstBad bytes line → CertificateJudged next bytes status text ticks → (status ≡ Status.CertRefused) × (text ≡ bad_line line)
  bad-only next bytes line few bad (stage.too_long long says) = absurd (omega (arith, few, long))
  bad-only next bytes line few bad (stage.refused other f worse says) = (says.status_is, says.text_is ∙ ap bad_line (one-bad bytes other line worse bad))
  bad-only next bytes line few bad (stage.no_memory says) = absurd (memory says.status_is)
  bad-only next bytes line few bad (stage.read c f is p) = absurd (bad.none c is)

  pub refused-line : (f : Files) (file cert : List ℕ) (s : Spec) (calm : IsCalm f cert) (line : ℕ) (next : Spec → Certificate → Outcome) → HasSpecification f file s → length calm.bytes ≤ 268435456 → IsFirstBad calm.bytes line → Verified f file cert next status text ticks → (status ≡ Status.CertRefused) × (text ≡ bad_line line)
  refused-line f file cert s calm line next has few bad h =
      let tested : Certificate → Outcome = λ c. Tested s c (next s c) in
      let read = read-only f cert 268435457 (CertificateJudged tested) calm status text ticks memory (specified-only f file s (ReadAndTested f cert next) status text ticks has memory h) in
      let all : take 268435457 calm.bytes ≡ calm.bytes = take_all 268435457 calm.bytes (omega (arith, few)) in
      bad-only tested calm.bytes line few bad (subst (λ b. CertificateJudged tested b status text ticks) all read)
