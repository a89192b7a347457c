-- Testing a certificate: what ends a call, and what follows a valid one.
use Rattle.std.proofs.Common.{◌≡◌, ℕ, ◌+◌, ◌≤◌, arith, List, refl, sym, subst, ◌∙◌}
use Rattle.std.specs.Prelude.{Option}
use Rattle.bz_model.specs.Spec.{Spec}
use Rattle.certificate.specs.declared.certificate.Certificate.{Certificate}
use Rattle.certificate.specs.declared.reason.Reason.{Reason}
use Rattle.certificate.specs.declared.reason.Verdict.{Verdict}
use Rattle.certificate.specs.declared.reason.Verdict.TheVariants.{Valid, Invalid}
use Rattle.certificate.specs.Checks.{checks}
use Rattle.certificate.specs.Soundness.{IsSoundCertificate}
use Rattle.certificate.specs.Verdicts.{FirstFails}
use Rattle.call_stages.specs.Ends.{output, EndsBy}
use Rattle.call_stages.specs.Outcomes.{Outcome, Never, Says, MaySay, IsWithin}
use Rattle.call_stages.specs.Outcomes as outcomes
use Rattle.call_stages.specs.Reports.{refusal_status, refusal_text}
use Rattle.call_stages.specs.Stages.{Files, files, IsSpecified, Specified, Judged}
use Rattle.call_stages.specs.declared.report.Refusal.{Refusal}
use Rattle.call_stages.specs.declared.report.Refusal.TheVariants as refusal
use Rattle.call_stages.specs.declared.status.Status.{Status}
use Rattle.call_stages.proofs.Endings.{ends_on, written_on}
use Rattle.call_stages.proofs.Staging.{says-nothing, goes_on_with, ended_before}
use Rattle.call_stages.proofs.Staging as staging
use Rattle.certificate_commands.specs.CertificateStage.{IsCertificateIn, CertificateRead}
use Rattle.certificate_commands.specs.Tested.{tested_bits, test_ticks, invalid_line, IsValid, Tested, ReadAndTested, Verified, AreVerified}
use Rattle.certificate_commands.specs.Tested as tests
use Rattle.certificate_commands.proofs.Judging.{nothing, goes_on_with_certificate}
use Rattle.certificate_commands.proofs.Judging as judging

module _ (s : Spec) (c : Certificate) (F : ℕ) (bits : F ≡ tested_bits c.header) where
  -- each test passes
  pub is_valid : (told : Verdict) → told ≡ Valid → FirstFails (checks s F c) told → (told ≡ Valid → IsSoundCertificate s F c) → IsValid s c
  is_valid told is passes sound = subst (λ k. FirstFails (checks s k c) Valid × IsSoundCertificate s k c → IsValid s c) (sym bits) (λ p. record { passes = p.0; sound = p.1 }) (subst (FirstFails (checks s F c)) is passes, sound is)

  -- one fails
  pub not_valid : (line : ℕ) (why : Reason) (status : Status) (text : List ℕ) → FirstFails (checks s F c) (Invalid line why) → Says Status.CertRefused (invalid_line line why) 0 status text 0 → Tested s c Never status text test_ticks
  not_valid line why status text fails says = tests.invalid line why (subst (λ k. FirstFails (checks s k c) (Invalid line why)) bits fails) (record { status_is = says.status_is; text_is = says.text_is; ticks_are = refl })

-- memory ran out
pub testing_lacks_memory : (s : Spec) (c : Certificate) (e : Refusal) → e ≡ refusal.OutOfMemory → Tested s c Never (refusal_status e) (refusal_text e) test_ticks
testing_lacks_memory s c e is = tests.no_memory (says-nothing test_ticks e is)

-- what ended the call at the tests, whatever would have come next
pub tested-before : (s : Spec) (c : Certificate) (next : Outcome) (status : Status) (text : List ℕ) (ticks : ℕ) → Tested s c Never status text ticks → Tested s c next status text ticks
tested-before s c next status text ticks (tests.invalid line why fails says) = tests.invalid line why fails says
tested-before s c next status text ticks (tests.no_memory says) = tests.no_memory says
tested-before s c next status text ticks (tests.valid valid never) = absurd never

-- nothing comes after the tests
abbrev pub no-more : Spec → Certificate → Outcome
no-more s c = Never

module _ (content : List ℕ → Option (List ℕ)) (before after : List ℕ → ℕ) (cert : List ℕ) (s : Spec) (status : Status) (text : List ℕ) (tb ta : ℕ) where
  -- a test failed
  pub stopped-at-tests : (c : Certificate) → IsCertificateIn content cert c → Tested s c Never status text test_ticks → ta ≤ tb + test_ticks → IsWithin (ReadAndTested (files content before after) cert no-more s) status text tb ta
  stopped-at-tests c found p few = record { ticks = test_ticks; is = goes_on_with_certificate content before after cert (λ d. Tested s d Never) c status text test_ticks found p; few = few }

  -- the certificate is refused
  pub stopped-at-certificate : CertificateRead (files content before after) cert nothing status text 0 → ta ≤ tb → IsWithin (ReadAndTested (files content before after) cert no-more s) status text tb ta
  stopped-at-certificate p few = record { ticks = 0; is = judging.read_as content before after cert nothing (λ d. Tested s d Never) status text 0 (λ d never. absurd never) p; few = omega (arith, few) }

module _ (f : Files) (file cert : List ℕ) (status : Status) (text : List ℕ) (tb ta : ℕ) where
  -- the specification was read
  pub specified-within : (s : Spec) → IsSpecified f.content file s → IsWithin (ReadAndTested f cert no-more s) status text tb ta → IsWithin (Verified f file cert no-more) status text tb ta
  specified-within s is h = record { ticks = h.ticks; is = goes_on_with f file (ReadAndTested f cert no-more) s status text h.ticks is h.is; few = h.few }

  -- it is refused
  pub stopped-at-specification : Specified f file (λ s. Never) status text 0 → ta ≤ tb → IsWithin (Verified f file cert no-more) status text tb ta
  stopped-at-specification p few = record { ticks = 0; is = ended_before f file (ReadAndTested f cert no-more) status text 0 p; few = omega (arith, few) }

-- the same where the certificate was read after it
pub within-after : (content between : List ℕ → Option (List ℕ)) (before after : List ℕ → ℕ) (file cert : List ℕ) (s : Spec) (status : Status) (text : List ℕ) (tb ta : ℕ) → between ≡ content → IsSpecified content file s → IsWithin (ReadAndTested (files between before after) cert no-more s) status text tb ta → IsWithin (Verified (files content before after) file cert no-more) status text tb ta
within-after content between before after file cert s status text tb ta same is h = specified-within (files content before after) file cert status text tb ta s is (subst (λ k. IsWithin (ReadAndTested (files k before after) cert no-more s) status text tb ta) same h)

module _ (content : List ℕ → Option (List ℕ)) (before after : List ℕ → ℕ) (file cert : List ℕ) where
  -- a valid certificate was read
  pub are-verified : (between : List ℕ → Option (List ℕ)) (s : Spec) (c : Certificate) → between ≡ content → IsSpecified content file s → IsCertificateIn between cert c → IsValid s c → AreVerified content file cert s c
  are-verified between s c same is found valid = record { specified = is; found = subst (λ k. IsCertificateIn k cert c) same found; valid = valid }

  module _ (next : Spec → Certificate → Outcome) where
    -- what comes of it
    pub verified-on : (s : Spec) (c : Certificate) (status : Status) (text : List ℕ) (ticks : ℕ) → AreVerified content file cert s c → next s c status text ticks → Verified (files content before after) file cert next status text ticks
    verified-on s c status text ticks v p = goes_on_with (files content before after) file (ReadAndTested (files content before after) cert next) s status text ticks v.specified (goes_on_with_certificate content before after cert (λ d. Tested s d (next s d)) c status text ticks v.found (tests.valid v.valid p))

    -- what ended the call before
    pub verified-before : (status : Status) (text : List ℕ) (ticks : ℕ) → Verified (files content before after) file cert no-more status text ticks → Verified (files content before after) file cert next status text ticks
    verified-before status text ticks h =
        let f = files content before after in
        let P = ReadAndTested f cert no-more in
        let Q = ReadAndTested f cert next in
        staging.read_as f file 65537 (Judged P) (Judged Q) status text ticks (λ bytes are p. staging.judged_as P Q bytes status text ticks (λ s q. judging.read_as content before after cert (λ d. Tested s d Never) (λ d. Tested s d (next s d)) status text ticks (λ d r. tested-before s d (next s d) status text ticks r) q) p) h

    pub refusal-ends : (b a : Option (List ℕ)) (fb fa tb ta : ℕ) (result : Status) (e : Refusal) → IsWithin (Verified (files content before after) file cert no-more) (refusal_status e) (refusal_text e) tb ta → EndsBy (Says (refusal_status e) (refusal_text e) 0) (output b a fb fa 0 0) result → EndsBy (Verified (files content before after) file cert next) (output b a fb fa tb ta) result
    refusal-ends b a fb fa tb ta result e h ends = written_on (Verified (files content before after) file cert next) b a fb fa tb ta result (refusal_status e) (refusal_text e) h.ticks ends (verified-before (refusal_status e) (refusal_text e) h.ticks h.is) h.few

  -- what is said of a valid certificate is written
  pub valid-ends : (line : Spec → Certificate → List ℕ) (s : Spec) (c : Certificate) (said : List ℕ) (b a : Option (List ℕ)) (fb fa tb ta : ℕ) (result : Status) → AreVerified content file cert s c → said ≡ line s c → ta ≤ tb + test_ticks → EndsBy (MaySay Status.Done said 0) (output b a fb fa 0 0) result → EndsBy (Verified (files content before after) file cert (λ t d. MaySay Status.Done (line t d) test_ticks)) (output b a fb fa tb ta) result
  valid-ends line s c said b a fb fa tb ta result v same few h = ends_on (MaySay Status.Done said 0) (Verified (files content before after) file cert next) b a fb fa 0 0 tb ta result (λ status text ticks p. (test_ticks, verified-on next s c status text test_ticks v (go status text ticks p), λ start. few)) h
    where
      next : Spec → Certificate → Outcome
      next t d = MaySay Status.Done (line t d) test_ticks

      go : (status : Status) (text : List ℕ) (ticks : ℕ) → MaySay Status.Done said 0 status text ticks → MaySay Status.Done (line s c) test_ticks status text test_ticks
      go status text ticks (outcomes.says says) = outcomes.says (record { status_is = says.status_is; text_is = says.text_is ∙ same; ticks_are = refl })
      go status text ticks (outcomes.no_memory says) = outcomes.no_memory (record { status_is = says.status_is; text_is = says.text_is; ticks_are = refl })
