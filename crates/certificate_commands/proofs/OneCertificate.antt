-- A certificate's file that is known has one outcome.
use Rattle.std.proofs.Common.{◌≡◌, ◌≢◌, ℕ, ◌≤◌, arith, List, [], ◌∷◌, length, take, sym, ap, subst, ◌∙◌}
use Rattle.std.proofs.lemmas.List.{take_all}
use Rattle.bz_model.specs.Spec.{Spec}
use Rattle.certificate.specs.declared.certificate.Certificate.{Certificate}
use Rattle.certificate.specs.declared.certificate.Header.{Header}
use Rattle.certificate.specs.declared.reason.Reason.{Reason}
use Rattle.certificate.specs.declared.reason.Verdict.{Verdict}
use Rattle.certificate.specs.declared.reason.Verdict.TheVariants.{Valid, Invalid}
use Rattle.certificate.specs.Alike.{AreAlike}
use Rattle.certificate.specs.Certificates.{certificate_lines}
use Rattle.certificate.specs.Checks.{checks}
use Rattle.certificate.specs.Lines.{text_of}
use Rattle.certificate.specs.Reading.{IsTextOf, IsFirstBad}
use Rattle.certificate.specs.Verdicts.{FirstFails}
use Rattle.call_stages.specs.Outcomes.{Outcome, Says, MaySay, IsOne}
use Rattle.call_stages.specs.Stages.{Files, AreCalm, HasSpecification}
use Rattle.call_stages.specs.declared.status.Status.{Status}
use Rattle.call_stages.proofs.OneReading.{may-say-only, read-only, one-read, one-specified}
use Rattle.certificate_commands.specs.CertificateStage.{bad_line, long_certificate_line, CertificateJudged, CertificateRead}
use Rattle.certificate_commands.specs.CertificateStage as stage
use Rattle.certificate_commands.specs.Tested.{tested_bits, test_ticks, invalid_line, Tested, ReadAndTested, Verified}
use Rattle.certificate_commands.specs.Tested as tests
use Rattle.certificate_commands.specs.VerifyCommand.{valid_line}
use Rattle.certificate_commands.specs.MigrateCommand.{certificate_in_2, header_in_2, migrated_text}
use Rattle.certificate_commands.specs.Completeness.{HasCertificate}
use Rattle.call_stages.proofs.Completing.{specified-only}

-- The laws of certificates that are used.
pub record OneText : Type 0 where
  pub alike : (bytes : List ℕ) (a b : Certificate) → IsTextOf bytes a → IsTextOf bytes b → AreAlike a b
  pub carried : (s : Spec) (F : ℕ) (a b : Certificate) (told : Verdict) → AreAlike a b → FirstFails (checks s F a) told → FirstFails (checks s F b) told
  pub count : (a b : Certificate) → AreAlike a b → length a.entries ≡ length b.entries
  pub lines : (a b : Certificate) → AreAlike a b → certificate_lines a ≡ certificate_lines b
  pub one : (s : Spec) (F : ℕ) (c : Certificate) (told other : Verdict) → FirstFails (checks s F c) told → FirstFails (checks s F c) other → told ≡ other

-- what is said twice is the same
same-said : (said status other : Status) (line text others : List ℕ) (most ticks : ℕ) → Says said line most status text ticks → (other ≡ said) × (others ≡ line) → (status ≡ other) × (text ≡ others)
same-said said status other line text others most ticks h k = (h.status_is ∙ sym k.0, h.text_is ∙ sym k.1)

-- the tests of an alike certificate
tests-carried : (laws : OneText) (s : Spec) (a b : Certificate) (told : Verdict) → AreAlike a b → FirstFails (checks s (tested_bits a.header) a) told → FirstFails (checks s (tested_bits b.header) b) told
tests-carried laws s a b told alike h = subst (λ (k : Header). FirstFails (checks s (tested_bits k) b) told) alike.header (laws.carried s (tested_bits a.header) a b told alike h)

-- alike certificates in version 2
in-2-alike : (s : Spec) (a b : Certificate) → AreAlike a b → AreAlike (certificate_in_2 s a) (certificate_in_2 s b)
in-2-alike s a b alike = record { header = ap (header_in_2 s) alike.header; entries = alike.entries; closing = alike.closing }

-- Certificates that say the same, put into version 2 for one specification, have the same text.
pub one-migrated : (laws : OneText) (s : Spec) (a b : Certificate) → AreAlike a b → migrated_text s a ≡ migrated_text s b
one-migrated laws s a b alike = ap text_of (laws.lines (certificate_in_2 s a) (certificate_in_2 s b) (in-2-alike s a b alike))

-- Certificates that say the same are valid with the same line, since they have equally many
-- entries.
pub one-counted : (laws : OneText) (s : Spec) (a b : Certificate) → AreAlike a b → valid_line (length a.entries) ≡ valid_line (length b.entries)
one-counted laws s a b alike = ap valid_line (laws.count a b alike)

module _ (laws : OneText) (s : Spec) (c : Certificate) (next : Outcome) (status : Status) (text : List ℕ) (ticks : ℕ) (memory : status ≢ Status.OutOfMemory) where
  -- where each test passes
  valid-only : FirstFails (checks s (tested_bits c.header) c) Valid → Tested s c next status text ticks → next status text ticks
  valid-only passes (tests.invalid line why fails says) = let never : Valid ≡ Invalid line why = laws.one s (tested_bits c.header) c Valid (Invalid line why) passes fails in absurd (cc)
  valid-only passes (tests.no_memory says) = absurd (memory says.status_is)
  valid-only passes (tests.valid valid p) = p

  -- where one fails
  invalid-only : (line : ℕ) (why : Reason) → FirstFails (checks s (tested_bits c.header) c) (Invalid line why) → Tested s c next status text ticks → (status ≡ Status.CertRefused) × (text ≡ invalid_line line why)
  invalid-only line why fails (tests.invalid at reason too says) =
      let same : Invalid at reason ≡ Invalid line why = laws.one s (tested_bits c.header) c (Invalid at reason) (Invalid line why) too fails in
      let lines : at ≡ line = cc in
      let reasons : reason ≡ why = cc in
      (says.status_is, says.text_is ∙ ap (λ n. invalid_line n reason) lines ∙ ap (invalid_line line) reasons)
  invalid-only line why fails (tests.no_memory says) = absurd (memory says.status_is)
  invalid-only line why fails (tests.valid valid p) = let never : Valid ≡ Invalid line why = laws.one s (tested_bits c.header) c Valid (Invalid line why) valid.passes fails in absurd (cc)

-- A certificate's text goes on with a certificate that has this text.
certificate-only : (next : Certificate → Outcome) (bytes : List ℕ) (c : Certificate) → length bytes ≤ 268435456 → IsTextOf bytes c → (status : Status) (text : List ℕ) (ticks : ℕ) → status ≢ Status.OutOfMemory → CertificateJudged next bytes status text ticks → (d : Certificate) × IsTextOf bytes d × next d status text ticks
certificate-only next bytes c few is status text ticks memory (stage.too_long long says) = absurd (omega (arith, few, long))
certificate-only next bytes c few is status text ticks memory (stage.refused line f bad says) = absurd (bad.none c is)
certificate-only next bytes c few is status text ticks memory (stage.no_memory says) = absurd (memory says.status_is)
certificate-only next bytes c few is status text ticks memory (stage.read d f too p) = (d, too, p)

-- What is said of a valid certificate is the same of alike ones.
module _ (laws : OneText) (s : Spec) (line : Certificate → List ℕ) (one_line : (a b : Certificate) → AreAlike a b → line a ≡ line b) where
  -- what is said of a valid certificate
  abbrev said-of : Certificate → Outcome
  said-of c = MaySay Status.Done (line c) test_ticks

  abbrev tested : Certificate → Outcome
  tested c = Tested s c (said-of c)

  valid-said : (c d : Certificate) → AreAlike c d → FirstFails (checks s (tested_bits c.header) c) Valid → (status : Status) (text : List ℕ) (ticks : ℕ) → status ≢ Status.OutOfMemory → tested d status text ticks → (status ≡ Status.Done) × (text ≡ line c)
  valid-said c d alike passes status text ticks memory h =
      let said = valid-only laws s d (said-of d) status text ticks memory (tests-carried laws s c d Valid alike passes) h in
      let r = may-say-only Status.Done (line d) test_ticks status text ticks memory said in
      (r.0, r.1 ∙ sym (one_line c d alike))

  invalid-said : (c d : Certificate) → AreAlike c d → (at : ℕ) (why : Reason) → FirstFails (checks s (tested_bits c.header) c) (Invalid at why) → (status : Status) (text : List ℕ) (ticks : ℕ) → status ≢ Status.OutOfMemory → tested d status text ticks → (status ≡ Status.CertRefused) × (text ≡ invalid_line at why)
  invalid-said c d alike at why fails status text ticks memory h = invalid-only laws s d (said-of d) status text ticks memory at why (tests-carried laws s c d (Invalid at why) alike fails) h

  module _ (status other : Status) (text others : List ℕ) (ticks more : ℕ) (m : status ≢ Status.OutOfMemory) (n : other ≢ Status.OutOfMemory) where
    tested-twice : (c d : Certificate) → AreAlike c d → tested c status text ticks → tested d other others more → (status ≡ other) × (text ≡ others)
    tested-twice c d alike (tests.invalid at why fails says) q = same-said Status.CertRefused status other (invalid_line at why) text others test_ticks ticks says (invalid-said c d alike at why fails other others more n q)
    tested-twice c d alike (tests.no_memory says) q = absurd (m says.status_is)
    tested-twice c d alike (tests.valid valid p) q =
        let a = may-say-only Status.Done (line c) test_ticks status text ticks m p in
        let b = valid-said c d alike valid.passes other others more n q in
        (a.0 ∙ sym b.0, a.1 ∙ sym b.1)

    judged-twice : (bytes : List ℕ) → ((at lower : ℕ) → IsFirstBad bytes at → IsFirstBad bytes lower → at ≡ lower) → CertificateJudged tested bytes status text ticks → CertificateJudged tested bytes other others more → (status ≡ other) × (text ≡ others)
    judged-twice bytes one_bad (stage.no_memory says) q = absurd (m says.status_is)
    judged-twice bytes one_bad (stage.read c few is p) q = let r = certificate-only tested bytes c few is other others more n q in tested-twice c r.0 (laws.alike bytes c r.0 is r.1) p r.2
    judged-twice bytes one_bad (stage.too_long long says) (stage.too_long longer says_too) = same-said Status.CertRefused status other long_certificate_line text others 0 ticks says (says_too.status_is, says_too.text_is)
    judged-twice bytes one_bad (stage.too_long long says) (stage.refused at few bad says_too) = absurd (omega (arith, few, long))
    judged-twice bytes one_bad (stage.too_long long says) (stage.no_memory says_too) = absurd (n says_too.status_is)
    judged-twice bytes one_bad (stage.too_long long says) (stage.read c few is q) = absurd (omega (arith, few, long))
    judged-twice bytes one_bad (stage.refused at few bad says) (stage.too_long long says_too) = absurd (omega (arith, few, long))
    judged-twice bytes one_bad (stage.refused at few bad says) (stage.refused lower fewer worse says_too) = same-said Status.CertRefused status other (bad_line at) text others 0 ticks says (says_too.status_is, says_too.text_is ∙ ap bad_line (one_bad lower at worse bad))
    judged-twice bytes one_bad (stage.refused at few bad says) (stage.no_memory says_too) = absurd (n says_too.status_is)
    judged-twice bytes one_bad (stage.refused at few bad says) (stage.read c f is q) = absurd (bad.none c is)

  one-judged : (bytes : List ℕ) → ((at lower : ℕ) → IsFirstBad bytes at → IsFirstBad bytes lower → at ≡ lower) → IsOne (CertificateJudged tested bytes)
  one-judged bytes one_bad = record { one = λ status other text others ticks more m n p q. judged-twice status other text others ticks more m n bytes one_bad p q }

-- What is read of files that are known.
pub known-only : (next : Spec → Certificate → Outcome) (f : Files) (file cert : List ℕ) (s : Spec) (c : Certificate) → HasSpecification f file s → (is : HasCertificate f cert c) → (status : Status) (text : List ℕ) (ticks : ℕ) → status ≢ Status.OutOfMemory → Verified f file cert next status text ticks → (d : Certificate) × IsTextOf is.calm.bytes d × Tested s d (next s d) status text ticks
known-only next f file cert s c has is status text ticks memory h =
    let tested : Certificate → Outcome = λ d. Tested s d (next s d) in
    let read = read-only f cert 268435457 (CertificateJudged tested) is.calm status text ticks memory (specified-only f file s (ReadAndTested f cert next) status text ticks has memory h) in
    let few = is.few in
    let all : take 268435457 is.calm.bytes ≡ is.calm.bytes = take_all 268435457 is.calm.bytes (omega (arith, few)) in
    certificate-only tested is.calm.bytes c is.few is.is_text status text ticks memory (subst (λ b. CertificateJudged tested b status text ticks) all read)

-- A command that says one thing of a valid certificate.
module _ (laws : OneText) (line : Spec → Certificate → List ℕ) (one_line : (s : Spec) (a b : Certificate) → AreAlike a b → line s a ≡ line s b) where
  abbrev says : Spec → Certificate → Outcome
  says s c = MaySay Status.Done (line s c) test_ticks

  pub one-verified : ((bytes : List ℕ) (at lower : ℕ) → IsFirstBad bytes at → IsFirstBad bytes lower → at ≡ lower) → (f : Files) (file cert : List ℕ) → AreCalm f (file ∷ cert ∷ []) → IsOne (Verified f file cert says)
  one-verified one_bad f file cert calm = one-specified f file (ReadAndTested f cert says) calm.0 (λ s. one-read f cert 268435457 (CertificateJudged (λ c. Tested s c (says s c))) calm.1.0 (λ bytes. one-judged laws s (line s) (one_line s) bytes (one_bad bytes)))

  -- a certificate that is valid
  pub valid-verified : (f : Files) (file cert : List ℕ) (s : Spec) (c : Certificate) (status : Status) (text : List ℕ) (ticks : ℕ) → HasSpecification f file s → HasCertificate f cert c → FirstFails (checks s (tested_bits c.header) c) Valid → status ≢ Status.OutOfMemory → Verified f file cert says status text ticks → (status ≡ Status.Done) × (text ≡ line s c)
  valid-verified f file cert s c status text ticks has is passes memory h =
      let r = known-only says f file cert s c has is status text ticks memory h in
      valid-said laws s (line s) (one_line s) c r.0 (laws.alike is.calm.bytes c r.0 is.is_text r.1) passes status text ticks memory r.2

  -- and one that isn't
  pub invalid-verified : (f : Files) (file cert : List ℕ) (s : Spec) (c : Certificate) (at : ℕ) (why : Reason) (status : Status) (text : List ℕ) (ticks : ℕ) → HasSpecification f file s → HasCertificate f cert c → FirstFails (checks s (tested_bits c.header) c) (Invalid at why) → status ≢ Status.OutOfMemory → Verified f file cert says status text ticks → (status ≡ Status.CertRefused) × (text ≡ invalid_line at why)
  invalid-verified f file cert s c at why status text ticks has is fails memory h =
      let r = known-only says f file cert s c has is status text ticks memory h in
      invalid-said laws s (line s) (one_line s) c r.0 (laws.alike is.calm.bytes c r.0 is.is_text r.1) at why fails status text ticks memory r.2
