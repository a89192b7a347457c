-- What a call that is done has read.
use Rattle.std.proofs.Common.{◌≡◌, ◌≢◌, ℕ, List, length, sym, ◌∙◌}
use Rattle.bz_model.specs.Spec.{Spec}
use Rattle.certificate.specs.declared.certificate.Certificate.{Certificate}
use Rattle.call_stages.specs.Outcomes.{Outcome, Says, MaySay}
use Rattle.call_stages.specs.Outcomes as outcomes
use Rattle.call_stages.specs.Stages.{Files}
use Rattle.call_stages.specs.Stages as stages
use Rattle.call_stages.specs.declared.status.Status.{Status}
use Rattle.call_stages.proofs.Completing.{done-specified}
use Rattle.certificate_commands.specs.CertificateStage.{CertificateJudged, CertificateRead, IsCertificateIn}
use Rattle.certificate_commands.specs.CertificateStage as stage
use Rattle.certificate_commands.specs.Tested.{test_ticks, IsValid, Tested, ReadAndTested, Verified, AreVerified}
use Rattle.certificate_commands.specs.Tested as tests
use Rattle.certificate_commands.specs.VerifyCommand.{valid_line, CarriesVerify}
use Rattle.certificate_commands.specs.MigrateCommand.{migrated_text, CarriesMigrate}
use Rattle.certificate_commands.specs.Completeness.{IsVerifiedAs}

not-done : {P : Type 0} (said status : Status) (line text : List ℕ) (most ticks : ℕ) → said ≢ Status.Done → status ≡ Status.Done → Says said line most status text ticks → P
not-done said status line text most ticks other done says = absurd (other (sym says.status_is ∙ done))

module _ (status : Status) (text : List ℕ) (ticks : ℕ) (done : status ≡ Status.Done) where
  done-certificate : (f : Files) (file : List ℕ) (next : Certificate → Outcome) → CertificateRead f file next status text ticks → (c : Certificate) × IsCertificateIn f.content file c × next c status text ticks
  done-certificate f file next (stages.failed rose says) = not-done Status.ReadFault status _ text _ ticks (λ e. absurd (cc)) done says
  done-certificate f file next (stages.no_memory says) = not-done Status.OutOfMemory status _ text _ ticks (λ e. absurd (cc)) done says
  done-certificate f file next (stages.read bytes are p) = go p
    where
      go : CertificateJudged next bytes status text ticks → (c : Certificate) × IsCertificateIn f.content file c × next c status text ticks
      go (stage.too_long long says) = not-done Status.CertRefused status _ text _ ticks (λ e. absurd (cc)) done says
      go (stage.refused line few bad says) = not-done Status.CertRefused status _ text _ ticks (λ e. absurd (cc)) done says
      go (stage.no_memory says) = not-done Status.OutOfMemory status _ text _ ticks (λ e. absurd (cc)) done says
      go (stage.read c few is q) = (c, record { bytes = bytes; read = are; few = few; is_text = is }, q)

  pub done-tested : (s : Spec) (c : Certificate) (next : Outcome) → Tested s c next status text ticks → IsValid s c × next status text ticks
  done-tested s c next (tests.invalid line why fails says) = not-done Status.CertRefused status _ text _ ticks (λ e. absurd (cc)) done says
  done-tested s c next (tests.no_memory says) = not-done Status.OutOfMemory status _ text _ ticks (λ e. absurd (cc)) done says
  done-tested s c next (tests.valid valid p) = (valid, p)

  pub done-said : (line : List ℕ) → MaySay Status.Done line test_ticks status text ticks → text ≡ line
  done-said line (outcomes.says says) = says.text_is
  done-said line (outcomes.no_memory says) = not-done Status.OutOfMemory status _ text _ ticks (λ e. absurd (cc)) done says

  done-verified : (f : Files) (file cert : List ℕ) (line : Spec → Certificate → List ℕ) → Verified f file cert (λ s c. MaySay Status.Done (line s c) test_ticks) status text ticks → IsVerifiedAs f file cert line text
  done-verified f file cert line h =
      let next : Spec → Certificate → Outcome = λ s c. MaySay Status.Done (line s c) test_ticks in
      let d = done-specified f file (ReadAndTested f cert next) status text ticks done h in
      let r = done-certificate f cert (λ c. Tested d.0 c (next d.0 c)) d.2 in
      let t = done-tested d.0 r.0 (next d.0 r.0) r.2 in
      record { spec = d.0; certificate = r.0; verified = record { specified = d.1; found = r.1; valid = t.0 }; text_is = done-said (line d.0 r.0) t.1 }

-- what `verify` finds valid
pub found-valid : (f : Files) (file cert : List ℕ) (status : Status) (text : List ℕ) (ticks : ℕ) → status ≡ Status.Done → CarriesVerify f file cert status text ticks → IsVerifiedAs f file cert (λ s c. valid_line (length c.entries)) text
found-valid f file cert status text ticks done h = done-verified status text ticks done f file cert (λ s c. valid_line (length c.entries)) h

-- what `migrate` writes
pub found-migrated : (f : Files) (file cert : List ℕ) (status : Status) (text : List ℕ) (ticks : ℕ) → status ≡ Status.Done → CarriesMigrate f file cert status text ticks → IsVerifiedAs f file cert migrated_text text
found-migrated f file cert status text ticks done h = done-verified status text ticks done f file cert migrated_text h
