-- What `migrate` wrote is valid.
use Rattle.std.proofs.Common.{◌≡◌, ◌≢◌, ℕ, List, length, sym, subst, ◌∙◌}
use Rattle.bz_model.specs.Spec.{Spec}
use Rattle.certificate.specs.declared.certificate.Certificate.{Certificate}
use Rattle.certificate.specs.Reading.{IsTextOf}
use Rattle.call_stages.specs.Stages.{Files, HasSpecification}
use Rattle.call_stages.specs.declared.status.Status.{Status}
use Rattle.certificate_commands.specs.VerifyCommand.{valid_line, CarriesVerify}
use Rattle.certificate_commands.specs.MigrateCommand.{certificate_in_2, migrated_text, WrittenIn2, CarriesMigrate}
use Rattle.certificate_commands.specs.Completeness.{HasCertificate, IsValidIn2, IsMigrated, HoldsText}
use Rattle.certificate_commands.proofs.Done.{found-migrated, done-tested, done-said}
use Rattle.certificate_commands.proofs.InVersion2.{AreDigests, valid-in-2, written-again}
use Rattle.certificate_commands.proofs.OneCertificate.{OneText, known-only, one-counted, one-migrated, valid-verified}

-- of a call that is done
pub migrated-valid : AreDigests → (f : Files) (file cert : List ℕ) (status : Status) (text : List ℕ) (ticks : ℕ) → status ≡ Status.Done → CarriesMigrate f file cert status text ticks → IsMigrated f.content file cert text
migrated-valid digests f file cert status text ticks done h =
    let v = found-migrated f file cert status text ticks done h in
    record { spec = v.spec; certificate = v.certificate; verified = v.verified; valid = valid-in-2 digests v.spec v.certificate v.verified.found.bytes text v.verified.found.is_text v.verified.valid.passes v.text_is }

-- What was written of a certificate with this text.
record WasWritten (s : Spec) (bytes text : List ℕ) : Type 0 where
  certificate : Certificate
  is : IsTextOf bytes certificate
  valid : IsValidIn2 s (certificate_in_2 s certificate) text
  written : text ≡ migrated_text s certificate

was-written : AreDigests → (f : Files) (file cert : List ℕ) (s : Spec) (c : Certificate) (status : Status) (text : List ℕ) (ticks : ℕ) → HasSpecification f file s → (is : HasCertificate f cert c) → status ≡ Status.Done → CarriesMigrate f file cert status text ticks → WasWritten s is.calm.bytes text
was-written digests f file cert s c status text ticks has is done h =
    let r = known-only WrittenIn2 f file cert s c has is status text ticks (λ e. let clash : Status.Done ≡ Status.OutOfMemory = sym done ∙ e in cc) h in
    let t = done-tested status text ticks done s r.0 (WrittenIn2 s r.0) r.2 in
    let written = done-said status text ticks done (migrated_text s r.0) t.1 in
    record { certificate = r.0; is = r.1; valid = valid-in-2 digests s r.0 is.calm.bytes text r.1 t.0.passes written; written = written }

-- the file that holds it
holds-in-2 : (g : Files) (wrote text bytes : List ℕ) (s : Spec) → HoldsText g wrote text → (w : WasWritten s bytes text) → HasCertificate g wrote (certificate_in_2 s w.certificate)
holds-in-2 g wrote text bytes s holds w = record { calm = holds.calm; few = holds.few; is_text = subst (λ b. IsTextOf b (certificate_in_2 s w.certificate)) (sym holds.same) w.valid.is_text }

-- The certificate that a migration wrote is found valid for the same specification, with as many
-- entries as the one migrated, unless memory runs out.
pub verified-again : (laws : OneText) → AreDigests → (f g : Files) (file cert again wrote : List ℕ) (s : Spec) (c : Certificate) (status other : Status) (text others : List ℕ) (ticks more : ℕ) → HasSpecification f file s → HasCertificate f cert c → status ≡ Status.Done → CarriesMigrate f file cert status text ticks → HasSpecification g again s → HoldsText g wrote text → other ≢ Status.OutOfMemory → CarriesVerify g again wrote other others more → (other ≡ Status.Done) × (others ≡ valid_line (length c.entries))
verified-again laws digests f g file cert again wrote s c status other text others ticks more has is done h has_too holds memory k =
    let w = was-written digests f file cert s c status text ticks has is done h in
    let d = certificate_in_2 s w.certificate in
    let v = valid-verified laws (λ t e. valid_line (length e.entries)) (one-counted laws) g again wrote s d other others more has_too (holds-in-2 g wrote text is.calm.bytes s holds w) w.valid.passes memory k in
    (v.0, v.1 ∙ one-counted laws s w.certificate c (laws.alike is.calm.bytes w.certificate c w.is is.is_text))

-- Migrating the written result of a migration, for the same specification, is done and gives the
-- same text again, unless memory runs out.
pub migrated-again : (laws : OneText) → AreDigests → (f g : Files) (file cert again wrote : List ℕ) (s : Spec) (c : Certificate) (status other : Status) (text others : List ℕ) (ticks more : ℕ) → HasSpecification f file s → HasCertificate f cert c → status ≡ Status.Done → CarriesMigrate f file cert status text ticks → HasSpecification g again s → HoldsText g wrote text → other ≢ Status.OutOfMemory → CarriesMigrate g again wrote other others more → (other ≡ Status.Done) × (others ≡ text)
migrated-again laws digests f g file cert again wrote s c status other text others ticks more has is done h has_too holds memory k =
    let w = was-written digests f file cert s c status text ticks has is done h in
    let d = certificate_in_2 s w.certificate in
    let v = valid-verified laws migrated_text (one-migrated laws) g again wrote s d other others more has_too (holds-in-2 g wrote text is.calm.bytes s holds w) w.valid.passes memory k in
    (v.0, v.1 ∙ written-again s w.certificate ∙ sym w.written)
