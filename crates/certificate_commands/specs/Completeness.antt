-- Files of which the answer is certain, and what the answer says.
use Rattle.std.specs.Prelude.{◌≡◌, ℕ, ◌≤◌, List, length, Option, Some}
use Rattle.bz_model.specs.Spec.{Spec}
use Rattle.class_system.specs.CanonicalText.{canonical_text}
use Rattle.sha2.specs.Sha256.{sha256}
use Rattle.certificate.specs.declared.certificate.Certificate.{Certificate}
use Rattle.certificate.specs.declared.reason.Verdict.TheVariants.{Valid}
use Rattle.certificate.specs.Checks.{checks}
use Rattle.certificate.specs.Reading.{IsTextOf}
use Rattle.certificate.specs.Verdicts.{FirstFails}
use Rattle.call_stages.specs.Stages.{Files, IsCalm}
use Rattle.certificate_commands.specs.Tested.{tested_bits, AreVerified}
use Rattle.certificate_commands.specs.MigrateCommand.{certificate_in_2}

-- The file's bytes are known and no read of it failed; they are this certificate's text, and not
-- too many.
pub record HasCertificate (f : Files) (file : List ℕ) (c : Certificate) : Type 0 where
  pub calm : IsCalm f file
  pub few : length calm.bytes ≤ 268435456
  pub is_text : IsTextOf calm.bytes c

-- The first file has a specification, the second a certificate that is valid for it, of which this
-- is said.
pub record IsVerifiedAs (f : Files) (file cert : List ℕ) (said : Spec → Certificate
    → List ℕ) (text : List ℕ) : Type 0 where
  pub spec : Spec
  pub certificate : Certificate
  pub verified : AreVerified f.content file cert spec certificate
  pub text_is : text ≡ said spec certificate

-- A text is that of a certificate of version 2, with the digest of the specification's canonical
-- text, and all tests of it pass.
pub record IsValidIn2 (s : Spec) (c : Certificate) (text : List ℕ) : Type 0 where
  pub is_text : IsTextOf text c
  pub version : c.header.version ≡ 2
  pub digest : c.header.digest ≡ Some (sha256 (canonical_text s))
  pub passes : FirstFails (checks s (tested_bits c.header) c) Valid

-- The first file has a specification, the second a certificate that is valid for it, and the text
-- is that certificate in version 2, which is valid too.
pub record IsMigrated (content : List ℕ → Option (List ℕ)) (file cert text : List ℕ) : Type 0 where
  pub spec : Spec
  pub certificate : Certificate
  pub verified : AreVerified content file cert spec certificate
  pub valid : IsValidIn2 spec (certificate_in_2 spec certificate) text

-- The file's bytes are known and no read of it failed; they are this text, and not too many for a
-- certificate.
pub record HoldsText (f : Files) (file text : List ℕ) : Type 0 where
  pub calm : IsCalm f file
  pub few : length calm.bytes ≤ 268435456
  pub same : calm.bytes ≡ text
