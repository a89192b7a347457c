-- What `sample` wrote is a certificate.
use Rattle.std.specs.Prelude.{◌≡◌, ℕ, List, length, Option}
use Rattle.bz_model.specs.Spec.{Spec}
use Rattle.certificate.specs.declared.certificate.Certificate.{Certificate}
use Rattle.call_stages.specs.Stages.{IsSpecified}
use Rattle.certificate_commands.specs.Completeness.{IsValidIn2}

-- A text is that of a certificate of version 2 with these fraction bits and n entries, and all
-- tests of it pass for the specification that was read from a file.
pub record IsCertified (content : List ℕ → Option (List ℕ)) (file : List ℕ) (fraction n : ℕ)
    (text : List ℕ) : Type 0 where
  pub spec : Spec
  pub specified : IsSpecified content file spec
  pub certificate : Certificate
  pub valid : IsValidIn2 spec certificate text
  pub fraction_is : certificate.header.fraction ≡ fraction
  pub entries : length certificate.entries ≡ n
