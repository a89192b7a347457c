-- Certificates that say the same.
use Rattle.std.specs.Prelude.{◌≡◌, List, [], ◌∷◌}
use Rattle.certificate.specs.declared.certificate.CertEntry.{CertEntry}
use Rattle.certificate.specs.declared.certificate.Certificate.{Certificate}

-- Two entries say the same. Their lists of cells may have other spare room.
pub record SaysTheSame (e f : CertEntry) : Type 0 where
  pub number : e.number ≡ f.number
  pub place : e.place ≡ f.place
  pub size : e.size ≡ f.size
  pub text : e.text ≡ f.text
  pub cells : e.cells.items ≡ f.cells.items

-- Entries say the same one by one.
abbrev pub SayTheSame : List CertEntry → List CertEntry → Type 0
SayTheSame [] [] = Unit {0}
SayTheSame (e ∷ es) (f ∷ fs) = SaysTheSame e f × SayTheSame es fs
SayTheSame es fs = ⊥

-- Two certificates are alike: they have one header and one closing, and their entries say the same.
pub record AreAlike (c d : Certificate) : Type 0 where
  pub header : c.header ≡ d.header
  pub entries : SayTheSame c.entries d.entries
  pub closing : c.closing ≡ d.closing
