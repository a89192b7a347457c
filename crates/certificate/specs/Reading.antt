-- Texts that are certificates, and the first bad line of a text that is none.
use Rattle.std.specs.Prelude.{◌≡◌, ◌≢◌, ℕ, suc, List, [], ◌∷◌, ◌++◌, length, flat_map}
use Rattle.std.specs.List.{AllByRecursion}
use Rattle.certificate.specs.declared.certificate.Certificate.{Certificate}
use Rattle.certificate.specs.declared.read.CertFault.{CertFault}
use Rattle.certificate.specs.declared.read.CertFault.TheVariants.{BadLine, OutOfMemory}
use Rattle.certificate.specs.Lines.{text_of}
use Rattle.certificate.specs.Certificates.{IsCertificate, certificate_lines}
use Rattle.certificate.specs.Ranges.{CertificateInRange}

-- A text is a certificate's: its lines, each ended by a line feed.
pub record IsTextOf (bytes : List ℕ) (c : Certificate) : Type 0 where
  pub is : IsCertificate c
  pub in_range : CertificateInRange c
  pub text : bytes ≡ text_of (certificate_lines c)

-- Some certificate's text begins with this.
pub record BeginsOne (front : List ℕ) : Type 0 where
  pub whole : Certificate
  pub rest : List ℕ
  pub is : IsTextOf (front ++ rest) whole

-- A text has no line feed.
abbrev pub HasNoFeed : List ℕ → Type 0
HasNoFeed text = AllByRecursion (λ b. b ≢ 10) text

-- Lines one after the other, each ended by a line feed.
abbrev pub with_line_feeds : List (List ℕ) → List ℕ
with_line_feeds lines = flat_map (λ line. line ++ 10 ∷ []) lines

-- The first bad line of a text, counted from 1: the text is no certificate's, the lines before it
-- begin one, and together with it they begin none. Where lines are missing it is the one after the
-- last.
pub record IsFirstBad (bytes : List ℕ) (line : ℕ) : Type 0 where
  pub before : List (List ℕ)
  pub rest : List ℕ
  pub split : bytes ≡ with_line_feeds before ++ rest
  pub lines : AllByRecursion HasNoFeed before
  pub place : line ≡ suc (length before)
  pub begins : BeginsOne (with_line_feeds before)
  pub bad : (here after : List ℕ) → HasNoFeed here → rest ≡ here ++ 10 ∷ after
      → ¬ (BeginsOne (with_line_feeds before ++ (here ++ 10 ∷ [])))
  pub none : (c : Certificate) → ¬ (IsTextOf bytes c)

-- A refusal tells the first bad line; want of memory says nothing of the text.
abbrev pub IsRefusal : (bytes : List ℕ) → CertFault → Type 0
IsRefusal bytes (BadLine line) = IsFirstBad bytes line
IsRefusal bytes OutOfMemory = Unit {0}
