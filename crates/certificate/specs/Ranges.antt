-- The ranges of a certificate's numbers.
use Rattle.std.specs.Prelude.{ℕ, ◌^◌, ◌<◌, Option, Some, None}
use Rattle.std.specs.List.{AllByRecursion}
use Rattle.size_window.specs.declared.ending.Straddle.{Straddle}
use Rattle.size_window.specs.declared.ending.Straddle.TheVariants as straddle
use Rattle.certificate.specs.declared.certificate.Header.{Header}
use Rattle.certificate.specs.declared.certificate.CertEntry.{CertEntry}
use Rattle.certificate.specs.declared.certificate.Certificate.{Certificate}
use Rattle.certificate.specs.declared.closing.Closing.{Closing}

-- A number has 64 bits.
abbrev pub IsSmall : ℕ → Type 0
IsSmall n = n < 2 ^ 64

-- The fraction bits are a number of 32 bits, the sizes and the values of the base have 64.
pub record HeaderInRange (h : Header) : Type 0 where
  pub fraction : h.fraction < 2 ^ 32
  pub min : IsSmall h.min
  pub max : IsSmall h.max
  pub base : AllByRecursion IsSmall h.base

-- An entry's numbers have 64 bits.
pub record EntryInRange (e : CertEntry) : Type 0 where
  pub number : IsSmall e.number
  pub place : IsSmall e.place
  pub size : IsSmall e.size

-- The numbers beside the cell of a number that was left open: a node has 32 bits, others have 64.
abbrev pub OpenInRange : Straddle → Type 0
OpenInRange (straddle.Node node cell lo hi) = (node.0 < 2 ^ 32) × IsSmall lo × IsSmall hi
OpenInRange (straddle.Label m cell) = IsSmall m

-- The same where there is such a number.
abbrev pub MaybeOpenInRange : Option Straddle → Type 0
MaybeOpenInRange None = Unit {0}
MaybeOpenInRange (Some number) = OpenInRange number

-- A closing's numbers.
pub record ClosingInRange (c : Closing) : Type 0 where
  pub left_open : MaybeOpenInRange c.straddle
  pub kept : IsSmall c.kept
  pub thrown : IsSmall c.thrown
  pub bits : IsSmall c.bits
  pub turns : IsSmall c.turns

-- All of a certificate's numbers are in range.
pub record CertificateInRange (c : Certificate) : Type 0 where
  pub header : HeaderInRange c.header
  pub entries : AllByRecursion EntryInRange c.entries
  pub closing : ClosingInRange c.closing
