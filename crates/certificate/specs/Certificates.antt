-- Certificates, and the lines that they consist of.
use Rattle.std.specs.Prelude.{◌≡◌, ℕ, List, [], ◌∷◌, ◌++◌, length, flat_map, Option, Some, None}
use Rattle.std.specs.List.{AllByRecursion}
use Rattle.bz_model.specs.declared.cell.Cell.{Cell}
use Rattle.bz_model.specs.Cell.{IsCell, AreCells}
use Rattle.bz_model.specs.Number.{IsPart}
use Rattle.class_system.specs.Distinct.{AreDistinct}
use Rattle.class_system.specs.Words.{IsName}
use Rattle.size_window.specs.declared.ending.Straddle.{Straddle}
use Rattle.size_window.specs.declared.ending.Straddle.TheVariants as straddle
use Rattle.certificate.specs.declared.certificate.Header.{Header}
use Rattle.certificate.specs.declared.certificate.CertEntry.{CertEntry}
use Rattle.certificate.specs.declared.certificate.Certificate.{Certificate}
use Rattle.certificate.specs.declared.closing.Closing.{Closing}
use Rattle.certificate.specs.declared.closing.ClosingWord.{ClosingWord}
use Rattle.certificate.specs.declared.closing.ClosingWord.TheVariants.{Undecided}
use Rattle.certificate.specs.Fields.{IsPrinted, IsDigest}
use Rattle.certificate.specs.Lines.{Line}

-- The line of the digest, where there is one.
abbrev pub spec_lines : Option (List ℕ) → List Line
spec_lines None = []
spec_lines (Some digest) = Line.Spec digest ∷ []

-- The lines of the base, one for each class.
abbrev pub base_lines : (names : List (List ℕ)) → (base : List ℕ) → List Line
base_lines (name ∷ names) (value ∷ base) = Line.Base name value ∷ base_lines names base
base_lines _ _ = []

-- The lines of a header below its first, which names the version.
abbrev pub lines_below_version : Header → List Line
lines_below_version h =
    Line.InMode h.mode ∷ (spec_lines h.digest
    ++ (Line.X h.x.num h.x.den ∷ Line.Fraction h.fraction ∷ Line.Window h.min h.max
    ∷ base_lines h.names h.base))

-- Those of them above the window.
abbrev pub lines_above_window : Header → List Line
lines_above_window h =
    Line.InMode h.mode ∷ (spec_lines h.digest
    ++ (Line.X h.x.num h.x.den ∷ Line.Fraction h.fraction ∷ []))

-- The lines of a header without its window.
abbrev pub lines_without_window : Header → List Line
lines_without_window h =
    Line.Version h.version ∷ (lines_above_window h ++ base_lines h.names h.base)

-- The lines of a header.
abbrev pub header_lines : Header → List Line
header_lines h = Line.Version h.version ∷ lines_below_version h

-- The lines of a kept object: its number, the place of its first bit and its size, its text, and
-- its cells.
abbrev pub object_lines : (number place size : ℕ) → (text : List ℕ) → List Cell → List Line
object_lines number place size text cells =
    Line.Object number place size ∷ Line.Text text ∷ Line.Cells cells ∷ []

-- The lines of an entry.
abbrev pub entry_lines : CertEntry → List Line
entry_lines e = object_lines e.number e.place e.size e.text e.cells.items

-- The line of a number that was left open, where there is one.
abbrev pub open_lines : Option Straddle → List Line
open_lines None = []
open_lines (Some straddle) = Line.Open straddle ∷ []

-- The lines of a closing.
abbrev pub closing_lines : Closing → List Line
closing_lines c = open_lines c.straddle ++ Line.End c.word c.kept c.thrown c.bits c.turns ∷ []

-- The lines of a certificate.
abbrev pub certificate_lines : Certificate → List Line
certificate_lines c = header_lines c.header
    ++ (flat_map entry_lines c.entries ++ closing_lines c.closing)

-- A header has a digest exactly in version 2.
abbrev pub FitsVersion : (version : ℕ) → Option (List ℕ) → Type 0
FitsVersion version None = version ≡ 1
FitsVersion version (Some digest) = (version ≡ 2) × IsDigest digest

-- A header fits where it has a digest exactly in version 2, and one value of the base for each
-- name.
pub record FitsHeader (h : Header) : Type 0 where
  pub version : FitsVersion h.version h.digest
  pub one_each : length h.base ≡ length h.names

-- A number that was left open has a cell of 60 bits.
abbrev pub IsOpen : Straddle → Type 0
IsOpen (straddle.Node node cell lo hi) = IsCell cell.k cell.b × (cell.b ≡ 60)
IsOpen (straddle.Label m cell) = IsCell cell.k cell.b × (cell.b ≡ 60)

-- A closing has a number that was left open exactly where its word is that of Undecided.
abbrev pub FitsWord : ClosingWord → Option Straddle → Type 0
FitsWord Undecided (Some straddle) = IsOpen straddle
FitsWord Undecided None = ⊥
FitsWord word None = Unit {0}
FitsWord word (Some straddle) = ⊥

abbrev pub FitsClosing : Closing → Type 0
FitsClosing c = FitsWord c.word c.straddle

-- An entry's text is printed, and its cells are cells.
pub record FitsEntry (e : CertEntry) : Type 0 where
  pub text : IsPrinted e.text
  pub cells : AreCells e.cells.items

-- A certificate as texts have it: x within its limits, names of the form of class names and none of
-- them twice, texts that are printed, and cells that are cells.
pub record IsCertificate (c : Certificate) : Type 0 where
  pub header : FitsHeader c.header
  pub num : IsPart c.header.x.num
  pub den : IsPart c.header.x.den
  pub names : AllByRecursion IsName c.header.names
  pub distinct : AreDistinct c.header.names
  pub entries : AllByRecursion FitsEntry c.entries
  pub closing : FitsClosing c.closing
