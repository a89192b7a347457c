-- Which line may stand next in a certificate's text.
use Rattle.std.specs.Prelude.{◌≡◌, ◌≢◌, ℕ, ◌^◌, ◌<◌, if◌then◌else◌, nat_eq, ◌⊎◌, List, [], ◌∷◌}
use Rattle.std.specs.Prelude.{◌++◌}
use Rattle.bz_model.specs.declared.cell.Cell.{Cell}
use Rattle.bz_model.specs.Number.{IsPart}
use Rattle.class_system.specs.declared.draft.Mode.{Mode}
use Rattle.class_system.specs.Distinct.{IsMissing}
use Rattle.class_system.specs.Words.{IsName}
use Rattle.size_window.specs.declared.ending.Straddle.{Straddle}
use Rattle.certificate.specs.declared.closing.ClosingWord.{ClosingWord}
use Rattle.certificate.specs.declared.closing.ClosingWord.TheVariants.{Undecided}
use Rattle.certificate.specs.Certificates.{IsOpen}
use Rattle.bz_model.specs.Cell.{AreCells}
use Rattle.certificate.specs.Fields.{IsPrinted, IsDigest}
use Rattle.certificate.specs.Lines.{Line, whole_line, text_of}
use Rattle.certificate.specs.Ranges.{IsSmall, OpenInRange}

-- How far the reading of a certificate's lines has come, by the line that is wanted next.
pub data Stage : Type 0 where
  AtVersion : Stage
  AtMode : (version : ℕ) → Stage
  AtDigest : Stage
  AtX : Stage
  AtFraction : Stage
  AtWindow : Stage
  AtBase : (names : List (List ℕ)) → Stage
  AtObject : Stage
  AtText : Stage
  AtCells : Stage
  AtEnd : Stage
  Over : Stage

-- After the mode comes x in version 1, and the digest in version 2.
abbrev pub after_mode : (version : ℕ) → Stage
after_mode version = if nat_eq version 1 then AtX else AtDigest

-- A line may stand next, and this is the stage after it.
pub data May : Stage → Line → Stage → Type 0 where
  version : {v : ℕ} → (v ≡ 1) ⊎ (v ≡ 2) → May AtVersion (Line.Version v) (AtMode v)
  mode : {v : ℕ} {m : Mode} → May (AtMode v) (Line.InMode m) (after_mode v)
  digest : {d : List ℕ} → IsDigest d → May AtDigest (Line.Spec d) AtX
  x : {n d : ℕ} → IsPart n → IsPart d → May AtX (Line.X n d) AtFraction
  fraction : {f : ℕ} → f < 2 ^ 32 → May AtFraction (Line.Fraction f) AtWindow
  window : {min max : ℕ} → IsSmall min → IsSmall max
      → May AtWindow (Line.Window min max) (AtBase [])
  base : {names : List (List ℕ)} {name : List ℕ} {value : ℕ} → IsName name → IsMissing name names
      → IsSmall value → May (AtBase names) (Line.Base name value) (AtBase (names ++ name ∷ []))
  last_base : {names : List (List ℕ)} {line : Line} {next : Stage} → May AtObject line next
      → May (AtBase names) line next
  object : {number place size : ℕ} → IsSmall number → IsSmall place → IsSmall size
      → May AtObject (Line.Object number place size) AtText
  left_open : {straddle : Straddle} → IsOpen straddle → OpenInRange straddle
      → May AtObject (Line.Open straddle) AtEnd
  end : {word : ClosingWord} {kept thrown bits turns : ℕ} → word ≢ Undecided → IsSmall kept
      → IsSmall thrown → IsSmall bits → IsSmall turns
      → May AtObject (Line.End word kept thrown bits turns) Over
  text : {text : List ℕ} → IsPrinted text → May AtText (Line.Text text) AtCells
  cells : {cells : List Cell} → AreCells cells → May AtCells (Line.Cells cells) AtObject
  undecided : {kept thrown bits turns : ℕ} → IsSmall kept → IsSmall thrown → IsSmall bits
      → IsSmall turns → May AtEnd (Line.End Undecided kept thrown bits turns) Over

-- Lines may stand one after the other.
pub data Way : Stage → List Line → Stage → Type 0 where
  stay : {at : Stage} → Way at [] at
  go : {at next last : Stage} {line : Line} {lines : List Line} → May at line next
      → Way next lines last → Way at (line ∷ lines) last

-- A text begins with these lines, and this is left.
pub record Passes (at : Stage) (text : List ℕ) (lines : List Line) (next : Stage) (rest : List ℕ)
    : Type 0 where
  pub way : Way at lines next
  pub split : text ≡ text_of lines ++ rest

-- No line that may stand next stands in front.
pub record IsStuck (at : Stage) (text : List ℕ) : Type 0 where
  pub line : (line : Line) (next : Stage) (rest : List ℕ) → May at line next
      → text ≢ whole_line line ++ rest
  pub unfinished : at ≡ Over → text ≢ []

-- A text begins with lines that may stand one after the other, and there no further line may stand
-- in front of what is left.
pub record Fails (at : Stage) (text left : List ℕ) : Type 0 where
  pub lines : List Line
  pub stage : Stage
  pub passes : Passes at text lines stage left
  pub stuck : IsStuck stage left

-- In front stands no line of the base with a new name.
pub record HasNoBase (names : List (List ℕ)) (text : List ℕ) : Type 0 where
  pub none : (name : List ℕ) (value : ℕ) (rest : List ℕ) → IsName name → IsMissing name names
      → IsSmall value → text ≢ whole_line (Line.Base name value) ++ rest

-- In front stands no first line of an object.
pub record HasNoObject (text : List ℕ) : Type 0 where
  pub none : (number place size : ℕ) (rest : List ℕ) → IsSmall number → IsSmall place → IsSmall size
      → text ≢ whole_line (Line.Object number place size) ++ rest

-- In front stands no line of a number that was left open.
pub record HasNoOpen (text : List ℕ) : Type 0 where
  pub none : (s : Straddle) (rest : List ℕ) → IsOpen s → OpenInRange s
      → text ≢ whole_line (Line.Open s) ++ rest
