-- The lines of a certificate, and their texts.
use Rattle.std.specs.Prelude.{ℕ, List, [], ◌∷◌, ◌++◌, flat_map, codes}
use Rattle.bz_model.specs.declared.cell.Cell.{Cell}
use Rattle.class_system.specs.declared.draft.Mode.{Mode}
use Rattle.class_system.specs.CanonicalText.{mode_word}
use Rattle.class_system.specs.Views.{spec_mode}
use Rattle.size_window.specs.declared.ending.Straddle.{Straddle}
use Rattle.size_window.specs.declared.ending.Straddle.TheVariants as straddle
use Rattle.certificate.specs.declared.closing.ClosingWord.{ClosingWord}
use Rattle.certificate.specs.declared.closing.ClosingWord.TheVariants.{Done, TapeEnded, Undecided}
use Rattle.certificate.specs.declared.closing.ClosingWord.TheVariants.{TurnLimit, ReadFault}
use Rattle.certificate.specs.Patterns.{filled}
use Rattle.certificate.specs.Fields.{base_line, cells_text, spec_line}

-- A line of a certificate, by what it says.
pub data Line : Type 0 where
  Version : (version : ℕ) → Line
  InMode : Mode → Line
  Spec : (digest : List ℕ) → Line
  X : (num den : ℕ) → Line
  Fraction : (bits : ℕ) → Line
  Window : (min max : ℕ) → Line
  Base : (name : List ℕ) → (value : ℕ) → Line
  Object : (number place size : ℕ) → Line
  Text : (text : List ℕ) → Line
  Cells : List Cell → Line
  Open : Straddle → Line
  End : ClosingWord → (kept thrown bits turns : ℕ) → Line

-- The first line: the format and its version.
abbrev pub version_line : ℕ → List ℕ
version_line version = filled (codes "boltzmann #") (version ∷ [])

-- The line of the mode.
abbrev pub mode_line : Mode → List ℕ
mode_line mode = codes "mode " ++ mode_word (spec_mode mode)

-- The line of x, as it was given.
abbrev pub x_line : (num den : ℕ) → List ℕ
x_line num den = filled (codes "x #/#") (num ∷ den ∷ [])

-- The line of the fraction bits.
abbrev pub fraction_line : (bits : ℕ) → List ℕ
fraction_line bits = filled (codes "fraction #") (bits ∷ [])

-- The line of a window of sizes.
abbrev pub window_line : (min max : ℕ) → List ℕ
window_line min max = filled (codes "window # #") (min ∷ max ∷ [])

-- The first line of a kept object: its number, the place of its first bit and its size.
abbrev pub object_line : (number place size : ℕ) → List ℕ
object_line number place size = filled (codes "object # at # size #") (number ∷ place ∷ size ∷ [])

-- The line of an object's text.
abbrev pub text_line : (text : List ℕ) → List ℕ
text_line text = codes "text " ++ text

-- The line of a number that 60 bits leave open, at a node with its bounds, or for a label.
abbrev pub open_line : Straddle → List ℕ
open_line (straddle.Node node cell lo hi) =
    filled (codes "undecided node # cell #/# within # #") (node.0 ∷ cell.k ∷ cell.b ∷ lo ∷ hi ∷ [])
open_line (straddle.Label m cell) =
    filled (codes "undecided label # cell #/#") (m ∷ cell.k ∷ cell.b ∷ [])

-- The last line's pattern, by why the drawing ended.
abbrev pub end_pattern : ClosingWord → List ℕ
end_pattern Done = codes "end done kept # thrown # bits # turns #"
end_pattern TapeEnded = codes "end tape-ended kept # thrown # bits # turns #"
end_pattern Undecided = codes "end undecided kept # thrown # bits # turns #"
end_pattern TurnLimit = codes "end turn-limit kept # thrown # bits # turns #"
end_pattern ReadFault = codes "end read-fault kept # thrown # bits # turns #"

-- The last line: why the drawing ended, how many objects were kept and attempts thrown away, the
-- bits used and the turns made.
abbrev pub end_line : ClosingWord → (kept thrown bits turns : ℕ) → List ℕ
end_line word kept thrown bits turns = filled (end_pattern word) (kept ∷ thrown ∷ bits ∷ turns ∷ [])

-- A line's text, without its line feed.
abbrev pub line_text : Line → List ℕ
line_text (Line.Version version) = version_line version
line_text (Line.InMode mode) = mode_line mode
line_text (Line.Spec digest) = spec_line digest
line_text (Line.X num den) = x_line num den
line_text (Line.Fraction bits) = fraction_line bits
line_text (Line.Window min max) = window_line min max
line_text (Line.Base name value) = base_line name value
line_text (Line.Object number place size) = object_line number place size
line_text (Line.Text text) = text_line text
line_text (Line.Cells cells) = cells_text cells
line_text (Line.Open straddle) = open_line straddle
line_text (Line.End word kept thrown bits turns) = end_line word kept thrown bits turns

-- A line's text with its line feed.
abbrev pub whole_line : Line → List ℕ
whole_line line = line_text line ++ 10 ∷ []

-- The text of lines, each ended by a line feed.
abbrev pub text_of : List Line → List ℕ
text_of lines = flat_map whole_line lines
