-- Which bits of a tape cells spell.
use Rattle.std.specs.Prelude.{◌≡◌, ℕ, ◌+◌, ◌<◌, Bool, List, [], ◌++◌, length, Option, None}
use Rattle.bz_model.specs.declared.cell.Cell.{Cell}
use Rattle.bz_model.specs.Cell.{AreCells, bits_of, spelled}
use Rattle.bit_tape.specs.Given.{HasBits}
use Rattle.choice_draw.specs.Draw.{bit_of}
use Rattle.labelling.specs.LabelsByBits.{Labelling, labelling}

-- A tape's bits from a place up to another are those that cells spell, and then those of a number
-- that was left open.
pub record AreSpelled (bits : ℕ → Option Bool) (start : ℕ) (cells : List Cell)
    (open_bits : List Bool) (place : ℕ) : Type 0 where
  pub here : HasBits bits start (spelled cells ++ open_bits)
  pub up_to : place ≡ start + length (spelled cells ++ open_bits)
  pub each : AreCells cells

-- They are, and fewer than 60 are those of a number that was left open.
pub record AreCutShort (bits : ℕ → Option Bool) (start : ℕ) (cells : List Cell)
    (place : ℕ) : Type 0 where
  pub open_bits : List Bool
  pub few : length open_bits < 60
  pub spelled_there : AreSpelled bits start cells open_bits place

-- The bits that a labelling used are those that its cells spell, and those of the number that was
-- left open: 60 where it straddles, fewer where the tape's end or its shelf cut it short.
abbrev pub SpellsLabelling : (bits : ℕ → Option Bool) → (start : ℕ) → Labelling → Type 0
SpellsLabelling bits start (Labelling.Given labels cells place) =
    AreSpelled bits start cells [] place
SpellsLabelling bits start (Labelling.Straddled m cell finished place) =
    AreSpelled bits start finished (bits_of cell.b cell.k) place × (cell.b ≡ 60)
SpellsLabelling bits start (Labelling.Ended finished place) = AreCutShort bits start finished place
SpellsLabelling bits start (Labelling.Failed finished place) = AreCutShort bits start finished place

-- Every labelling over a tape used the bits that its cells spell, wherever the shelf may fail.
abbrev pub LabellingsSpell : Type 0
LabellingsSpell = (bits : ℕ → Option Bool) (fault : Option ℕ) (n start : ℕ)
    → SpellsLabelling bits start (labelling (bit_of bits fault) n start)

-- Wherever a tape has the bits that the cells of a labelling spell, the labelling from there on
-- gives the same labels with the same cells, and uses exactly these bits.
abbrev pub LabelsAreDrawnAgain : Type 0
LabelsAreDrawnAgain = (bits : ℕ → Option Bool) (fault : Option ℕ) (n start : ℕ) (labels : List ℕ)
    (cells : List Cell) (end : ℕ)
    → labelling (bit_of bits fault) n start ≡ Labelling.Given labels cells end → (other : ℕ
    → Option Bool) (place : ℕ) → HasBits other place (spelled cells)
    → labelling (bit_of other None) n place
    ≡ Labelling.Given labels cells (place + length (spelled cells))
