-- What is made of the bits that cells spell.
use Rattle.std.specs.Prelude.{◌≡◌, ◌≢◌, ℕ, Bool, List, [], ◌++◌, Option, None}
use Rattle.bz_model.specs.declared.cell.Bounds.{Bounds}
use Rattle.bz_model.specs.declared.cell.Cell.{Cell}
use Rattle.bz_model.specs.Spec.{Spec, Mode}
use Rattle.choice_draw.specs.Draw.{bit_of}
use Rattle.labelling.specs.Answer.{AreIdealLabels}
use Rattle.labelling.specs.LabelsByBits.{Labelling, labelling}
use Rattle.object_store.specs.declared.token.Token.{Token}
use Rattle.object_store.specs.Tokens.{size_of}
use Rattle.shape_sampler.specs.Visit.{Chooser, Attempt, Visited, begun}
use Rattle.shape_sampler.specs.Answer.{ChoosesBy}
use Rattle.size_window.specs.Redrawn.{visits, IsRedrawnAlone}
use Rattle.size_window.specs.RunByBits.{Entry}

-- The entry of tokens, labels and cells. Its number and its place don't matter where it is made
-- again.
abbrev pub entry_with : (tokens : List Token) → (labels : List ℕ) → (cells : List Cell) → Entry
entry_with tokens labels cells = record {
  number = 0;
  place = 0;
  size = size_of tokens;
  tokens =
      tokens;
  labels = labels;
  cells = cells;
}

-- Tokens and labels are made of cells, by a table of bounds in units of 2^-F: over the tape of just
-- the bits that the cells spell, an attempt with this greatest size and a labelling make them with
-- exactly these cells and leave no bit, for each chooser by the table.
pub record AreMadeOf (s : Spec) (F : ℕ) (table : (level node : ℕ)
    → Bounds) (greatest : ℕ) (cells : List Cell) (tokens : List Token) (labels : List ℕ) : Type 0
  where
    pub redrawn : (c : Chooser) → ChoosesBy s F table c
        → IsRedrawnAlone c greatest (entry_with tokens labels cells)

-- An attempt that begins at a place of a tape is made after some visits: nothing is pending.
pub record IsMadeFrom (c : Chooser) (greatest : ℕ) (bits : ℕ
    → Option Bool) (start : ℕ) (made : Attempt) : Type 0 where
  pub number : ℕ
  pub comes : visits c (bit_of bits None) number (begun c.spec greatest start) ≡ Visited.Went made
  pub rests : made.pending ≡ []

-- By each chooser of a table the attempt is made so.
pub record IsMadeByTable (s : Spec) (F : ℕ) (table : (level node : ℕ)
    → Bounds) (greatest : ℕ) (bits : ℕ → Option Bool) (start : ℕ) (made : Attempt) : Type 0 where
  pub made_so : (c : Chooser) → ChoosesBy s F table c → IsMadeFrom c greatest bits start made

-- By no chooser of a table any attempt is made.
pub record IsNeverMade (s : Spec) (F : ℕ) (table : (level node : ℕ)
    → Bounds) (greatest : ℕ) (bits : ℕ → Option Bool) (start : ℕ) : Type 0 where
  pub never : (c : Chooser) → ChoosesBy s F table c → (made : Attempt)
      → ¬ (IsMadeFrom c greatest bits start made)

-- From a place on, n atoms get these labels with these cells, and the bits up to the end are used:
-- in unlabelled mode there are none; in labelled mode a labelling gives them.
abbrev pub GetLabels : Mode → (bits : ℕ → Option Bool) → (n place : ℕ) → (labels : List ℕ)
    → List Cell → (end : ℕ) → Type 0
GetLabels Mode.Unlabelled bits n place labels cells end = (labels ≡ []) × (cells ≡ [])
    × (end ≡ place)
GetLabels Mode.Labelled bits n place labels cells end =
    labelling (bit_of bits None) n place ≡ Labelling.Given labels cells end

-- Labels of n atoms are those of every list of numbers in the cells: none in unlabelled mode, the
-- ideal ones in labelled mode.
abbrev pub AreIdeally : Mode → (n : ℕ) → (labels : List ℕ) → List Cell → Type 0
AreIdeally Mode.Unlabelled n labels cells = (labels ≡ []) × (cells ≡ [])
AreIdeally Mode.Labelled n labels cells = AreIdealLabels n labels cells

-- A shape of n atoms with its own cells is labelled: the atoms get these labels, ideally, from the
-- place on, and the cells are its own followed by those of the labels.
pub record IsLabelledBy (mode : Mode) (bits : ℕ → Option Bool) (n place : ℕ) (own cells : List Cell)
    (labels : List ℕ) : Type 0 where
  pub more : List Cell
  pub end : ℕ
  pub got : GetLabels mode bits n place labels more end
  pub ideally : AreIdeally mode n labels more
  pub whole : cells ≡ own ++ more

-- The cells aren't its own followed by those of labels.
pub record IsNotLabelled (mode : Mode) (bits : ℕ
    → Option Bool) (n place : ℕ) (own cells : List Cell) : Type 0 where
  pub none : (labels : List ℕ) (more : List Cell) (end : ℕ)
      → GetLabels mode bits n place labels more end → cells ≢ own ++ more
