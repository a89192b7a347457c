-- An entry is made again from the bits that its own cells spell.
use Rattle.std.specs.Prelude.{◌≡◌, ℕ, zero, suc, ◌+◌, Bool, List, [], ◌++◌, length, slice_get}
use Rattle.std.specs.Prelude.{Option, None}
use Rattle.std.specs.List.{AllByRecursion}
use Rattle.bz_model.specs.declared.cell.Cell.{Cell}
use Rattle.bz_model.specs.Cell.{spelled}
use Rattle.bz_model.specs.declared.cell.Bounds.{Bounds}
use Rattle.bz_model.specs.Spec.{Spec, Mode}
use Rattle.object_store.specs.Tokens.{size_of}
use Rattle.bit_tape.specs.Given.{HasBits}
use Rattle.choice_draw.specs.Draw.{Bit, bit_of}
use Rattle.labelling.specs.LabelsByBits.{Labelling, labelling}
use Rattle.shape_sampler.specs.Visit.{Chooser, Attempt, Visited, visit, begun}
use Rattle.shape_sampler.specs.Answer.{ChoosesBy}
use Rattle.size_window.specs.RunByBits.{Limits, Entry, Course}
use Rattle.size_window.specs.InOrder.{IsInOrder}

-- The next visit of an attempt that went on; none after another end.
abbrev pub visited_next : Chooser → (bit : ℕ → Bit) → Visited → Visited
visited_next c bit (Visited.Went a) = visit c bit a
visited_next c bit v = v

-- An attempt after n visits. With nothing pending a visit does nothing.
abbrev pub visits : Chooser → (bit : ℕ → Bit) → (n : ℕ) → Attempt → Visited
visits c bit zero a = Visited.Went a
visits c bit (suc n) a = visited_next c bit (visits c bit n a)

-- A labelling from the next bit on gives a made shape an entry's labels; the entry's cells are
-- those of the shape, followed by those of the labels, and the bits up to the end are used.
pub record IsLabelledAgain (bits : ℕ → Option Bool) (made : Attempt) (e : Entry)
    (end : ℕ) : Type 0 where
  pub more : List Cell
  pub cells : e.cells ≡ made.cells ++ more
  pub given : labelling (bit_of bits None)
      (size_of made.tokens) made.used ≡ Labelling.Given e.labels more end

-- An entry has no labels in unlabelled mode, and its cells are those of the shape; in labelled mode
-- it is labelled again.
abbrev pub HasLabelsAgain : Mode → (bits : ℕ → Option Bool) → (made : Attempt) → Entry → (end : ℕ)
    → Type 0
HasLabelsAgain Mode.Unlabelled bits made e end =
    (e.labels ≡ []) × (e.cells ≡ made.cells) × (made.used ≡ end)
HasLabelsAgain Mode.Labelled bits made e end = IsLabelledAgain bits made e end

-- An attempt that begins at a place of a tape, with this greatest size, is made after so many
-- visits; it has the entry's tokens, size and labels, and used exactly the bits that the entry's
-- cells spell.
pub record IsRedrawnAt (c : Chooser) (greatest : ℕ) (bits : ℕ → Option Bool) (start : ℕ)
    (e : Entry) : Type 0 where
  pub number : ℕ
  pub made : Attempt
  pub comes : visits c (bit_of bits None) number (begun c.spec greatest start) ≡ Visited.Went made
  pub rests : made.pending ≡ []
  pub tokens : made.tokens ≡ e.tokens
  pub size : e.size ≡ size_of e.tokens
  pub labels : HasLabelsAgain c.spec.mode bits made e (start + length (spelled e.cells))

-- An entry is made again from its own cells, wherever a tape has the bits that they spell.
abbrev pub IsRedrawn : Chooser → (greatest : ℕ) → Entry → Type 0
IsRedrawn c greatest e = (bits : ℕ → Option Bool) (start : ℕ) → HasBits bits start (spelled e.cells)
    → IsRedrawnAt c greatest bits start e

-- It is made again alone: over the tape of just these bits.
abbrev pub IsRedrawnAlone : Chooser → (greatest : ℕ) → Entry → Type 0
IsRedrawnAlone c greatest e = IsRedrawnAt c greatest (slice_get (spelled e.cells)) 0 e

-- Each entry is made again, wherever and alone.
abbrev pub AreRedrawn : Chooser → (greatest : ℕ) → List Entry → Type 0
AreRedrawn c greatest entries = AllByRecursion (λ e. IsRedrawn c greatest e
    × IsRedrawnAlone c greatest e) entries

-- The entries of a trace are made again from their own cells, for each chooser by its table, and
-- they are in order.
pub record AreEntriesOfTrace (s : Spec) (F : ℕ) (table : (level node : ℕ) → Bounds)
    (limits : Limits) (c : Course) : Type 0 where
  pub redrawn : (k : Chooser) → ChoosesBy s F table k → AreRedrawn k limits.max c.entries
  pub in_order : IsInOrder limits c
