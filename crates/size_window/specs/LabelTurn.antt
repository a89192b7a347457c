-- What a turn that labels a shape makes of a drawing.
use Rattle.std.specs.Prelude.{◌≡◌, ℕ, ◌++◌, Bool, List, Option, Some}
use Rattle.bz_model.specs.declared.cell.Cell.{Cell}
use Rattle.object_store.specs.Tokens.{size_of}
use Rattle.labelling.specs.declared.labelled.Labelled.{Labelled}
use Rattle.labelling.specs.declared.labelled.Labelled.TheVariants as labelled
use Rattle.labelling.specs.Answer.{IsLabelling, AreIdealLabels, AreCellsOf, OnLabels, StraddlesAt}
use Rattle.size_window.specs.declared.ending.Ending.{Ending}
use Rattle.size_window.specs.declared.ending.Ending.TheVariants.{TapeEnded, Undecided, ReadFault}
use Rattle.size_window.specs.declared.ending.Straddle.TheVariants as straddle
use Rattle.size_window.specs.declared.turned.Turned.{Turned}
use Rattle.size_window.specs.declared.turned.Turned.TheVariants.{Finished, OutOfMemory}
use Rattle.size_window.specs.Drawing.{MadeShape, DrawingState, counted, ended_by, waiting_with}
use Rattle.size_window.specs.Turn.{Keeps}

-- A shape with more cells after its own.
abbrev pub with_cells : MadeShape → List Cell → MadeShape
with_cells shape more = record shape { cells = shape.cells ++ more }

-- A labelling was cut short: the drawing ends, and the shape still waits.
abbrev pub Stops : Ending → MadeShape → (before : DrawingState) → Turned → (now : DrawingState)
    → Type 0
Stops ending shape before answer now =
    (answer ≡ Finished ending) × (now ≡ ended_by (counted (waiting_with before shape)) ending)

-- What a labelling's answer does with the shape that was to be labelled, so many bits being used:
-- with all labels it is kept, its cells followed by those of the labels; else it still waits, and
-- the drawing ends, unless memory ran out.
abbrev pub SettlesLabels : Labelled → MadeShape → (used : ℕ) → (before : DrawingState) → Turned
    → (now : DrawingState) → Type 0
SettlesLabels (labelled.Labels labels cells) shape used before answer now =
    Keeps (with_cells shape cells.items)
    (Some labels) used (counted before) answer now
SettlesLabels (labelled.Straddles m cell) shape used before answer now =
    Stops (Undecided (straddle.Label m cell)) shape before answer now
SettlesLabels labelled.Ended shape used before answer now = Stops TapeEnded shape before answer now
SettlesLabels labelled.ReadFault shape used before answer now =
    Stops ReadFault shape before answer now
SettlesLabels labelled.OutOfMemory shape used before answer now =
    (answer ≡ OutOfMemory) × (now ≡ waiting_with before shape)

-- A turn that labels this shape, taken out of the drawing before: the answer is that of a
-- labelling, settled.
pub record IsLabelTurn (bits : Option (ℕ → Option Bool)) (shape : MadeShape) (before : DrawingState)
    (start : ℕ) (answer : Turned) (now : DrawingState) (used : ℕ) : Type 0 where
  pub told : Labelled
  pub labelling : IsLabelling bits (size_of shape.tokens) start told used
  pub ideal : OnLabels told (λ labels cells. AreIdealLabels (size_of shape.tokens) labels cells)
  pub cells : OnLabels told (λ labels cells. AreCellsOf (size_of shape.tokens) cells)
  pub straddles : StraddlesAt (size_of shape.tokens) told
  pub settles : SettlesLabels told shape used before answer now
