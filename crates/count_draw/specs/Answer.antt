-- Which draw of a number of parts an answer tells.
use Rattle.std.specs.Prelude.{ℕ, Bool, true, false}
use Rattle.bz_model.specs.declared.cell.Cell.{Cell}
use Rattle.choice_draw.specs.Decision.{Choice}
use Rattle.choice_draw.specs.Draw.{Draw}
use Rattle.count_draw.specs.declared.kind.CountChoice.{CountChoice}
use Rattle.count_draw.specs.declared.kind.CountChoice.TheVariants as choice
use Rattle.count_draw.specs.declared.drawn_count.CountDrawn.{CountDrawn}
use Rattle.count_draw.specs.declared.drawn_count.CountDrawn.TheVariants.{Count, Over, Straddles}
use Rattle.count_draw.specs.declared.drawn_count.CountDrawn.TheVariants.{Ended}
use Rattle.count_draw.specs.declared.drawn_count.CountDrawn.TheVariants.{ReadFault}

-- The answer that a choice gives with its cell.
abbrev pub answer_of : CountChoice → Cell → CountDrawn
answer_of (choice.Take value) cell = Count value cell
answer_of choice.Over cell = Over cell

-- The draw that an answer tells, `used` being the number of tape bits used afterwards.
abbrev pub told_count : CountDrawn → (used : ℕ) → Draw Choice
told_count (Count value cell) used = Draw.Decided (Choice.Take value) cell
told_count (Over cell) used = Draw.Decided Choice.Over cell
told_count (Straddles cell) used = Draw.Straddled cell
told_count Ended used = Draw.Ended used
told_count ReadFault used = Draw.Failed used

-- The answer is that the shelf failed.
abbrev pub is_count_fault : CountDrawn → Bool
is_count_fault ReadFault = true
is_count_fault _ = false

-- What is said of a number and its cell holds, where the answer is a number.
abbrev pub OnCount : CountDrawn → (ℕ → Cell → Type 0) → Type 0
OnCount (Count value cell) P = P value cell
OnCount _ P = Unit {0}

-- What is said of a cell holds, where the answer is that every number up to the room is passed
-- over.
abbrev pub OnOver : CountDrawn → (Cell → Type 0) → Type 0
OnOver (Over cell) P = P cell
OnOver _ P = Unit {0}
