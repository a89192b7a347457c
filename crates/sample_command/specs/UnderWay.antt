-- Drawings under way and at their end, as the code has them.
use Rattle.std.specs.Prelude.{◌≡◌, ℕ, ◌<◌, Bool, true, false, List, ◌++◌, Option, Some, None}
use Rattle.bz_model.specs.Fraction.{Fraction}
use Rattle.bz_model.specs.Spec.{Spec}
use Rattle.bz_model.specs.declared.cell.Bounds.{Bounds}
use Rattle.bz_outside.specs.Outside.{AppendsFront}
use Rattle.bit_tape.specs.Tape.{TapeState, TapeSource, BelongsToShelf}
use Rattle.choice_draw.specs.Decision.{level_for}
use Rattle.class_system.specs.Sound.{IsSound}
use Rattle.size_window.specs.declared.ending.Ending.{Ending}
use Rattle.size_window.specs.declared.ending.Ending.TheVariants.{Done, Undecided, TurnLimit}
use Rattle.size_window.specs.declared.ending.Ending.TheVariants.{ReadFault}
use Rattle.size_window.specs.declared.ending.Straddle.{Straddle}
use Rattle.size_window.specs.RunByBits.{Limits, Course, Entry}
use Rattle.size_window.specs.Drawing.{DrawingState, DrawingBelongs, state_of, ending_of}
use Rattle.size_window.specs.Follows.{GoesIdeally}
use Rattle.size_window.specs.Trace.{HasTrace}
use Rattle.certificate.specs.declared.closing.Closing.{Closing}
use Rattle.sample_command.specs.Drawn.{TapeMet, Lists, straddle_of, closing_word}
use Rattle.call_stages.specs.Ends.{IsHeld}

-- A tape over a shelf, in a call that began with these counts.
abbrev pub met : (source : TapeSource) (contents : List ℕ → Option (List ℕ)) (before now : List ℕ
    → ℕ) → TapeMet
met source contents before now = record {
  source = source;
  contents = contents;
  before =
      before;
  now = now;
}

-- A drawing ended with a failed read.
abbrev pub has_failed : Option Ending → Bool
has_failed (Some ReadFault) = true
has_failed ending = false

-- A drawing that was asked for so many turns has a course so far: its trace.
pub record IsCourseSoFar (s : Spec) (x : Fraction) (F : ℕ) (table : (level node : ℕ)
    → Bounds) (limits : Limits) (told : Option (ℕ → Option Bool)) (d : DrawingState) (used most : ℕ)
    : Type 0 where
  pub turns : ℕ
  pub course : Course
  pub drawing : HasTrace s x F table limits told turns d used most course

-- A drawing has a course that goes as ideal runs do, this many bits being used.
pub record HasCourse (s : Spec) (x : Fraction) (limits : Limits) (d : DrawingState) (used : ℕ)
    : Type 0 where
  pub course : Course
  pub state : course.state ≡ state_of d used
  pub goes : GoesIdeally s x limits course

-- A drawing from a sound specification over a tape can make a turn.
pub record CanTurn (s : Spec) (x : Fraction) (contents : List ℕ
    → Option (List ℕ)) (limits : Limits) (d : DrawingState) (tape : TapeState) : Type 0 where
  pub sound : IsSound s
  pub belongs : DrawingBelongs s x d
  pub within : d.limits ≡ limits
  pub goes_on : d.ending ≡ None
  pub ahead : BelongsToShelf contents tape
  pub so_far : HasCourse s x limits d tape.used

-- The number that was left open, if one was, with the bounds that the ending states of a node.
abbrev pub told_open : Ending → Option Straddle
told_open (Undecided straddle) = Some straddle
told_open ending = None

-- The closing of a drawing that came to this end with these counts.
abbrev pub told_closing : Ending → (kept thrown bits turns : ℕ) → Closing
told_closing ending kept thrown bits turns =
    record {
      word = closing_word (ending_of ending);
      straddle = told_open ending;
      kept = kept;
      thrown = thrown;
      bits = bits;
      turns = turns;
    }

-- A drawing has come to this end, and states why.
pub record IsAtEnd (table : (level node : ℕ)
    → Bounds) (limits : Limits) (d : DrawingState) (ending : Ending) : Type 0 where
  pub ended : d.ending ≡ Some ending
  pub kept : ending ≡ Done → d.kept ≡ limits.count
  pub out_of_turns : ending ≡ TurnLimit → d.turns ≡ limits.turns
  pub open_is : told_open ending ≡ straddle_of table (ending_of ending)

-- A drawing is under way: its levels are raised for the bits that its numbers were given, and of
-- the header with the lines of its entries a part was written and the rest is held back.
pub record IsUnderWay (s : Spec) (x : Fraction) (F : ℕ) (table : (level node : ℕ)
    → Bounds) (limits : Limits) (told : Option (ℕ → Option Bool)) (d : DrawingState)
    (used raised : ℕ) (header : List ℕ) (start now : Option (List ℕ)) (held : List ℕ) : Type 0 where
  pub most : ℕ
  pub so_far : IsCourseSoFar s x F table limits told d used most
  pub lines : List ℕ
  pub lists : Lists s so_far.course.entries lines
  pub raised_is : raised ≡ level_for most
  pub held_is : IsHeld start now held (header ++ lines)

-- A drawing was broken off: of the header with the lines of the first entries of its course a
-- prefix was written.
pub record IsBroken (s : Spec) (x : Fraction) (F : ℕ) (table : (level node : ℕ)
    → Bounds) (limits : Limits) (told : Option (ℕ → Option Bool)) (d : DrawingState)
    (used raised : ℕ) (header : List ℕ) (start now : Option (List ℕ)) : Type 0 where
  pub most : ℕ
  pub so_far : IsCourseSoFar s x F table limits told d used most
  pub first : List Entry
  pub others : List Entry
  pub entries : so_far.course.entries ≡ first ++ others
  pub lines : List ℕ
  pub lists : Lists s first lines
  pub raised_is : raised ≡ level_for most
  pub front : AppendsFront start now (header ++ lines)

-- Where a drawing goes on it can make another turn, and has made more than before; else it has come
-- to its end.
abbrev pub DrawingGoesOn : (s : Spec) (x : Fraction) (table : (level node : ℕ) → Bounds)
    (contents : List ℕ → Option (List ℕ)) (limits : Limits) (before d : DrawingState)
    (tape : TapeState)
    → Option Ending → Type 0
DrawingGoesOn s x table contents limits before d tape None = CanTurn s x contents limits d tape
    × (before.turns < d.turns)
DrawingGoesOn s x table contents limits before d tape (Some ending) = IsAtEnd table limits d ending
