-- A drawing's whole way over its tape, from its start on.
use Rattle.std.specs.Prelude.{◌≡◌, ◌≢◌, ℕ, zero, suc, ◌-◌, ◌<◌, max, map, sum, Bool, List, [], ◌++◌}
use Rattle.std.specs.Prelude.{length, Option, Some, None, IfSome, IsSome, if◌then◌else◌}
use Rattle.bz_model.specs.declared.cell.Bounds.{Bounds}
use Rattle.bz_model.specs.declared.cell.Cell.{Cell}
use Rattle.bz_model.specs.Cell.{AreCells, bits_of, spelled}
use Rattle.bz_model.specs.Fraction.{Fraction}
use Rattle.bz_model.specs.Spec.{Spec}
use Rattle.bit_tape.specs.Given.{HasBits, Gave}
use Rattle.labelling.specs.Spelled.{AreSpelled}
use Rattle.shape_sampler.specs.Visit.{Chooser}
use Rattle.shape_sampler.specs.Answer.{ChoosesBy}
use Rattle.size_window.specs.RunByBits.{Open, Ending, Limits, Sampling, RunState, Entry, Course}
use Rattle.size_window.specs.RunByBits.{start}
use Rattle.size_window.specs.RunByBits.{at_start, followed_by, after}
use Rattle.size_window.specs.Drawing.{DrawingState, state_of}
use Rattle.size_window.specs.Follows.{GoesIdeally}
use Rattle.size_window.specs.declared.turned.Turned.{Turned}
use Rattle.size_window.specs.Turn.{IsTurn, IsCountedTurn, node_bits}
use Rattle.class_system.specs.Sound.{IsSound}

-- The cell of a number that was left open.
abbrev pub open_cell : Open → Cell
open_cell (Open.AtNode node cell) = cell
open_cell (Open.AtLabel m cell) = cell

-- Bits are those of the number that a drawing left open: none while it goes on and where it ended
-- with Done or the limit of turns; the 60 of a cell that straddles; fewer where the tape's end or
-- its shelf cut the number short.
abbrev pub AreOpen : Option Ending → List Bool → Type 0
AreOpen (Some (Ending.Undecided number)) bits =
    (bits ≡ bits_of (open_cell number).b (open_cell number).k) × ((open_cell number).b ≡ 60)
AreOpen (Some Ending.TapeEnded) bits = length bits < 60
AreOpen (Some Ending.ReadFault) bits = length bits < 60
AreOpen _ bits = bits ≡ []

-- The bits that a course used over a tape are those that its cells spell, in order, each of which
-- is a cell, and then those of the number that was left open.
pub record IsSpelled (c : Course) (tape : ℕ → Option Bool) : Type 0 where
  pub open_bits : List Bool
  pub spelled_there : AreSpelled tape 0 c.cells open_bits c.state.attempt.used
  pub are_open : AreOpen c.state.ending open_bits

-- The same of the bits that it was given.
pub record Spells (c : Course) (given : List Bool) : Type 0 where
  pub open_bits : List Bool
  pub whole : given ≡ spelled c.cells ++ open_bits
  pub are_open : AreOpen c.state.ending open_bits
  pub each : AreCells c.cells

-- The bits that a turn gave to a number of a choice node, which is a union, a sequence, a set or a
-- cycle: all that it used, and none where it labelled a made shape.
abbrev pub bits_to_node : (before now : RunState) → ℕ
bits_to_node before now = if before.awaits then 0 else now.attempt.used - before.attempt.used

-- The greatest number of bits that one number of a choice node was given in the first n turns of
-- the course over a tape's bits.
unfoldable pub most_given : Sampling → (faults : ℕ → Option ℕ) → (n : ℕ) → ℕ
most_given s faults zero = 0
most_given s faults (suc n) = max (most_given s faults n)
    (bits_to_node (after s faults n).state (after s faults (suc n)).state)

-- Where a course ended with the tape's end, these bits end at the place used.
abbrev pub EndsAt : Option Ending → (used : ℕ) → (bits : ℕ → Option Bool) → Type 0
EndsAt (Some Ending.TapeEnded) used bits = bits used ≡ None
EndsAt _ used bits = Unit {0}

-- A course is that of so many turns over these bits, and `most` is the greatest number of bits that
-- one number of a choice node was given in a turn.
pub record IsCourseOver (s : Sampling) (faults : ℕ → Option ℕ) (turns : ℕ) (c : Course)
    (most : ℕ) : Type 0 where
  pub same : c ≡ after s faults turns
  pub most_is : most ≡ most_given s faults turns

-- The atoms of entries.
abbrev pub atoms_in : List Entry → ℕ
atoms_in entries = sum (map (λ e. e.size) entries)

-- A course is a trace: the whole way of a drawing that was asked for so many turns, over a tape
-- from its first bit on. It goes as ideal runs do. The drawing was given as many bits as it used,
-- the tape's first ones where they are told; the cells and the number left open spell them; and
-- over every tape that begins with them, and ends where the course met its end, the course is the
-- one that they fix, for each chooser by the table. The shelf failed in one of the turns only where
-- the course ended with a failed read. `most` is the greatest number of bits that one number of a
-- choice node was given in a turn.
pub record IsTrace (s : Spec) (x : Fraction) (F : ℕ) (table : (level node : ℕ) → Bounds)
    (limits : Limits) (told : Option (ℕ → Option Bool)) (turns most : ℕ) (c : Course) : Type 0 where
  pub goes : GoesIdeally s x limits c
  pub given : List Bool
  pub gave : Gave told 0 c.state.attempt.used given
  pub ended : IfSome told (EndsAt c.state.ending c.state.attempt.used)
  pub spells : Spells c given
  pub faults : ℕ → Option ℕ
  pub disturbed : (turn before : ℕ) → faults turn ≡ Some before
      → c.state.ending ≡ Some Ending.ReadFault
  pub exact : (tape : ℕ → Option Bool) → HasBits tape 0 given
      → EndsAt c.state.ending c.state.attempt.used tape → (k : Chooser) → ChoosesBy s F table k
      → IsCourseOver (record { chooser = k; limits = limits; tape = tape }) faults turns c most

-- A drawing with these limits, whose tape used so many bits, has this trace: the course's state is
-- that of the drawing, and its atoms are those of the entries.
pub record HasTrace (s : Spec) (x : Fraction) (F : ℕ) (table : (level node : ℕ) → Bounds)
    (limits : Limits) (told : Option (ℕ → Option Bool)) (turns : ℕ) (d : DrawingState)
    (used most : ℕ) (c : Course) : Type 0 where
  pub trace : IsTrace s x F table limits told turns most c
  pub state : c.state ≡ state_of d used
  pub within : d.limits ≡ limits
  pub atoms : d.atoms ≡ atoms_in c.entries

-- Every drawing before its first turn has a trace: that of no bit, with no entry and no cell.
abbrev pub TracesStart : Type 0
TracesStart = (s : Spec) (x : Fraction) (F : ℕ) (table : (level node : ℕ) → Bounds)
    (limits : Limits) (told : Option (ℕ → Option Bool)) (d : DrawingState) → state_of d 0 ≡ start
    → d.limits ≡ limits → d.atoms ≡ 0 → HasTrace s x F table limits told 0 d 0 0 at_start

-- Every turn of a drawing from this specification continues its trace: the turn's bits stand after
-- those given before, its entry after the entries, and its cells after the cells.
abbrev pub TurnsContinueOf : Spec → Type 0
TurnsContinueOf s = (x : Fraction) (F : ℕ) (table : (level node : ℕ) → Bounds) (limits : Limits)
    (told : Option (ℕ → Option Bool)) (turns : ℕ) (before : DrawingState) (used most : ℕ)
    (c : Course) → HasTrace s x F table limits told turns before used most c → (answer : Turned)
    (now : DrawingState) (later : ℕ) (turn : IsTurn s x F table told before used answer now later)
    → IsCountedTurn before answer now
    → HasTrace s x F table limits told (suc turns) now later
    (max most (node_bits before.waiting (later - used)))
    (followed_by c turn.turned)

-- So it does from every sound specification.
abbrev pub TurnsContinue : Type 0
TurnsContinue = (s : Spec) → IsSound s → TurnsContinueOf s

-- A trace over a tape whose bits are told, where no read failed at its end, is the course over
-- these bits in which none fails.
abbrev pub ToldTracesAreCourses : Type 0
ToldTracesAreCourses = (s : Spec) (x : Fraction) (F : ℕ) (table : (level node : ℕ) → Bounds)
    (limits : Limits) (tape : ℕ → Option Bool) (turns most : ℕ) (c : Course)
    → IsTrace s x F table limits (Some tape) turns most c
    → c.state.ending ≢ Some Ending.ReadFault → (k : Chooser) → ChoosesBy s F table k
    → IsCourseOver (record { chooser = k; limits = limits; tape = tape }) (λ n. None) turns c most

-- A course has ended, and not with a failed read.
pub record CourseHasEnded (c : Course) : Type 0 where
  pub ended : IsSome c.state.ending
  pub undisturbed : c.state.ending ≢ Some Ending.ReadFault

-- Two traces over one tape whose bits are told, both of which have ended, and neither with a failed
-- read, are one course, with the same greatest number of bits that a number of a choice node was
-- given.
abbrev pub EndedTracesAreOne : Type 0
EndedTracesAreOne = (s : Spec) (x : Fraction) (F : ℕ) (table : (level node : ℕ) → Bounds)
    (limits : Limits) (tape : ℕ → Option Bool) (k : Chooser) → ChoosesBy s F table k
    → (turns most : ℕ) (c : Course) → IsTrace s x F table limits (Some tape) turns most c
    → CourseHasEnded c
    → (others greatest : ℕ) (d : Course) → IsTrace s x F table limits (Some tape) others greatest d
    → CourseHasEnded d → (c ≡ d) × (most ≡ greatest)
