-- What one turn of a drawing makes of it.
use Rattle.std.specs.Prelude.{◌≡◌, ◌≢◌, ℕ, ◌+◌, ◌-◌, ◌*◌, ◌<◌, ◌≤◌, ◌⊎◌, Bool, true, false, List}
use Rattle.std.specs.Prelude.{[], Option, Some, None, IfSome}
use Rattle.bz_model.specs.declared.cell.Bounds.{Bounds}
use Rattle.bz_model.specs.declared.cell.Cell.{Cell}
use Rattle.bz_model.specs.Fraction.{Fraction}
use Rattle.bz_model.specs.Spec.{Spec, Mode}
use Rattle.bz_model.specs.Cell.{IsCell, AreCells}
use Rattle.bz_model.specs.Labels.{AreOneTo}
use Rattle.bit_tape.specs.Given.{HasBits, Gave}
use Rattle.class_system.specs.declared.ids.ExprId.{ExprId}
use Rattle.object_store.specs.Tokens.{size_of}
use Rattle.shape_sampler.specs.declared.stepped.Stepped.{Stepped}
use Rattle.shape_sampler.specs.declared.stepped.Stepped.TheVariants as stepped
use Rattle.shape_sampler.specs.Visit.{Chooser}
use Rattle.shape_sampler.specs.Answer.{ChoosesBy}
use Rattle.size_window.specs.declared.ending.Ending.{Ending}
use Rattle.size_window.specs.declared.ending.Ending.TheVariants.{Done, TapeEnded, Undecided}
use Rattle.size_window.specs.declared.ending.Ending.TheVariants.{TurnLimit, ReadFault}
use Rattle.size_window.specs.declared.ending.Straddle.TheVariants as straddle
use Rattle.size_window.specs.declared.turned.Entry.{Entry}
use Rattle.size_window.specs.declared.turned.Turned.{Turned}
use Rattle.size_window.specs.declared.turned.Turned.TheVariants.{Going, Kept, Finished, OutOfMemory}
use Rattle.size_window.specs.declared.turned.Outcome.{Outcome}
use Rattle.size_window.specs.declared.turned.Outcome.TheVariants as outcome
use Rattle.size_window.specs.RunByBits as run
use Rattle.labelling.specs.LabelsByBits.{bits_in}
use Rattle.size_window.specs.RunByBits.{Limits, Course, followed_by, turn}
use Rattle.size_window.specs.Follows.{GoesIdeally}
use Rattle.size_window.specs.Drawing.{MadeShape, DrawingState, state_of, shape_in, counted}
use Rattle.size_window.specs.Drawing.{thrown_one, taken_out, waiting_with, kept_one_more, ended_by}
use Rattle.size_window.specs.Drawing.{begun_one}

-- The labels of an entry, where it has any.
abbrev pub labels_told : Option (List ℕ) → List ℕ
labels_told None = []
labels_told (Some labels) = labels

-- The entry of a struct: its size is that of its tokens.
abbrev pub entry_of : Entry → run.Entry
entry_of e = record {
  number = e.number;
  place = e.place;
  size = size_of e.shape.items;
  tokens =
      e.shape.items;
  labels = labels_told e.labels;
  cells = e.cells.items;
}

-- The entry that an answer tells.
abbrev pub told_entry : Turned → Option run.Entry
told_entry (Kept e) = Some (entry_of e)
told_entry _ = None

-- The number of bits that the shelf gave before it failed, where this answer ends with a failed
-- read a drawing that hadn't ended.
abbrev pub told_fault : Option Ending → Turned → (given : ℕ) → Option ℕ
told_fault None (Finished ReadFault) given = Some given
told_fault _ _ given = None

-- A drawing goes on to a turn that is counted: it hasn't ended, fewer objects than wanted are kept,
-- and fewer turns than the limit were counted.
pub record GoesOn (d : DrawingState) : Type 0 where
  pub going : d.ending ≡ None
  pub fewer : d.kept ≢ d.limits.count
  pub more : d.turns ≢ d.limits.turns

-- The answer is that a read failed, in this turn: the drawing hadn't ended before.
abbrev pub is_turn_fault : Turned → (ending : Option Ending) → Bool
is_turn_fault (Finished ReadFault) None = true
is_turn_fault _ ending = false

-- Where the tape's end ended the drawing in this turn, these bits end at the place used.
abbrev pub TurnEndsThere : Turned → (ending : Option Ending) → (used : ℕ) → (bits : ℕ → Option Bool)
    → Type 0
TurnEndsThere (Finished TapeEnded) None used bits = bits used ≡ None
TurnEndsThere _ ending used bits = Unit {0}

-- A drawing that had ended answers its ending again, and nothing changes.
pub record Rests (ending : Ending) (before : DrawingState) (start : ℕ) (answer : Turned)
    (now : DrawingState) (used : ℕ) : Type 0 where
  pub told : answer ≡ Finished ending
  pub same : now ≡ before
  pub unused : used ≡ start

-- A drawing's turn: there are a state, an entry and finished cells such that the state is that of
-- the drawing now, and the entry is the one told. A drawing that had ended rests. A course that
-- goes as ideal runs do still does with this turn more. The turn was given as many bits as were
-- used, the tape's own where they are told; and over every tape that has these bits there, and ends
-- where the answer says that it did, it is the turn that they fix, for each chooser by the table.
pub record IsTurn (s : Spec) (x : Fraction) (F : ℕ) (table : (level node : ℕ) → Bounds)
    (bits : Option (ℕ → Option Bool)) (before : DrawingState) (start : ℕ) (answer : Turned)
    (now : DrawingState) (used : ℕ) : Type 0 where
  pub turned : run.Turned
  pub state : turned.state ≡ state_of now used
  pub entry : turned.entry ≡ told_entry answer
  pub rests : (ending : Ending) → before.ending ≡ Some ending
      → Rests ending before start answer now used
  pub goes : (c : Course) → c.state ≡ state_of before start → GoesIdeally s x before.limits c
      → GoesIdeally s x before.limits (followed_by c turned)
  pub given : List Bool
  pub gave : Gave bits start used given
  pub ended : IfSome bits (TurnEndsThere answer before.ending used)
  pub exact : (tape : ℕ → Option Bool) → HasBits tape start given
      → TurnEndsThere answer before.ending used tape → (c : Chooser) → ChoosesBy s F table c
      → turned ≡ turn (record { chooser = c; limits = before.limits; tape = tape })
      (told_fault before.ending answer (used - start)) (state_of before start)

-- How many objects an answer keeps, and their atoms.
abbrev pub kept_by : Turned → ℕ
kept_by (Kept e) = 1
kept_by _ = 0

abbrev pub atoms_by : Turned → ℕ
atoms_by (Kept e) = size_of e.shape.items
atoms_by _ = 0

-- Ends that cost no turn: Done and TurnLimit.
abbrev pub turns_of : Ending → ℕ
turns_of Done = 0
turns_of TurnLimit = 0
turns_of _ = 1

-- How many turns an answer counts, from a drawing with this ending. An ended drawing counts none.
abbrev pub turns_by : Option Ending → Turned → ℕ
turns_by (Some ending) answer = 0
turns_by None (Finished ending) = turns_of ending
turns_by None OutOfMemory = 0
turns_by None _ = 1

-- The ending that an answer leaves.
abbrev pub ending_by : Option Ending → Turned → Option Ending
ending_by before (Finished ending) = Some ending
ending_by before _ = before

-- What a turn counts. Its limits stay.
pub record IsCountedTurn (before : DrawingState) (answer : Turned)
    (now : DrawingState) : Type 0 where
  pub limits : now.limits ≡ before.limits
  pub kept : now.kept ≡ before.kept + kept_by answer
  pub atoms : now.atoms ≡ before.atoms + atoms_by answer
  pub turns : now.turns ≡ before.turns + turns_by before.ending answer
  pub thrown : (now.thrown ≡ before.thrown) ⊎ ((answer ≡ Going) × (now.thrown ≡ before.thrown + 1))
  pub ending : now.ending ≡ ending_by before.ending answer

-- An entry of a drawing that kept so many objects before, so many bits being used now: it has the
-- next number, its first bit stands before all that its cells spell, its size is within the window,
-- and its cells are cells.
pub record IsNextKept (limits : Limits) (kept used : ℕ) (e : Entry) : Type 0 where
  pub number : e.number ≡ kept + 1
  pub place : e.place ≡ used - bits_in e.cells.items
  pub least : limits.min ≤ size_of e.shape.items
  pub greatest : size_of e.shape.items ≤ limits.max
  pub cells : AreCells e.cells.items

-- The labels of an entry, in labelled mode: they are there, and are 1 to the number of its atoms in
-- some order.
pub record AreLabels (atoms : ℕ) (told : Option (List ℕ)) : Type 0 where
  pub labels : List ℕ
  pub there : told ≡ Some labels
  pub one_to : AreOneTo atoms labels

-- An entry has labels in labelled mode, and none in unlabelled mode.
abbrev pub EntryHasLabels : Mode → Entry → Type 0
EntryHasLabels Mode.Unlabelled e = e.labels ≡ None
EntryHasLabels Mode.Labelled e = AreLabels (size_of e.shape.items) e.labels

-- What is said of a kept entry holds.
abbrev pub IfKept : Turned → (Entry → Type 0) → Type 0
IfKept (Kept e) P = P e
IfKept _ P = Unit {0}

-- The bounds told are those of level 6, and the cell is one of 60 bits.
pub record AreLevelSix (table : (level node : ℕ) → Bounds) (node : ℕ) (cell : Cell)
    (lo hi : ℕ) : Type 0 where
  pub lower : lo ≡ (table 6 node).lo
  pub upper : hi ≡ (table 6 node).hi
  pub is_cell : IsCell cell.k cell.b
  pub bits : cell.b ≡ 60

-- The bits that a turn gives to numbers of nodes: none where a shape waits for its labels, else
-- all.
abbrev pub node_bits : Option MadeShape → (bits : ℕ) → ℕ
node_bits None bits = bits
node_bits (Some shape) bits = 0

-- The most bits that a turn takes: those of one number for each atom of a shape that waits for its
-- labels, else those of one number.
abbrev pub most_bits : Option MadeShape → ℕ
most_bits None = 60
most_bits (Some shape) = 60 * size_of shape.tokens

-- What an answer tells of a number left open.
abbrev pub TellsOpen : (table : (level node : ℕ) → Bounds) → Turned → Type 0
TellsOpen table (Finished (Undecided (straddle.Node node cell lo hi))) =
    AreLevelSix table node.0 cell lo hi
TellsOpen table (Finished (Undecided (straddle.Label m cell))) = (2 ≤ m)
    × IsCell cell.k cell.b × (cell.b ≡ 60)
TellsOpen table _ = Unit {0}

-- What a visit's answer leaves to do, by a table of bounds.
abbrev pub outcome_of : (table : (level node : ℕ) → Bounds) → Stepped → Outcome
outcome_of table stepped.Moved = outcome.Moved
outcome_of table stepped.Made = outcome.Made
outcome_of table stepped.Overshot = outcome.Over
outcome_of table (stepped.Straddles node cell) =
    outcome.Stopped (Undecided (straddle.Node node cell (table 6 node.0).lo (table 6 node.0).hi))
outcome_of table stepped.Ended = outcome.Stopped TapeEnded
outcome_of table stepped.ReadFault = outcome.Stopped ReadFault
outcome_of table stepped.OutOfMemory = outcome.OutOfMemory

-- What is said of the node of a cell that straddles holds.
abbrev pub IfStraddles : Stepped → (ExprId → Type 0) → Type 0
IfStraddles (stepped.Straddles node cell) P = P node
IfStraddles _ P = Unit {0}

-- A turn that needs no bit: an ended drawing answers its ending again; the wanted count ends a
-- drawing with Done, the limit of turns with TurnLimit; where no shape waits and nothing is pending
-- an attempt begins, or memory runs out. Else there is no answer: a shape is to be labelled, or a
-- node to be visited.
pub data IsIdleTurn (before : DrawingState) (answer : Option Turned)
    (now : DrawingState) : Type 0 where
  again : (ending : Ending) → before.ending ≡ Some ending → answer ≡ Some (Finished ending)
      → now ≡ before → IsIdleTurn before answer now
  done : before.ending ≡ None → before.kept ≡ before.limits.count → answer ≡ Some (Finished Done)
      → now ≡ ended_by before Done → IsIdleTurn before answer now
  turn_limit : before.ending ≡ None → before.kept ≢ before.limits.count
      → before.turns ≡ before.limits.turns → answer ≡ Some (Finished TurnLimit)
      → now ≡ ended_by before TurnLimit → IsIdleTurn before answer now
  begins : GoesOn before → before.waiting ≡ None → before.session.pending ≡ [] → answer ≡ Some Going
      → now ≡ begun_one before → IsIdleTurn before answer now
  no_memory : GoesOn before → before.waiting ≡ None → before.session.pending ≡ []
      → answer ≡ Some OutOfMemory → now ≡ before → IsIdleTurn before answer now
  labels : GoesOn before → before.waiting ≢ None → answer ≡ None → now ≡ before
      → IsIdleTurn before answer now
  visits : GoesOn before → before.waiting ≡ None → before.session.pending ≢ [] → answer ≡ None
      → now ≡ before → IsIdleTurn before answer now

-- A made shape is kept with these labels, so many bits being used now: the answer is its entry,
-- with the shape's tokens and cells.
pub record Keeps (shape : MadeShape) (labels : Option (List ℕ)) (used : ℕ) (before : DrawingState)
    (answer : Turned) (now : DrawingState) : Type 0 where
  pub entry : Entry
  pub told : answer ≡ Kept entry
  pub number : entry.number ≡ before.kept + 1
  pub place : entry.place ≡ used - bits_in shape.cells
  pub shape_is : entry.shape.items ≡ shape.tokens
  pub labels_are : entry.labels ≡ labels
  pub cells : entry.cells.items ≡ shape.cells
  pub now_is : now ≡ kept_one_more before (size_of shape.tokens)

-- A made shape is kept in unlabelled mode, and waits for its labels in labelled mode.
abbrev pub KeepsOrWaits : Mode → MadeShape → (used : ℕ) → (before : DrawingState) → Turned
    → (now : DrawingState) → Type 0
KeepsOrWaits Mode.Unlabelled shape used before answer now = Keeps shape None used before answer now
KeepsOrWaits Mode.Labelled shape used before answer now =
    (answer ≡ Going) × (now ≡ waiting_with before shape)

-- An attempt is thrown away.
abbrev pub Throws : (before : DrawingState) → Turned → (now : DrawingState) → Type 0
Throws before answer now = (answer ≡ Going) × (now ≡ thrown_one (counted before))

-- What is left to do after a visit is done, in a mode, so many bits being used. A made shape below
-- the least size is thrown away.
abbrev pub Settles : Mode → Outcome → (used : ℕ) → (before : DrawingState) → Turned
    → (now : DrawingState) → Type 0
Settles mode outcome.Moved used before answer now = (answer ≡ Going) × (now ≡ counted before)
Settles mode outcome.Made used before answer now =
    ((size_of before.session.tokens < before.limits.min)
    × Throws before answer now) ⊎ ((before.limits.min ≤ size_of before.session.tokens)
    × KeepsOrWaits mode (shape_in before.session) used (counted (taken_out before)) answer now)
Settles mode outcome.Over used before answer now = Throws before answer now
Settles mode (outcome.Stopped ending) used before answer now =
    (answer ≡ Finished ending) × (now ≡ ended_by (counted before) ending)
Settles mode outcome.OutOfMemory used before answer now = (answer ≡ OutOfMemory) × (now ≡ before)

-- A drawing is able to settle a visit: where a shape was made nothing is pending, and the counts
-- have room.
pub record MaySettle (o : Outcome) (d : DrawingState) : Type 0 where
  pub none_waits : d.waiting ≡ None
  pub made : o ≡ outcome.Made → d.session.pending ≡ []
  pub size : o ≡ outcome.Made → size_of d.session.tokens ≤ 1000000
  pub kept : d.kept < 100000
  pub thrown : d.thrown < 50000000
  pub turns : d.turns < 50000000
  pub atoms : d.atoms ≤ d.kept * 1000000
