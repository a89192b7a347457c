-- A drawing as a function of the tape's bits: its state, one turn, and the state after any number
-- of turns.
use Rattle.std.specs.Prelude.{ℕ, zero, suc, ◌+◌, ◌-◌, Bool, true, false, nat_eq, nat_lt, List, []}
use Rattle.std.specs.Prelude.{◌∷◌, ◌++◌, Option, Some, None, option_map, option_to_list}
use Rattle.std.specs.Prelude.{if◌then◌else◌}
use Rattle.bz_model.specs.declared.cell.Cell.{Cell}
use Rattle.bz_model.specs.Spec.{Mode}
use Rattle.object_store.specs.declared.token.Token.{Token}
use Rattle.object_store.specs.Tokens.{size_of}
use Rattle.choice_draw.specs.Draw.{Bit, bit_of}
use Rattle.shape_sampler.specs.Visit.{Chooser, Attempt, Visited, visit, begun}
use Rattle.labelling.specs.LabelsByBits.{Labelling, bits_in, labelling}

-- The number that a draw left open: a node's, or a whole number below m for a label.
pub data Open : Type 0 where
  AtNode : (node : ℕ) → Cell → Open
  AtLabel : (m : ℕ) → Cell → Open

-- Why a drawing ended.
pub data Ending : Type 0 where
  Done : Ending
  TapeEnded : Ending
  Undecided : Open → Ending
  TurnLimit : Ending
  ReadFault : Ending

-- The least and the greatest size, how many objects are wanted, and how many turns may be made.
pub record Limits : Type 0 where
  pub min : ℕ
  pub max : ℕ
  pub count : ℕ
  pub turns : ℕ

-- What a drawing is a function of. `tape` has the bit at each place, and None from the tape's end
-- on.
pub record Sampling : Type 0 where
  pub chooser : Chooser
  pub limits : Limits
  pub tape : ℕ → Option Bool

-- The kept state: the attempt under way, whether it is a made shape that awaits its labels, the
-- counts and the ending. A shape that awaits its labels has nothing pending. Where no attempt is
-- under way, nothing is pending, tokens and cells are empty, and the room is 0.
pub record RunState : Type 0 where
  pub attempt : Attempt
  pub awaits : Bool
  pub kept : ℕ
  pub thrown : ℕ
  pub turns : ℕ
  pub ending : Option Ending

-- A kept object: its number from 1, the place of its first bit, its size, its tokens, its labels in
-- token order, its cells.
pub record Entry : Type 0 where
  pub number : ℕ
  pub place : ℕ
  pub size : ℕ
  pub tokens : List Token
  pub labels : List ℕ
  pub cells : List Cell

-- What a turn gives: the state after it, the object that it kept, if any, and the cells of the
-- numbers that it finished.
pub record Turned : Type 0 where
  pub state : RunState
  pub entry : Option Entry
  pub cells : List Cell

-- No attempt is under way, so many bits being used.
abbrev pub no_attempt : (used : ℕ) → Attempt
no_attempt used = record { pending = []; tokens = []; cells = []; room = 0; used = used }

-- The state with no attempt under way.
abbrev pub idle : RunState → RunState
idle st = record st { attempt = no_attempt st.attempt.used; awaits = false }

-- The state at the start.
abbrev pub start : RunState
start = record {
  attempt = no_attempt 0;
  awaits = false;
  kept = 0;
  thrown = 0;
  turns = 0;
  ending =
      None;
}

-- A turn that keeps nothing and finishes no number.
abbrev pub quiet : RunState → Turned
quiet st = record { state = st; entry = None; cells = [] }

-- The state after this visit.
abbrev pub with_attempt : RunState → Attempt → RunState
with_attempt st a = record st { attempt = a }

-- The attempt is thrown away.
abbrev pub thrown_away : RunState → RunState
thrown_away st = record (idle st) { thrown = suc st.thrown }

-- The state with the bits up to the place used.
abbrev pub at_place : RunState → (place : ℕ) → RunState
at_place st place = record st { attempt = record st.attempt { used = place } }

-- The drawing ends, with the bits up to the place used.
abbrev pub ended : RunState → Ending → (place : ℕ) → RunState
ended st ending place = record (at_place st place) { ending = Some ending }

-- The entry of the state's shape with these labels, whose cells follow those of the shape. Its
-- first bit stands before all that its cells spell.
abbrev pub entry_made : RunState → (labels : List ℕ) → (label_cells : List Cell) → Entry
entry_made st labels label_cells = record {
  number = suc st.kept;
  place = st.attempt.used - bits_in (st.attempt.cells ++ label_cells);
  size = size_of st.attempt.tokens;
  tokens = st.attempt.tokens;
  labels = labels;
  cells = st.attempt.cells ++ label_cells;
}

-- The state after its shape was kept.
abbrev pub kept_one : RunState → RunState
kept_one st = record (idle st) { kept = suc st.kept }

-- A made shape large enough is kept, or waits for labels. The cells are those that the turn
-- finished.
abbrev pub kept_or_waits : Mode → RunState → (finished : List Cell) → Turned
kept_or_waits Mode.Unlabelled st finished =
    record { state = kept_one st; entry = Some (entry_made st [] []); cells = finished }
kept_or_waits Mode.Labelled st finished =
    record { state = record st { awaits = true }; entry = None; cells = finished }

-- A made shape below the least size is thrown away.
abbrev pub shape_made : Sampling → RunState → (finished : List Cell) → Turned
shape_made s st finished =
    if nat_lt (size_of st.attempt.tokens) s.limits.min
    then record { state = thrown_away st; entry = None; cells = finished }
    else kept_or_waits s.chooser.spec.mode st finished

-- After a visit that went on, the shape is made where nothing is pending.
abbrev pub went : Sampling → RunState → (pending : List ℕ) → (finished : List Cell) → Turned
went s st [] finished = shape_made s st finished
went s st (e ∷ es) finished = record { state = st; entry = None; cells = finished }

-- The cells that a visit added to those before.
abbrev pub added : (before after : List Cell) → List Cell
added [] after = after
added (c ∷ before) [] = []
added (c ∷ before) (d ∷ after) = added before after

-- What a visit means for the drawing. Over throws the attempt away in the same turn; a stop ends
-- the drawing.
abbrev pub visited : Sampling → RunState → Visited → Turned
visited s st (Visited.Went a) =
    went s (with_attempt st a) a.pending (added st.attempt.cells a.cells)
visited s st (Visited.Over a) = record {
  state = thrown_away (with_attempt st a);
  entry =
      None;
  cells = added st.attempt.cells a.cells;
}
visited s st (Visited.Straddled node cell) =
    quiet (ended st (Ending.Undecided (Open.AtNode node cell))
    (st.attempt.used + cell.b))
visited s st (Visited.Ended place) = quiet (ended st Ending.TapeEnded place)
visited s st (Visited.Failed place) = quiet (ended st Ending.ReadFault place)

-- An attempt starts where nothing is pending; else the first pending node is visited.
abbrev pub shape_turn : Sampling → (bit : ℕ → Bit) → RunState → (pending : List ℕ) → Turned
shape_turn s bit st [] = quiet (with_attempt st (begun s.chooser.spec s.limits.max st.attempt.used))
shape_turn s bit st (e ∷ rest) = visited s st (visit s.chooser bit st.attempt)

-- The labelling was cut short and ends the drawing. The cells are those of the numbers that it
-- finished.
abbrev pub cut_short : RunState → Ending → (finished : List Cell) → (place : ℕ) → Turned
cut_short st ending finished place =
    record { state = ended st ending place; entry = None; cells = finished }

-- What a labelling means for the drawing: the shape is kept with its labels, or the drawing ends.
abbrev pub labelled_with : RunState → Labelling → Turned
labelled_with st (Labelling.Given labels cells place) =
    record {
      state = kept_one (at_place st place);
      entry =
          Some (entry_made (at_place st place) labels cells);
      cells = cells;
    }
labelled_with st (Labelling.Straddled m cell finished place) =
    cut_short st (Ending.Undecided (Open.AtLabel m cell)) finished place
labelled_with st (Labelling.Ended finished place) = cut_short st Ending.TapeEnded finished place
labelled_with st (Labelling.Failed finished place) = cut_short st Ending.ReadFault finished place

-- The waiting shape is labelled and kept.
abbrev pub label_turn : (bit : ℕ → Bit) → RunState → Turned
label_turn bit st = labelled_with st (labelling bit (size_of st.attempt.tokens) st.attempt.used)

-- A turn that was counted.
abbrev pub counted_turn : Sampling → (bit : ℕ → Bit) → RunState → Turned
counted_turn s bit st =
    if st.awaits then label_turn bit st else shape_turn s bit st st.attempt.pending

-- The place at which the shelf fails, where it gives that many bits in the turn before.
abbrev pub fault_place : RunState → Option ℕ → Option ℕ
fault_place st fault = option_map (λ given. st.attempt.used + given) fault

-- A turn of a drawing that has not ended.
abbrev pub open_turn : Sampling → (fault : Option ℕ) → RunState → Turned
open_turn s fault st =
    if nat_eq st.kept s.limits.count then quiet (ended st Ending.Done st.attempt.used)
    else (if nat_eq st.turns s.limits.turns then quiet (ended st Ending.TurnLimit st.attempt.used)
    else counted_turn s (bit_of s.tape (fault_place st fault)) (record st { turns = suc st.turns }))

abbrev pub turn_unless : Sampling → (fault : Option ℕ) → RunState → Option Ending → Turned
turn_unless s fault st None = open_turn s fault st
turn_unless s fault st (Some ending) = quiet st

-- One turn. `fault` is the number of bits that the shelf gives in the turn before it fails, where
-- it fails.
abbrev pub turn : Sampling → (fault : Option ℕ) → RunState → Turned
turn s fault st = turn_unless s fault st st.ending

-- A drawing's state with the entries kept and the cells of all numbers finished.
pub record Course : Type 0 where
  pub state : RunState
  pub entries : List Entry
  pub cells : List Cell

abbrev pub followed_by : Course → Turned → Course
followed_by c t = record {
  state = t.state;
  entries = c.entries ++ option_to_list t.entry;
  cells =
      c.cells ++ t.cells;
}

-- The course with one more turn.
abbrev pub one_turn_on : Sampling → (fault : Option ℕ) → Course → Course
one_turn_on s fault c = followed_by c (turn s fault c.state)

-- The course at the start.
abbrev pub at_start : Course
at_start = record { state = start; entries = []; cells = [] }

-- After n turns from the start, where the shelf fails in the turns that `faults` says, counted from
-- 0.
abbrev pub after : Sampling → (faults : ℕ → Option ℕ) → (n : ℕ) → Course
after s faults zero = at_start
after s faults (suc n) = one_turn_on s (faults n) (after s faults n)
