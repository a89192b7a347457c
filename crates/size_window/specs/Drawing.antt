-- What contracts see of a drawing.
use Rattle.std.specs.Prelude.{◌≡◌, ℕ, ◌+◌, ◌*◌, ◌≤◌, List, [], ◌∷◌, Option, Some, None, IfSome}
use Rattle.std.specs.Prelude.{option_map}
use Rattle.std.specs.Option.{is_some}
use Rattle.bz_model.specs.declared.cell.Cell.{Cell}
use Rattle.bz_model.specs.Fraction.{Fraction}
use Rattle.bz_model.specs.Spec.{Spec, Mode}
use Rattle.bz_model.specs.Cell.{AreCells}
use Rattle.object_store.specs.declared.token.Token.{Token}
use Rattle.object_store.specs.Tokens.{size_of}
use Rattle.shape_sampler.specs.Visit.{Attempt}
use Rattle.shape_sampler.specs.State.{SessionState, SessionBelongs, attempt_of, begun_state}
use Rattle.shape_sampler.specs.State.{emptied}
use Rattle.shape_sampler.specs.Belonging.{IsIdealShape}
use Rattle.size_window.specs.declared.ending.Ending.{Ending}
use Rattle.size_window.specs.declared.ending.Ending.TheVariants as ending
use Rattle.size_window.specs.declared.ending.Straddle.{Straddle}
use Rattle.size_window.specs.declared.ending.Straddle.TheVariants as straddle
use Rattle.size_window.specs.declared.limits.Limits as declared
use Rattle.size_window.specs.declared.finished_shape.Made.{Made}
use Rattle.size_window.specs.RunByBits as run
use Rattle.size_window.specs.RunByBits.{Limits, RunState, no_attempt}

-- A made shape has its tokens, and the cells of its numbers.
pub record MadeShape : Type 0 where
  pub tokens : List Token
  pub cells : List Cell

-- A drawing has a session, the made shape that waits for its labels, if one does, its limits, what
-- it counted, and its ending, if it ended.
pub record DrawingState : Type 0 where
  pub session : SessionState
  pub waiting : Option MadeShape
  pub limits : Limits
  pub kept : ℕ
  pub thrown : ℕ
  pub turns : ℕ
  pub atoms : ℕ
  pub ending : Option Ending

-- The limits of the struct.
abbrev pub limits_of : declared.Limits → Limits
limits_of l = record { min = l.min; max = l.max; count = l.count; turns = l.turns }

-- The made shape of the struct.
abbrev pub shape_of : Made → MadeShape
shape_of m = record { tokens = m.shape.items; cells = m.cells.items }

-- The tokens and cells of a session.
abbrev pub shape_in : SessionState → MadeShape
shape_in st = record { tokens = st.tokens; cells = st.cells }

-- The number that a straddle left open.
abbrev pub open_of : Straddle → run.Open
open_of (straddle.Node node cell lo hi) = run.Open.AtNode node.0 cell
open_of (straddle.Label m cell) = run.Open.AtLabel m cell

-- The ending of the enum.
abbrev pub ending_of : Ending → run.Ending
ending_of ending.Done = run.Ending.Done
ending_of ending.TapeEnded = run.Ending.TapeEnded
ending_of (ending.Undecided straddle) = run.Ending.Undecided (open_of straddle)
ending_of ending.TurnLimit = run.Ending.TurnLimit
ending_of ending.ReadFault = run.Ending.ReadFault

-- The attempt of a session where these nodes are pending, so many bits being used; none is under
-- way where no node is.
abbrev pub running : SessionState → (pending : List ℕ) → (used : ℕ) → Attempt
running st [] used = no_attempt used
running st (e ∷ es) used = attempt_of st used

-- The attempt of a made shape: nothing is pending, and the room is that which its making left.
abbrev pub attempt_made : MadeShape → (room used : ℕ) → Attempt
attempt_made shape room used =
    record { pending = []; tokens = shape.tokens; cells = shape.cells; room = room; used = used }

-- The attempt of a session, unless a made shape waits for its labels: then it is that of the shape.
abbrev pub attempt_unless : Option MadeShape → SessionState → (used : ℕ) → Attempt
attempt_unless None st used = running st st.pending used
attempt_unless (Some shape) st used = attempt_made shape st.room used

-- The state of a drawing, so many bits being used.
abbrev pub state_of : DrawingState → (used : ℕ) → RunState
state_of d used = record {
  attempt = attempt_unless d.waiting d.session used;
  awaits = is_some d.waiting;
  kept = d.kept;
  thrown = d.thrown;
  turns = d.turns;
  ending = option_map ending_of d.ending;
}

-- Limits that a drawing takes.
pub record AreLimits (l : Limits) : Type 0 where
  pub window : l.min ≤ l.max
  pub max : l.max ≤ 1000000
  pub some : 1 ≤ l.count
  pub count : l.count ≤ 100000
  pub some_turns : 1 ≤ l.turns
  pub turns : l.turns ≤ 50000000

-- A shape waits in labelled mode, while the session is at rest; it is the ideal one for all numbers
-- in its cells, which are cells, and of at least the least size.
pub record Waits (s : Spec) (x : Fraction) (d : DrawingState) (shape : MadeShape) : Type 0 where
  pub labelled : s.mode ≡ Mode.Labelled
  pub rests : d.session.pending ≡ []
  pub ideal : IsIdealShape s x d.limits.max shape.tokens shape.cells
  pub least : d.limits.min ≤ size_of shape.tokens
  pub cells : AreCells shape.cells

-- A drawing belongs to a specification and x where its session does, a shape that waits for its
-- labels is one that may, the session's whole room is the greatest size, nothing stopped the
-- session while the drawing goes on, and the counts are within the limits.
pub record DrawingBelongs (s : Spec) (x : Fraction) (d : DrawingState) : Type 0 where
  pub session : SessionBelongs s x d.session
  pub waits : IfSome d.waiting (Waits s x d)
  pub whole : d.session.whole ≡ d.limits.max
  pub runs : d.ending ≡ None → d.session.stopped ≡ None
  pub limits : AreLimits d.limits
  pub kept : d.kept ≤ d.limits.count
  pub attempts : d.kept + d.thrown ≤ d.turns
  pub turns : d.turns ≤ d.limits.turns
  pub atoms : d.atoms ≤ d.kept * 1000000

-- A drawing after one more turn.
abbrev pub counted : DrawingState → DrawingState
counted d = record d { turns = d.turns + 1 }

-- A drawing whose attempt was thrown away.
abbrev pub thrown_one : DrawingState → DrawingState
thrown_one d = record d { thrown = d.thrown + 1 }

-- A drawing whose session's shape was taken out.
abbrev pub taken_out : DrawingState → DrawingState
taken_out d = record d { session = emptied d.session }

-- A drawing where this shape waits for its labels, and one where none does.
abbrev pub waiting_with : DrawingState → MadeShape → DrawingState
waiting_with d shape = record d { waiting = Some shape }

abbrev pub none_waiting : DrawingState → DrawingState
none_waiting d = record d { waiting = None }

-- A drawing that kept one object more, of this size.
abbrev pub kept_one_more : DrawingState → (size : ℕ) → DrawingState
kept_one_more d size = record d { kept = d.kept + 1; atoms = d.atoms + size }

-- A drawing that ended.
abbrev pub ended_by : DrawingState → Ending → DrawingState
ended_by d ending = record d { ending = Some ending }

-- A drawing whose session began an attempt, in a turn that was counted.
abbrev pub begun_one : DrawingState → DrawingState
begun_one d = record d { session = begun_state d.session; turns = d.turns + 1 }
