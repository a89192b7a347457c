-- The state of a session.
use Rattle.std.specs.Prelude.{◌≡◌, ◌≢◌, ℕ, ◌<◌, length, replicate, slice_index, List, [], ◌∷◌, ◌++◌}
use Rattle.std.specs.Prelude.{Option, Some, None}
use Rattle.bz_model.specs.declared.cell.Cell.{Cell}
use Rattle.bz_model.specs.Fraction.{Fraction}
use Rattle.bz_model.specs.Cell.{AreCells}
use Rattle.bz_model.specs.Spec.{Spec, node_at, body_of}
use Rattle.class_system.specs.declared.ids.ExprId.{ExprId}
use Rattle.choice_draw.specs.declared.drawn.Drawn.{Drawn}
use Rattle.choice_draw.specs.declared.drawn.Drawn.TheVariants as drawn
use Rattle.series_bounds.specs.Series.{Kind}
use Rattle.count_draw.specs.Kinds.{counted_node}
use Rattle.count_draw.specs.declared.drawn_count.CountDrawn.{CountDrawn}
use Rattle.count_draw.specs.declared.drawn_count.CountDrawn.TheVariants as counted
use Rattle.object_store.specs.declared.token.Token.{Token}
use Rattle.object_store.specs.declared.token.Token.TheVariants as token
use Rattle.shape_sampler.specs.declared.stepped.Stepped.{Stepped}
use Rattle.shape_sampler.specs.declared.stepped.Stepped.TheVariants.{Moved, Made, Overshot}
use Rattle.shape_sampler.specs.declared.stepped.Stepped.TheVariants.{Straddles, Ended, ReadFault}
use Rattle.shape_sampler.specs.declared.stepped.Stepped.TheVariants.{OutOfMemory}
use Rattle.shape_sampler.specs.Visit.{Attempt}
use Rattle.shape_sampler.specs.Belonging.{Belonging}

-- A session knows the body of class 0 and the whole room; it has an attempt with the nodes that are
-- pending, the tokens and the cells so far and the room left, and the answer that stopped it, if
-- one did.
pub record SessionState : Type 0 where
  pub root : ℕ
  pub whole : ℕ
  pub pending : List ℕ
  pub tokens : List Token
  pub cells : List Cell
  pub room : ℕ
  pub stopped : Option Stepped

-- The attempt of a session, so many bits of the tape being used.
abbrev pub attempt_of : SessionState → (used : ℕ) → Attempt
attempt_of st used = record {
  pending = st.pending;
  tokens = st.tokens;
  cells = st.cells;
  room =
      st.room;
  used = used;
}

-- A session at the start of an attempt: the body of class 0 is pending, tokens and cells are empty,
-- the room is whole, and nothing stopped it.
abbrev pub begun_state : SessionState → SessionState
begun_state st =
    record st { pending = st.root ∷ []; tokens = []; cells = []; room = st.whole; stopped = None }

-- A session whose tokens and cells were moved out.
abbrev pub emptied : SessionState → SessionState
emptied st = record st { tokens = []; cells = [] }

-- A session belongs where it knows the body of class 0, which is a node, its attempt belongs, and
-- its cells are cells.
pub record SessionBelongs (s : Spec) (x : Fraction) (st : SessionState) : Type 0 where
  pub root : body_of s 0 ≡ Some st.root
  pub root_in_range : st.root < length s.nodes
  pub attempt : Belonging s x st.whole (attempt_of st 0)
  pub cells : AreCells st.cells

-- What is left where a session goes on: it knows what it knew, and nothing stopped it.
pub record Runs (before now : SessionState) : Type 0 where
  pub root : now.root ≡ before.root
  pub whole : now.whole ≡ before.whole
  pub stopped : now.stopped ≡ None

-- The session stopped by an answer, and else as it was.
abbrev pub stopped_by : SessionState → Stepped → SessionState
stopped_by st answer = record st { stopped = Some answer }

-- What an answer leaves. Moved: nodes are pending. Made and Overshot: none is. A cell that
-- straddles, the tape's end and a failed read stop the session and leave its attempt as it was.
-- Want of memory leaves the session as it was.
abbrev pub Leaves : Stepped → (before now : SessionState) → Type 0
Leaves Moved before now = Runs before now × (now.pending ≢ [])
Leaves Made before now = Runs before now × (now.pending ≡ [])
Leaves Overshot before now = Runs before now × (now.pending ≡ [])
Leaves (Straddles node cell) before now = now ≡ stopped_by before (Straddles node cell)
Leaves Ended before now = now ≡ stopped_by before Ended
Leaves ReadFault before now = now ≡ stopped_by before ReadFault
Leaves OutOfMemory before now = now ≡ before

-- The answer where so many nodes are pending after a visit.
abbrev pub answer_for : (pending : List ℕ) → Stepped
answer_for [] = Made
answer_for (e ∷ es) = Moved

-- What stops a session is a cell that straddles, the tape's end or a failed read.
abbrev pub StopsSession : Option Stepped → Type 0
StopsSession None = Unit {0}
StopsSession (Some (Straddles node cell)) = Unit {0}
StopsSession (Some Ended) = Unit {0}
StopsSession (Some ReadFault) = Unit {0}
StopsSession _ = ⊥

-- The node of this number is a sequence, a set or a cycle of this part.
pub record HasCountedPart (s : Spec) (e part : ℕ) : Type 0 where
  pub kind : Kind
  pub here : node_at s e ≡ Some (counted_node kind part)

-- The answer to a draw at a union.
abbrev pub union_answer : ExprId → Drawn → Stepped
union_answer node (drawn.Value value cell) = Moved
union_answer node (drawn.Straddles cell) = Straddles node cell
union_answer node drawn.Ended = Ended
union_answer node drawn.ReadFault = ReadFault

-- The answer to a draw of a number of parts, after which these nodes are pending.
abbrev pub count_answer : ExprId → CountDrawn → (pending : List ℕ) → Stepped
count_answer node (counted.Count value cell) pending = answer_for pending
count_answer node (counted.Over cell) pending = Overshot
count_answer node (counted.Straddles cell) pending = Straddles node cell
count_answer node counted.Ended pending = Ended
count_answer node counted.ReadFault pending = ReadFault

-- What an answer leaves a session stopped by.
abbrev pub stop_after : Stepped → Option Stepped
stop_after (Straddles node cell) = Some (Straddles node cell)
stop_after Ended = Some Ended
stop_after ReadFault = Some ReadFault
stop_after _ = None

-- The tokens that an answer of a draw at a union adds: its option, where there is one.
abbrev pub drawn_tokens : Drawn → List Token
drawn_tokens (drawn.Value value cell) = token.Pick value ∷ []
drawn_tokens _ = []

-- The cells that an answer of a draw adds.
abbrev pub drawn_cells : Drawn → List Cell
drawn_cells (drawn.Value value cell) = cell ∷ []
drawn_cells _ = []

-- The part that was drawn is put in the place of the first pending node; without one the same nodes
-- are pending.
abbrev pub PutsPart : (parts : List ℕ) → Drawn → (before now : List ℕ) → Type 0
PutsPart parts (drawn.Value value cell) before now = (e : ℕ) (rest : List ℕ) → before ≡ e ∷ rest
    → now ≡ slice_index parts value ∷ rest
PutsPart parts _ before now = now ≡ before

-- The tokens that an answer of a draw of a number of parts adds: the number, where there is one.
abbrev pub count_tokens : CountDrawn → List Token
count_tokens (counted.Count value cell) = token.Count value ∷ []
count_tokens _ = []

-- The cells that it adds: that of the number, or that of every number up to the room being passed
-- over.
abbrev pub count_cells : CountDrawn → List Cell
count_cells (counted.Count value cell) = cell ∷ []
count_cells (counted.Over cell) = cell ∷ []
count_cells _ = []

-- The part is put as often as was drawn in the place of the first pending node. Nothing is pending
-- where every number up to the room is passed over; without an answer the same nodes are pending.
abbrev pub PutsParts : (part : ℕ) → CountDrawn → (before now : List ℕ) → Type 0
PutsParts part (counted.Count value cell) before now = (e : ℕ) (rest : List ℕ) → before ≡ e ∷ rest
    → now ≡ replicate value part ++ rest
PutsParts part (counted.Over cell) before now = now ≡ []
PutsParts part _ before now = now ≡ before
