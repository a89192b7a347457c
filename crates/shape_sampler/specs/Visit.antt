-- One visit of an attempt: the first pending node is visited.
use Rattle.std.specs.Prelude.{ℕ, zero, suc, ◌+◌, Bool, List, [], ◌∷◌, ◌++◌, replicate, slice_index}
use Rattle.std.specs.Prelude.{Option, Some, None, if◌then◌else◌}
use Rattle.bz_model.specs.declared.cell.Cell.{Cell}
use Rattle.bz_model.specs.Spec.{Spec, Node, node_at}
use Rattle.object_store.specs.declared.token.Token.{Token}
use Rattle.object_store.specs.declared.token.Token.TheVariants as token
use Rattle.choice_draw.specs.Decision.{Choice}
use Rattle.choice_draw.specs.Draw.{Bit, Draw, draw}

-- How choices are made: what a cell decides at a node with a room, and which nodes have an object
-- of size 0.
pub record Chooser : Type 0 where
  pub spec : Spec
  pub decide : (node room : ℕ) → Cell → Option Choice
  pub is_free : (node : ℕ) → Bool

-- An attempt has nodes that are pending, the tokens and the cells so far, the room left, and how
-- many bits of the tape were used.
pub record Attempt : Type 0 where
  pub pending : List ℕ
  pub tokens : List Token
  pub cells : List Cell
  pub room : ℕ
  pub used : ℕ

-- A visit goes on, is over the room, or stops: at a cell of 60 bits that straddles, at the tape's
-- end, or at a failed read.
pub data Visited : Type 0 where
  Went : Attempt → Visited
  Over : Attempt → Visited
  Straddled : (node : ℕ) → Cell → Visited
  Ended : (place : ℕ) → Visited
  Failed : (place : ℕ) → Visited

-- The attempt with these nodes pending.
abbrev pub with_pending : Attempt → List ℕ → Attempt
with_pending a pending = record a { pending = pending }

-- The attempt with one more token.
abbrev pub attempt_with_token : Attempt → Token → Attempt
attempt_with_token a t = record a { tokens = a.tokens ++ t ∷ [] }

-- The attempt with one more number drawn: its cell, whose bits were used.
abbrev pub with_cell : Attempt → Cell → Attempt
with_cell a cell = record a { cells = a.cells ++ cell ∷ []; used = a.used + cell.b }

-- The attempt with nothing pending.
abbrev pub given_up : Attempt → Attempt
given_up a = with_pending a []

-- A neutral leaf adds its token.
abbrev pub leaf_visited : Attempt → (rest : List ℕ) → Visited
leaf_visited a rest = Visited.Went (with_pending (attempt_with_token a token.Unit) rest)

-- An atom adds its token and lowers the room by one, and is over where there is none.
abbrev pub atom_visited : Attempt → (rest : List ℕ) → (room : ℕ) → Visited
atom_visited a rest zero = Visited.Over (given_up a)
atom_visited a rest (suc room) =
    Visited.Went (record (with_pending (attempt_with_token a token.Dot) rest) { room = room })

-- What a draw's end means for an attempt, from what its answer means.
abbrev pub after_draw : (node : ℕ) → (Choice → Cell → Visited) → Draw Choice → Visited
after_draw node answered (Draw.Decided choice cell) = answered choice cell
after_draw node answered (Draw.Straddled cell) = Visited.Straddled node cell
after_draw node answered (Draw.Ended place) = Visited.Ended place
after_draw node answered (Draw.Failed place) = Visited.Failed place

-- At a union the drawn part is pending in its place, after the token of its option.
abbrev pub union_answered : Attempt → (parts rest : List ℕ) → Choice → Cell → Visited
union_answered a parts rest (Choice.Take i) cell =
    Visited.Went (with_pending (attempt_with_token (with_cell a cell)
    (token.Pick i)) (slice_index parts i ∷ rest))
union_answered a parts rest Choice.Over cell = Visited.Over (given_up (with_cell a cell))

-- At a counted node the part is pending as often as was drawn, after the token of its number of
-- parts.
abbrev pub counted_answered : Attempt → (part : ℕ) → (rest : List ℕ) → Choice → Cell → Visited
counted_answered a part rest (Choice.Take i) cell =
    Visited.Went (with_pending (attempt_with_token (with_cell a cell)
    (token.Count i)) (replicate i part ++ rest))
counted_answered a part rest Choice.Over cell = Visited.Over (given_up (with_cell a cell))

-- The room of a count: 64 parts at most where a part takes no room.
abbrev pub room_for : Chooser → (part room : ℕ) → ℕ
room_for c part room = if c.is_free part then 64 else room

abbrev pub union_visited : Chooser → (bit : ℕ → Bit) → Attempt → (e : ℕ) → (parts rest : List ℕ)
    → Visited
union_visited c bit a e parts rest = after_draw e (union_answered a parts rest)
    (draw (c.decide e a.room) bit a.used)

abbrev pub counted_visited : Chooser → (bit : ℕ → Bit) → Attempt → (e part : ℕ) → (rest : List ℕ)
    → Visited
counted_visited c bit a e part rest = after_draw e (counted_answered a part rest)
    (draw (c.decide e (room_for c part a.room)) bit a.used)

-- The node e is visited, and the rest stays pending after what it puts in its place.
abbrev pub node_visited : Chooser → (bit : ℕ → Bit) → Attempt → (e : ℕ) → (rest : List ℕ)
    → Option Node → Visited
node_visited c bit a e rest None = Visited.Went (with_pending a rest)
node_visited c bit a e rest (Some (Node.Empty word)) = leaf_visited a rest
node_visited c bit a e rest (Some (Node.Atom word)) = atom_visited a rest a.room
node_visited c bit a e rest (Some (Node.Class class)) =
    Visited.Went (with_pending a (slice_index c.spec.bodies class ∷ rest))
node_visited c bit a e rest (Some (Node.Union parts)) = union_visited c bit a e parts rest
node_visited c bit a e rest (Some (Node.Product parts)) =
    Visited.Went (with_pending a (parts ++ rest))
node_visited c bit a e rest (Some (Node.Seq part)) = counted_visited c bit a e part rest
node_visited c bit a e rest (Some (Node.Set part)) = counted_visited c bit a e part rest
node_visited c bit a e rest (Some (Node.Cyc part)) = counted_visited c bit a e part rest

-- The first of the pending nodes is visited; with none pending nothing is done.
abbrev pub visit_among : Chooser → (bit : ℕ → Bit) → Attempt → (pending : List ℕ) → Visited
visit_among c bit a [] = Visited.Went a
visit_among c bit a (e ∷ rest) = node_visited c bit a e rest (node_at c.spec e)

-- One visit. `bit` is what the tape answers at each place.
abbrev pub visit : Chooser → (bit : ℕ → Bit) → Attempt → Visited
visit c bit a = visit_among c bit a a.pending

-- An attempt starts with the body of class 0 pending and the whole room.
abbrev pub begun : Spec → (room used : ℕ) → Attempt
begun s room used = record {
  pending = slice_index s.bodies 0 ∷ [];
  tokens = [];
  cells = [];
  room =
      room;
  used = used;
}
