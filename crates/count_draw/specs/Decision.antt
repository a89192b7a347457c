-- What a cell decides among the numbers of parts of a sequence, set or cycle.
use Rattle.std.specs.Prelude.{ℕ, suc, ◌-◌, min, nat_lt, Option, Some, None, if◌then◌else◌}
use Rattle.bz_model.specs.declared.cell.Cell.{Cell}
use Rattle.bz_model.specs.declared.cell.Bounds.{Bounds}
use Rattle.bz_model.specs.Spec.{Spec, Node, Range, node_at, range_at}
use Rattle.series_bounds.specs.Series.{Kind, part_down, part_up}
use Rattle.choice_draw.specs.Decision.{Choice, Options, level_of, choice_of}
use Rattle.count_draw.specs.declared.kind.CountChoice.{CountChoice}
use Rattle.count_draw.specs.declared.kind.CountChoice.TheVariants.{Take, Over}

-- The greatest number of parts that may be taken: the lesser of the high and the room.
abbrev pub top_option : (high : Option ℕ) → (room : ℕ) → ℕ
top_option None room = room
top_option (Some high) room = min high room

-- The room, where a number of parts above it is in the range.
abbrev pub room_below : (high : Option ℕ) → (room : ℕ) → Option ℕ
room_below None room = Some room
room_below (Some high) room = if nat_lt room high then Some room else None

-- The options of a counted node are the numbers of parts of its range up to the room; the high
-- needs no comparison. The bounds of the objects up to an option are the values from the low to it
-- of the part's bounds, the upper one being at most the node's.
abbrev pub counted_options : Kind → (f : ℕ) → Range → (part whole : Bounds) → (room : ℕ) → Options
counted_options kind f range part whole room = record {
  whole = whole;
  first = range.low;
  count = suc (top_option range.high room) - range.low;
  last = range.high;
  upto_down = λ i. part_down kind f part.lo range.low i;
  upto_up = λ i. part_up kind f part.hi range.low i whole.hi;
  room = room_below range.high room;
}

-- What a cell decides at a counted node, from the bounds of its part and its own.
abbrev pub count_choice : Kind → (f : ℕ) → Range → (part whole : Bounds) → (room : ℕ) → Cell
    → Option Choice
count_choice kind f range part whole room cell =
    choice_of (counted_options kind f range part whole room) cell

-- What a cell decides at a node with a range; nothing at a node that isn't counted.
abbrev pub choice_ranged : (f : ℕ) → Range → (node : ℕ → Bounds) → (e room : ℕ) → Option Node → Cell
    → Option Choice
choice_ranged f range node e room (Some (Node.Seq part)) cell =
    count_choice Kind.Seq f range (node part) (node e) room cell
choice_ranged f range node e room (Some (Node.Set part)) cell =
    count_choice Kind.Set f range (node part) (node e) room cell
choice_ranged f range node e room (Some (Node.Cyc part)) cell =
    count_choice Kind.Cyc f range (node part) (node e) room cell
choice_ranged f range node e room _ cell = None

-- What a cell decides at a node whose range may be missing.
abbrev pub choice_if_ranged : (f : ℕ) → (node : ℕ → Bounds) → (e room : ℕ) → Option Node
    → Option Range
    → Cell → Option Choice
choice_if_ranged f node e room n None cell = None
choice_if_ranged f node e room n (Some range) cell = choice_ranged f range node e room n cell

-- What a cell decides at a counted node of a specification with this room, from a table of bounds
-- by level and node; None where it straddles.
abbrev pub count_decision : Spec → (f : ℕ) → (table : (level node : ℕ) → Bounds) → (e room : ℕ)
    → Cell → Option Choice
count_decision s f table e room cell =
    choice_if_ranged f (table (level_of cell)) e room (node_at s e) (range_at s e) cell

-- What the code's choice says.
abbrev pub choice_meant : CountChoice → Choice
choice_meant (Take value) = Choice.Take value
choice_meant Over = Choice.Over

-- What the code's choice says, where there is one.
abbrev pub chosen_if : Option CountChoice → Option Choice
chosen_if None = None
chosen_if (Some choice) = Some (choice_meant choice)

-- What is said of a number holds, where a number is chosen.
abbrev pub OnTake : Option CountChoice → (ℕ → Type 0) → Type 0
OnTake (Some (Take value)) P = P value
OnTake _ P = Unit {0}

-- A fact holds, where every number up to the room is passed over.
abbrev pub IfPassedOver : Option CountChoice → Type 0 → Type 0
IfPassedOver (Some Over) P = P
IfPassedOver _ P = Unit {0}
