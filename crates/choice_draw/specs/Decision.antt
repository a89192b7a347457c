-- What a cell decides among the options of a node, and which whole number it decides.
use Rattle.std.specs.Prelude.{◌≡◌, ℕ, zero, suc, ◌+◌, ◌-◌, ◌*◌, ◌/◌, ◌^◌, min, Bool, false, ◌||◌}
use Rattle.std.specs.Prelude.{nat_le, nat_eq, List, [], ◌∷◌, map, take, length, sum, Option, Some}
use Rattle.std.specs.Prelude.{None, if◌then◌else◌}
use Rattle.bz_model.specs.declared.cell.Cell.{Cell}
use Rattle.bz_model.specs.declared.cell.Bounds.{Bounds}
use Rattle.bz_model.specs.Spec.{Spec, Node, node_at}

-- What is decided is an option, or that every option is above the room.
pub data Choice : Type 0 where
  Take : (option : ℕ) → Choice
  Over : Choice

-- A cell is looked at on a level of its own, one for each ten bits begun; no bit needs no level.
abbrev pub level_for : (bits : ℕ) → ℕ
level_for bits = (bits + 9) / 10

abbrev pub level_of : Cell → ℕ
level_of cell = level_for cell.b

-- A decision looks at the node's bounds, the options from `first` on that may be taken, the option
-- that is the node's last where it is among these, the bounds of the objects up to an option, and
-- the room where options above it exist.
pub record Options : Type 0 where
  pub whole : Bounds
  pub first : ℕ
  pub count : ℕ
  pub last : Option ℕ
  pub upto_down : ℕ → ℕ
  pub upto_up : ℕ → ℕ
  pub room : Option ℕ

-- The option is the node's last.
abbrev pub is_last : Option ℕ → ℕ → Bool
is_last None i = false
is_last (Some last) i = nat_eq i last

-- Every number of the cell lies before the end of option i: (k + 1) * hi ≤ 2^b * lo, lo being the
-- lower bound of the objects up to i and hi the node's upper bound.
abbrev pub ends_before : Options → Cell → (i : ℕ) → Bool
ends_before o cell i = nat_le (suc cell.k * o.whole.hi) (2 ^ cell.b * o.upto_down i)

-- No number of the cell lies before the end of option i: 2^b * hi ≤ k * lo, hi being the upper
-- bound of the objects up to i and lo the node's lower bound.
abbrev pub begins_after : Options → Cell → (i : ℕ) → Bool
begins_after o cell i = nat_le (2 ^ cell.b * o.upto_up i) (cell.k * o.whole.lo)

-- The least of n options from i on that passes the test.
abbrev pub least_passing : (passes : ℕ → Bool) → (n i : ℕ) → Option ℕ
least_passing passes zero i = None
least_passing passes (suc n) i =
    let later = least_passing passes n (suc i) in
    if passes i then Some i else later

-- The least option that is the last or whose end lies after every number of the cell.
abbrev pub least_option : Options → Cell → Option ℕ
least_option o cell = least_passing (λ i. is_last o.last i || ends_before o cell i) o.count o.first

-- The option is the first, or the one before it ends at or before every number of the cell.
abbrev pub is_reached : Options → Cell → (i : ℕ) → Bool
is_reached o cell i = nat_eq i o.first || begins_after o cell (i - 1)

-- Over is decided where options above the room exist and no number of the cell lies before the end
-- of the room.
abbrev pub over_from : Options → Cell → (room : Option ℕ) → Option Choice
over_from o cell None = None
over_from o cell (Some room) = if begins_after o cell room then Some Choice.Over else None

abbrev pub over_of : Options → Cell → Option Choice
over_of o cell = over_from o cell o.room

-- The least option is decided where it is reached; else Over may be.
abbrev pub choice_from : Options → Cell → (least : Option ℕ) → Option Choice
choice_from o cell None = over_of o cell
choice_from o cell (Some i) = if is_reached o cell i then Some (Choice.Take i) else over_of o cell

-- What a cell decides; None where it straddles.
abbrev pub choice_of : Options → Cell → Option Choice
choice_of o cell = choice_from o cell (least_option o cell)

-- The sum of lower bounds, added from left to right, which stops at the greatest number of 64 bits.
abbrev pub capped_lower_sum : (v : ℕ) → List ℕ → ℕ
capped_lower_sum v [] = v
capped_lower_sum v (w ∷ ws) = capped_lower_sum (min (v + w) (2 ^ 64 - 1)) ws

-- The options of a union are all its parts, of which the last needs no comparison; the upper bound
-- of the objects up to an option is at most the node's.
abbrev pub union_options : (node : ℕ → Bounds) → (e : ℕ) → (parts : List ℕ) → Options
union_options node e parts = record {
  whole = node e;
  first = 0;
  count = length parts;
  last = Some (length parts - 1);
  upto_down = λ i. capped_lower_sum 0 (map (λ p. (node p).lo) (take (suc i) parts));
  upto_up = λ i. min (node e).hi (sum (map (λ p. (node p).hi) (take (suc i) parts)));
  room = None;
}

-- What a cell decides at a union, from a table of bounds by level and node.
abbrev pub union_choice : (table : (level node : ℕ) → Bounds) → (e : ℕ) → (parts : List ℕ) → Cell
    → Option Choice
union_choice table e parts cell = choice_of (union_options (table (level_of cell)) e parts) cell

-- A node of a specification is a union.
pub record IsUnion (s : Spec) (e : ℕ) : Type 0 where
  pub parts : List ℕ
  pub here : node_at s e ≡ Some (Node.Union parts)

-- The parts of a union; a node of another kind has none here.
abbrev pub union_parts : Option Node → List ℕ
union_parts (Some (Node.Union parts)) = parts
union_parts _ = []

-- What a cell decides at a union of a specification, from a table of bounds by level and node.
abbrev pub union_decision : Spec → (table : (level node : ℕ) → Bounds) → (e : ℕ) → Cell
    → Option Choice
union_decision s table e cell = union_choice table e (union_parts (node_at s e)) cell

-- The choice of an option, where there is one.
abbrev pub taken : Option ℕ → Option Choice
taken None = None
taken (Some option) = Some (Choice.Take option)

-- The whole number i is the floor of u * m for every number u of the cell where the cell ends at or
-- before (i + 1) / m, i being the floor at the cell's begin.
abbrev pub whole_from : (m i : ℕ) → Cell → Option ℕ
whole_from m i cell = if nat_le (suc cell.k * m) (suc i * 2 ^ cell.b) then Some i else None

-- The whole number below m that every number of the cell gives; None where the cell straddles two.
abbrev pub whole_decision : (m : ℕ) → Cell → Option ℕ
whole_decision m cell = whole_from m (cell.k * m / 2 ^ cell.b) cell
