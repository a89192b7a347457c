-- The partial values of one choice among numbers of parts, and which options they pass.
use Rattle.std.specs.Prelude.{◌≡◌, ℕ, suc, ◌-◌, ◌*◌, ◌/◌, ◌^◌, ◌<◌, ◌≤◌, Bool, true, false, nat_le}
use Rattle.std.specs.Prelude.{Option}
use Rattle.std.specs.List.{list_all}
use Rattle.bz_model.specs.declared.cell.Cell.{Cell}
use Rattle.bz_model.specs.declared.cell.Bounds.{Bounds}
use Rattle.series_bounds.specs.Series.{Kind, carried, terms, part_down, part_up}
use Rattle.fixed_enclosure.specs.Rounded.{fits, Side, quotient_up}
use Rattle.fixed_enclosure.specs.Rounded.Side.{Down, Up}
use Rattle.series_bounds.specs.ExactSums.{first_term}
use Rattle.choice_draw.specs.Decision.{Options, least_passing}
use Rattle.count_draw.specs.Decision.{counted_options}

-- What a table is filled for: a construction, the least number of parts, the bounds of the part and
-- of the whole node, and the greatest number of parts that is asked.
pub record Filling : Type 0 where
  pub kind : Kind
  pub low : ℕ
  pub part : Bounds
  pub whole : Bounds
  pub room : ℕ

-- The limits of a filling.
pub record IsFilling (t : Filling) : Type 0 where
  pub first : first_term t.kind ≤ t.low
  pub few : t.low ≤ 64
  pub small : t.room ≤ 1000000

-- The lower value from the low to i parts.
abbrev pub lower_at : (f : ℕ) → Filling → (i : ℕ) → ℕ
lower_at f t i = part_down t.kind f t.part.lo t.low i

-- The upper value from the low to i parts, at most the whole's.
abbrev pub upper_at : (f : ℕ) → Filling → (i : ℕ) → ℕ
upper_at f t i = part_up t.kind f t.part.hi t.low i t.whole.hi

-- Every number of the cell lies before the end of option i: (k + 1) * hi ≤ 2^b * lo, lo being the
-- lower value up to i and hi the whole's upper bound.
abbrev pub passes_at : (f : ℕ) → Filling → Cell → (i : ℕ) → Bool
passes_at f t cell i = nat_le (suc cell.k * t.whole.hi) (2 ^ cell.b * lower_at f t i)

-- The least option up to the room whose end lies after every number of the cell.
abbrev pub least_at : (f : ℕ) → Filling → Cell → Option ℕ
least_at f t cell = least_passing (passes_at f t cell) (suc t.room - t.low) t.low

-- No number of the cell lies before the end of option i: 2^b * hi ≤ k * lo, hi being the upper
-- value up to i and lo the whole's lower bound.
abbrev pub passed_at : (f : ℕ) → Filling → Cell → (i : ℕ) → Bool
passed_at f t cell i = nat_le (2 ^ cell.b * upper_at f t i) (cell.k * t.whole.lo)

-- The options of a table with a high and a room.
abbrev pub options_of : (f : ℕ) → Filling → (high : Option ℕ) → (room : ℕ) → Options
options_of f t high room =
    counted_options t.kind f (record { low = t.low; high = high }) t.part t.whole room

-- The value at a cell's end, rounded up: the least lower value of an option that ends at or after
-- every number of the cell.
abbrev pub end_value : Cell → (hi : ℕ) → ℕ
end_value cell hi = quotient_up (suc cell.k * hi) (2 ^ cell.b)

-- The value at a cell's begin, rounded down: the greatest upper value of an option that ends at or
-- before every number of the cell.
abbrev pub begin_value : Cell → (lo : ℕ) → ℕ
begin_value cell lo = cell.k * lo / 2 ^ cell.b

-- The lower value of option i is at least v.
abbrev pub reaches_at : (f : ℕ) → Filling → (v i : ℕ) → Bool
reaches_at f t v i = nat_le v (lower_at f t i)

-- The least option up to the room whose lower value is at least v.
abbrev pub least_reaching : (f : ℕ) → Filling → (v : ℕ) → Option ℕ
least_reaching f t v = least_passing (reaches_at f t v) (suc t.room - t.low) t.low

-- The least option that reaches v lies between two options: those before the one don't, and the
-- other does.
pub record IsBracket (f : ℕ) (t : Filling) (v from to : ℕ) : Type 0 where
  pub low : t.low ≤ from
  pub order : from ≤ to
  pub room : to ≤ t.room
  pub before : (j : ℕ) → t.low ≤ j → j < from → reaches_at f t v j ≡ false
  pub reaching : reaches_at f t v to ≡ true

-- No option before the place reaches v.
pub record NoneReaches (f : ℕ) (t : Filling) (v place : ℕ) : Type 0 where
  pub before : (j : ℕ) → t.low ≤ j → j < place → reaches_at f t v j ≡ false

-- The part's bound of a side.
abbrev pub bound_of : Side → Filling → ℕ
bound_of Down t = t.part.lo
bound_of Up t = t.part.hi

-- The value of a side from the low to i parts.
abbrev pub side_value_at : Side → (f : ℕ) → Filling → (i : ℕ) → ℕ
side_value_at Down f t i = lower_at f t i
side_value_at Up f t i = upper_at f t i

-- A run of the terms of a side stands at a place: the power is the number carried to it, at most
-- 2^63, each term up to it has 64 bits, and the sum is the value up to it.
pub record IsRun (side : Side) (f : ℕ) (t : Filling) (place power sum : ℕ) : Type 0 where
  pub carried_to : power ≡ carried side t.kind f (bound_of side t) place
  pub small : power ≤ 2 ^ 63
  pub fitting : list_all fits (terms side t.kind f (bound_of side t) (suc place)) ≡ true
  pub summed : sum ≡ side_value_at side f t place
