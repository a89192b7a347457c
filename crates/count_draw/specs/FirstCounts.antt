-- What is kept of the numbers of parts that first bits decide, and the bounds that they are decided
-- by.
use Rattle.std.specs.Prelude.{◌≡◌, ℕ, ◌-◌, ◌/◌, ◌^◌, ◌<◌, List, length, Option, None}
use Rattle.std.specs.Prelude.{slice_index_or, nat_le, if◌then◌else◌}
use Rattle.bz_model.specs.declared.cell.Cell.{Cell}
use Rattle.bz_model.specs.declared.cell.Bounds.{Bounds}
use Rattle.bz_model.specs.Spec.{Range}
use Rattle.series_bounds.specs.Series.{Kind}
use Rattle.choice_draw.specs.Decision.{Choice, level_of}
use Rattle.choice_draw.specs.KeptChoices.{TakesFirst, first_of}
use Rattle.count_draw.specs.declared.first_counts.FirstCount.{FirstCount}
use Rattle.count_draw.specs.declared.first_counts.NodeBounds.{NodeBounds}
use Rattle.count_draw.specs.Decision.{count_choice}

-- What numbers of parts are decided by at a node: the fraction bits, the construction and its
-- range, and the bounds at the levels 1 and 2.
pub record CountBounds : Type 0 where
  pub bits : ℕ
  pub kind : Kind
  pub range : Range
  pub first : NodeBounds
  pub second : NodeBounds

-- No bounds.
abbrev pub no_bounds : NodeBounds
no_bounds = record { part = record { lo = 0; hi = 0 }; whole = record { lo = 0; hi = 0 } }

abbrev pub none_kept : CountBounds
none_kept = record {
  bits = 0;
  kind = Kind.Seq;
  range = record { low = 0; high = None };
  first = no_bounds;
  second = no_bounds;
}

-- The bounds at one of the two levels.
abbrev pub bounds_at : CountBounds → (level : ℕ) → NodeBounds
bounds_at by level = if nat_le level 1 then by.first else by.second

-- What a cell decides at a construction with these bounds.
abbrev pub choice_at : Kind → (f : ℕ) → Range → NodeBounds → (room : ℕ) → Cell → Option Choice
choice_at kind f range bounds room cell =
    count_choice kind f range bounds.part bounds.whole room cell

-- What a cell of at most eleven bits decides by these bounds.
abbrev pub choice_by : CountBounds → (room : ℕ) → Cell → Option Choice
choice_by by room cell =
    choice_at by.kind by.bits by.range (bounds_at by (level_of cell)) room cell

-- What a cell decides at a construction of a part, from a table of bounds by level and node.
abbrev pub counted_choice : Kind → (f : ℕ) → Range → (table : (level node : ℕ) → Bounds)
    → (part e room : ℕ) → Cell → Option Choice
counted_choice kind f range table part e room cell =
    count_choice kind f range (table (level_of cell) part) (table (level_of cell) e) room cell

-- With some room a cell of at most eleven bits takes this number of parts, and the cell of fewer of
-- its bits decides nothing.
pub record TakesAtRoom (decide : (room : ℕ) → Cell → Option Choice) (count : ℕ) (cell : Cell)
    : Type 0 where
  pub room : ℕ
  pub takes : TakesFirst (decide room) count cell

-- These bounds are those that nodes have, of a part and of the node over it.
pub record AreBoundsOf (node : ℕ → Bounds) (p e : ℕ) (bounds : NodeBounds) : Type 0 where
  pub part : bounds.part ≡ node p
  pub whole : bounds.whole ≡ node e

-- Bounds are those of a construction and of a table, at the levels of cells of up to so many bits,
-- at most eleven.
pub record AreCountsFor (k : Kind) (f : ℕ) (r : Range) (table : (level node : ℕ) → Bounds)
    (p e b : ℕ) (by : CountBounds) : Type 0 where
  pub bits : by.bits ≡ f
  pub kind : by.kind ≡ k
  pub range : by.range ≡ r
  pub first : AreBoundsOf (table 1) p e by.first
  pub second : 10 < b → AreBoundsOf (table 2) p e by.second

-- What is kept for eleven bits, where the list has as many items.
abbrev pub kept_at : List FirstCount → (eleven : ℕ) → FirstCount
kept_at counts eleven = slice_index_or counts eleven (record { count = 0; bits = 0 })

-- The cell of the first b of sixteen bits, which are those of a word.
abbrev pub peeked_cell : (word b : ℕ) → Cell
peeked_cell word b = record { k = word / 2 ^ (16 - b); b = b }

-- What is kept for eleven bits, where it is of some of them, is the number of parts that the cell of
-- this many first bits takes with some room, and no cell of fewer of them decides.
pub record AreKept (by : CountBounds) (counts : List FirstCount) : Type 0 where
  pub many : length counts ≡ 2048
  pub at : (eleven : ℕ) → 0 < (kept_at counts eleven).bits → TakesAtRoom (choice_by by)
      (kept_at counts eleven).count (first_of eleven (kept_at counts eleven).bits)
