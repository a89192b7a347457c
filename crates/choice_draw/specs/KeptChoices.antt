-- What is kept of the choices at a union: which option the first bits take, by the bounds that they
-- were taken by.
use Rattle.std.specs.Prelude.{◌≡◌, ℕ, suc, ◌-◌, ◌/◌, ◌^◌, ◌<◌, ◌≤◌, min, List, length, map, take}
use Rattle.std.specs.Prelude.{sum, Option, Some, None, slice_index_or, nat_le, if◌then◌else◌}
use Rattle.bz_model.specs.declared.cell.Cell.{Cell}
use Rattle.bz_model.specs.declared.cell.Bounds.{Bounds}
use Rattle.bz_model.specs.Cell.{IsCell}
use Rattle.choice_draw.specs.declared.kept.FirstChoice.{FirstChoice}
use Rattle.choice_draw.specs.Decision.{Options, Choice, capped_lower_sum, choice_of, level_of}
use Rattle.choice_draw.specs.LeastCell.{front_of}

-- The bounds of a union and of its parts, at one level.
pub record UnionBounds : Type 0 where
  pub whole : Bounds
  pub parts : List Bounds

-- The bounds of a union and of its parts at the levels 1 and 2.
pub record KeptBounds : Type 0 where
  pub first : UnionBounds
  pub second : UnionBounds

-- The bounds at one of the two levels.
abbrev pub bounds_at : KeptBounds → (level : ℕ) → UnionBounds
bounds_at kept level = if nat_le level 1 then kept.first else kept.second

-- The options of a union with these bounds.
abbrev pub options_by : (whole : Bounds) → (parts : List Bounds) → Options
options_by whole parts = record {
  whole = whole;
  first = 0;
  count = length parts;
  last = Some (length parts - 1);
  upto_down = λ i. capped_lower_sum 0 (map (λ p. p.lo) (take (suc i) parts));
  upto_up = λ i. min whole.hi (sum (map (λ p. p.hi) (take (suc i) parts)));
  room = None;
}

-- What a cell decides at a union with these bounds.
abbrev pub choice_at : UnionBounds → Cell → Option Choice
choice_at union cell = choice_of (options_by union.whole union.parts) cell

-- What a cell of at most eleven bits decides at a union with these bounds.
abbrev pub choice_by : KeptBounds → Cell → Option Choice
choice_by kept cell = choice_at (bounds_at kept (level_of cell)) cell

-- A cell of at most eleven bits takes an option, and the cell of fewer of its bits decides nothing.
pub record TakesFirst (decide : Cell → Option Choice) (option : ℕ) (cell : Cell) : Type 0 where
  pub is_cell : IsCell cell.k cell.b
  pub few : cell.b ≤ 11
  pub takes : decide cell ≡ Some (Choice.Take option)
  pub none_before : (b : ℕ) → 1 ≤ b → b < cell.b → decide (front_of cell b) ≡ None

-- The cell of the first b of eleven bits, which are those of a number.
abbrev pub first_of : (eleven b : ℕ) → Cell
first_of eleven b = record { k = eleven / 2 ^ (11 - b); b = b }

-- These bounds are those that nodes have, of a node and of parts.
pub record AreBoundsOf (node : ℕ → Bounds) (e : ℕ) (ps : List ℕ) (union : UnionBounds)
    : Type 0 where
  pub whole : union.whole ≡ node e
  pub parts : union.parts ≡ map node ps

-- These bounds are those of a table at the levels of cells of up to so many bits, at most eleven.
pub record AreFor (table : (level node : ℕ) → Bounds) (e : ℕ) (ps : List ℕ) (bits : ℕ)
    (kept : KeptBounds) : Type 0 where
  pub first : AreBoundsOf (table 1) e ps kept.first
  pub second : 10 < bits → AreBoundsOf (table 2) e ps kept.second

-- What is kept for eleven bits, where the list has as many items.
abbrev pub kept_at : List FirstChoice → (eleven : ℕ) → FirstChoice
kept_at choices eleven = slice_index_or choices eleven (record { option = 0; bits = 0 })

-- What is kept for eleven bits, where it is of some of them, is the option that the cell of this
-- many first bits takes, and no cell of fewer of them decides.
pub record AreKept (kept : KeptBounds) (choices : List FirstChoice) : Type 0 where
  pub many : length choices ≡ 2048
  pub at : (eleven : ℕ) → 0 < (kept_at choices eleven).bits → TakesFirst (choice_by kept)
      (kept_at choices eleven).option (first_of eleven (kept_at choices eleven).bits)
