-- A counting table in the making: what one pass sets, and what stands between passes.
use Rattle.std.specs.Prelude.{◌≡◌, ◌≢◌, ℕ, ◌^◌, ◌<◌, ◌≤◌, List, length, Option, Some, slice_get}
use Rattle.std.specs.Prelude.{unwrap_or}
use Rattle.bz_model.specs.Spec.{Spec, Node, node_at}
use Rattle.rank_tables.specs.Capped.{Tells, IsSettled}
use Rattle.rank_tables.specs.Grids.{Cells, cell, number_of, number_at, AreSuffixes}
use Rattle.rank_tables.specs.TableRule.{rule}
use Rattle.rank_tables.specs.Visits.{product_parts}

-- A grid has a row for each node of the specification, and this size is one of its at most 501.
pub record IsGridOf (s : Spec) (n : ℕ) (g : Cells) : Type 0 where
  pub each_node : g.nodes ≡ length s.nodes
  pub inside : n < g.sizes
  pub few : g.sizes ≤ 501

-- The number of a class, from those of all classes at one size; 0 past the last class.
abbrev pub count_of_class : List (Option ℕ) → ℕ → ℕ
count_of_class classes c = number_of (unwrap_or (slice_get classes c) (Some 0))

-- At this size, each part of a product has the number of the lists of one object of it and of each
-- part behind it.
abbrev pub HasTails : Spec → (rows tails : Cells) → ℕ → Type 0
HasTails s rows tails n = (e : ℕ)
    → AreSuffixes (number_at rows) tails (product_parts (node_at s e)) n

-- One pass at a size: each node's number tells what the rule gives from the classes' numbers and
-- the other nodes' ones.
pub record IsPass (s : Spec) (classes : List (Option ℕ)) (rows tails : Cells) (n : ℕ) : Type 0 where
  pub each_number : (e : ℕ) (node : Node) → node_at s e ≡ Some node
      → Tells (cell rows e n) (rule (λ c m. count_of_class classes c) (number_at rows) e node n)
  pub each_tail : HasTails s rows tails n

-- Nothing but numbers of this size was changed.
pub record ChangesSize (n : ℕ) (old new : Cells) : Type 0 where
  pub nodes : new.nodes ≡ old.nodes
  pub sizes : new.sizes ≡ old.sizes
  pub others : (e m : ℕ) → m < old.sizes → m ≢ n → cell new e m ≡ cell old e m

-- The numbers of lesser sizes are settled and below 2^128, with the numbers of the tails.
pub record IsFilledBelow (s : Spec) (rows tails : Cells) (n : ℕ) : Type 0 where
  pub settled : (m : ℕ) → m < n → IsSettled s (2 ^ 128) m (number_at rows)
  pub small : (e m : ℕ) → e < length s.nodes → m < n → number_at rows e m < 2 ^ 128
  pub each_tail : (m : ℕ) → m < n → HasTails s rows tails m
