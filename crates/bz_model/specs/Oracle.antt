-- What an oracle of class values tells: a table of bounds for each node and the levels 1 to 6.
use Rattle.std.specs.Prelude.{◌≡◌, ℕ, ◌+◌, ◌-◌, ◌<◌, ◌≤◌, List, length, slice_index}
use Rattle.bz_model.specs.declared.cell.Bounds.{Bounds}
use Rattle.bz_model.specs.Fraction.{Fraction, units}
use Rattle.bz_model.specs.Spec.{Spec}
use Rattle.bz_model.specs.Object.{Object, Belongs}
use Rattle.bz_model.specs.Totals.{Above, Below}
use Rattle.bz_model.specs.WellFounded.{IsWellFounded}

-- A pair of bounds encloses the value of a node: some list of distinct objects of the node totals
-- at least the lower one, and every such list totals at most the upper one.
pub record Encloses (s : Spec) (x : Fraction) (F e : ℕ) (b : Bounds) : Type 0 where
  pub reached : Below x (units F b.lo) (Belongs s e)
  pub above : Above x (units F b.hi) (Belongs s e)

-- A table is sound where the specification is well founded, each of its nodes has an object, x is
-- positive, and the bounds of each node at the levels 1 to 6 enclose the node's value.
pub record IsSoundTable (s : Spec) (x : Fraction) (F : ℕ) (table : (level node : ℕ)
    → Bounds) : Type 0 where
  pub founded : IsWellFounded s
  pub inhabited : (e : ℕ) → e < length s.nodes → (o : Object) × Belongs s e o
  pub positive : 0 < x.num
  pub enclosed : (level e : ℕ) → 1 ≤ level → level ≤ 6 → e < length s.nodes
      → Encloses s x F e (table level e)

-- A list of costs begins with 0, has a number for each level up to 6, and never falls.
pub record AreCosts (costs : List ℕ) : Type 0 where
  pub count : length costs ≡ 7
  pub first : slice_index costs 0 ≡ 0
  pub rising : (i j : ℕ) → i ≤ j → j ≤ 6 → slice_index costs i ≤ slice_index costs j

-- What raising from one level to another ticks at most: the difference of the costs of the two.
abbrev pub cost_between : (costs : List ℕ) → (from to : ℕ) → ℕ
cost_between costs from to = slice_index costs to - slice_index costs from

-- What calls that may raise an oracle leave, its meanings being given: specification, x, table and
-- costs stay, no level is lost, and the ticks are at most what raising from the old highest level
-- to the new one costs.
pub record LeavesOracle {O : Type 0} (spec_of : O → Spec) (x_of : O → Fraction) (table_of : O
    → (level node : ℕ) → Bounds) (cost_of : O → List ℕ) (raised_of : O
    → ℕ) (old new : O) (before now : ℕ) : Type 0 where
  pub spec : spec_of new ≡ spec_of old
  pub x : x_of new ≡ x_of old
  pub table : table_of new ≡ table_of old
  pub cost : cost_of new ≡ cost_of old
  pub rises : raised_of old ≤ raised_of new
  pub ticks : now ≤ before + cost_between (cost_of old) (raised_of old) (raised_of new)
