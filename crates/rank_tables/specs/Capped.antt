-- Tables with a cap, as they are filled: a number is exact below the cap, and at the cap tells that
-- there are so many objects or more.
use Rattle.std.specs.Prelude.{◌≡◌, ℕ, ◌^◌, ◌≤◌, ◌⊎◌, List, length, Option, Some, None}
use Rattle.bz_model.specs.Spec.{Spec, Node, node_at}
use Rattle.bz_model.specs.Object.{Object, ClassHas}
use Rattle.bz_model.specs.Measures.{size}
use Rattle.bz_model.specs.Totals.{IsSample}
use Rattle.rank_tables.specs.RankOrder.{IsSized}
use Rattle.rank_tables.specs.TableRule.{rule, entries}

-- A number is at most another, or the other has reached the cap.
pub record IsUpTo (cap a b : ℕ) : Type 0 where
  pub within : (a ≤ b) ⊎ (cap ≤ b)

-- Two numbers are the same, or both have reached the cap.
pub record IsSameUpTo (cap a b : ℕ) : Type 0 where
  pub same : (a ≡ b) ⊎ ((cap ≤ a) × (cap ≤ b))

-- The table's numbers are at least those of the rule, or have reached the cap.
pub record IsCovering (s : Spec) (cap most : ℕ) (t : ℕ → ℕ → ℕ) : Type 0 where
  pub rows : (e n : ℕ) (node : Node) → n ≤ most → node_at s e ≡ Some node
      → IsUpTo cap (rule (entries s t) t e node n) (t e n)

-- The table's numbers are those of the rule up to the cap, from these numbers of the classes.
pub record AreRows (s : Spec) (cap most : ℕ) (entry t : ℕ → ℕ → ℕ) : Type 0 where
  pub rows : (e n : ℕ) (node : Node) → n ≤ most → node_at s e ≡ Some node
      → IsSameUpTo cap (rule entry t e node n) (t e n)

-- An object of a class, of this size.
abbrev pub IsOfClass : Spec → ℕ → ℕ → Object → Type 0
IsOfClass s c n o = ((h : ℕ) × ClassHas s h c o) × (size o ≡ n)

-- The numbers of the classes are reached: each by a list of distinct objects of the class and size.
pub record AreCounted (s : Spec) (cap most : ℕ) (entry : ℕ → ℕ → ℕ) : Type 0 where
  pub list : ℕ → ℕ → List Object
  pub sample : (c n : ℕ) → n ≤ most → IsSample (IsOfClass s c n) (list c n)
  pub number : (c n : ℕ) → n ≤ most → IsSameUpTo cap (length (list c n)) (entry c n)

-- The number of a node and a size is reached: by a list of distinct objects of the node and size.
pub record IsReachedAt (s : Spec) (cap e n k : ℕ) : Type 0 where
  pub list : List Object
  pub sample : IsSample (IsSized s e n) list
  pub number : IsSameUpTo cap (length list) k

-- What a number in code tells: itself, or, where it is missing, that the number is at least 2^128.
abbrev pub Tells : Option ℕ → ℕ → Type 0
Tells None x = 2 ^ 128 ≤ x
Tells (Some k) x = k ≡ x

-- A pass that changed nothing: its rows are those of the rule up to the cap, from numbers of the
-- classes that are reached and that the rows give again.
pub record IsSettled (s : Spec) (cap most : ℕ) (t : ℕ → ℕ → ℕ) : Type 0 where
  pub reached : AreCounted s cap most (entries s t)
  pub rows : AreRows s cap most (entries s t) t
