-- Sets of classes as bits, rows of them, and where rows lead.
use Rattle.std.specs.Prelude.{◌≡◌, ◌≢◌, ℕ, Bool, List, Some, slice_get}
use Rattle.std.specs.Int.{bit_at}
use Rattle.well_founded.specs.Marking.{IsMarked}
use Rattle.well_founded.specs.declared.class_set.ClassSet.{ClassSet}

-- The class is in the set.
abbrev pub IsIn : ClassSet → ℕ → Type 0
IsIn set class = bit_at set.0 class ≡ 1

-- The row of number c is there, and has d.
pub record Points (rows : List ClassSet) (c d : ℕ) : Type 0 where
  pub row : ClassSet
  pub is_row : slice_get rows c ≡ Some row
  pub has : IsIn row d

-- The row of one of these numbers has d.
abbrev pub SomePoints : List ClassSet → List ℕ → ℕ → Type 0
SomePoints rows parts d = (i : ℕ) × (part : ℕ) × (slice_get parts i ≡ Some part)
    × Points rows part d

-- The row of one of these numbers has d, and all the others are marked.
abbrev pub OnePoints : List Bool → List ClassSet → List ℕ → ℕ → Type 0
OnePoints marks rows parts d = (i : ℕ) × (part : ℕ) × (slice_get parts i ≡ Some part)
    × ((j q : ℕ) → slice_get parts j ≡ Some q → j ≢ i → IsMarked marks q) × Points rows part d

-- One row or more, each that of a class that the row before has, lead from c to d.
pub data Chain (rows : List ClassSet) (c : ℕ) : ℕ → Type 0 where
  one : {d : ℕ} → Points rows c d → Chain rows c d
  further : {d e : ℕ} → Chain rows c d → Points rows d e → Chain rows c e

-- The row of the body of class c has d.
pub record BodyPoints (rows : List ClassSet) (bodies : List ℕ) (c d : ℕ) : Type 0 where
  pub body : ℕ
  pub is_body : slice_get bodies c ≡ Some body
  pub points : Points rows body d

-- The row of class c has c itself.
abbrev pub PointsRound : List ClassSet → ℕ → Type 0
PointsRound rows c = Points rows c c
