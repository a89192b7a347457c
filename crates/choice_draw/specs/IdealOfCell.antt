-- What is ideal for every number of a cell.
use Rattle.std.specs.Prelude.{ℕ, ◌≤◌}
use Rattle.bz_model.specs.declared.cell.Cell.{Cell}
use Rattle.bz_model.specs.Fraction.{Fraction}
use Rattle.bz_model.specs.Spec.{Spec}
use Rattle.bz_model.specs.Cell.{IsInCell}
use Rattle.bz_model.specs.Ideal.{IsIdealOption}

-- Option i of node e is the ideal option of every number of the cell.
abbrev pub IsIdealOfCell : Spec → (x : Fraction) → (e : ℕ) → Cell → (i : ℕ) → Type 0
IsIdealOfCell s x e cell i = (u : Fraction) → IsInCell cell.k cell.b u → IsIdealOption s x u e i

-- No option of node e up to the room is the ideal option of any number of the cell.
abbrev pub IsOverOfCell : Spec → (x : Fraction) → (e : ℕ) → Cell → (room : ℕ) → Type 0
IsOverOfCell s x e cell room = (u : Fraction) → IsInCell cell.k cell.b u → (i : ℕ) → i ≤ room
    → ¬ (IsIdealOption s x u e i)
