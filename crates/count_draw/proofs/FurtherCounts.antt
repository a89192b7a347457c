-- Where further bits of a cell decide no number of parts, fewer of them decide none.
use Rattle.std.proofs.Common.{◌≡◌, ℕ, ◌+◌, ◌<◌, ◌≤◌, length, ◌∙◌, subst, None}
use Rattle.bz_model.specs.declared.cell.Cell.{Cell}
use Rattle.bz_model.specs.declared.cell.Bounds.{Bounds}
use Rattle.bz_model.specs.Fraction.{Fraction}
use Rattle.bz_model.specs.Spec.{Spec, Range}
use Rattle.bz_model.specs.Oracle.{IsSoundTable}
use Rattle.series_bounds.specs.Series.{Kind}
use Rattle.choice_draw.specs.Decision.{level_for, level_of}
use Rattle.choice_draw.specs.Further.{further_cell}
use Rattle.choice_draw.proofs.FurtherCells.{fronts-undecided}
use Rattle.count_draw.specs.Decision.{count_decision}
use Rattle.count_draw.specs.FirstCounts.{counted_choice}
use Rattle.count_draw.proofs.CountedNodes.{IsCountedAs, decision-is}
use Rattle.count_draw.proofs.Halves.{half-undecided}

module _ (s : Spec) (x : Fraction) (F e part : ℕ) (kind : Kind) (r : Range) (table : (level node : ℕ) → Bounds) (at : IsCountedAs s e part kind r) (sound : IsSoundTable s x F table) (part_in : part < length s.nodes) (room : ℕ) (cell : Cell) (word : ℕ) (some_bits : 1 ≤ cell.b) where
  -- Where all further bits decide nothing by an equal table, the level being the cell's, no decision over fewer of them tells anything.
  pub decisions-undecided : (other : (level node : ℕ) → Bounds) → other ≡ table → (m : ℕ) → m ≤ 16 → cell.b + m ≤ 60 → level_for (cell.b + m) ≡ level_of cell → counted_choice kind F r other part e room (further_cell cell word m) ≡ None → (j : ℕ) → 1 ≤ j → j ≤ m → count_decision s F table e room (further_cell cell word j) ≡ None
  decisions-undecided other same m few total level none j some within =
      decision-is s F e part room kind r table (further_cell cell word j) at
      ∙ fronts-undecided (counted_choice kind F r table part e room) (half-undecided s x F e part kind r table at sound part_in room) cell word some_bits m few total level
      (subst (λ (t : (level node : ℕ) → Bounds). counted_choice kind F r t part e room (further_cell cell word m) ≡ None) same none) j some within
