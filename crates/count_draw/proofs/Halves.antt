-- A cell that decides no number of parts is the half of a cell that decides none, while both are looked at on the same level.
use Rattle.std.proofs.Common.{◌≡◌, ℕ, suc, ◌<◌, ◌≤◌, length, arith, refl, sym, ◌∙◌, ap, Bool, Option, Some, None}
use Rattle.bz_model.specs.declared.cell.Cell.{Cell}
use Rattle.bz_model.specs.declared.cell.Bounds.{Bounds}
use Rattle.bz_model.specs.Fraction.{Fraction}
use Rattle.bz_model.specs.Spec.{Spec, Range}
use Rattle.bz_model.specs.Oracle.{IsSoundTable}
use Rattle.series_bounds.specs.Series.{Kind}
use Rattle.choice_draw.specs.Decision.{choice_of, level_of, level_for}
use Rattle.choice_draw.specs.Draw.{halved}
use Rattle.choice_draw.proofs.Halves.{whole-undecided}
use Rattle.count_draw.specs.Decision.{counted_options}
use Rattle.count_draw.specs.FirstCounts.{counted_choice}
use Rattle.count_draw.proofs.CountedNodes.{IsCountedAs}
use Rattle.count_draw.proofs.CountsSound.{counts-sound}

-- The choice at a counted node by a sound table decides nothing at a cell where it decides nothing
-- at its half, which is looked at on the same level.
pub half-undecided : (s : Spec) (x : Fraction) (F e part : ℕ) (kind : Kind) (r : Range) (table : (level node : ℕ) → Bounds) → IsCountedAs s e part kind r → IsSoundTable s x F table → part < length s.nodes → (room : ℕ) (cell : Cell) (v : Bool) → 1 ≤ cell.b → cell.b ≤ 60 → level_for (suc cell.b) ≡ level_of cell → counted_choice kind F r table part e room (halved cell v) ≡ None → counted_choice kind F r table part e room cell ≡ None
half-undecided s x F e part kind r table at sound part_in room cell v some few same none =
    let level = level_of cell in
    let o = counted_options kind F r (table level part) (table level e) room in
    whole-undecided s x F e o (counts-sound s x F e part kind r table at sound part_in level (omega arith) (omega arith) room) cell v
    (sym (ap (λ l. choice_of (counted_options kind F r (table l part) (table l e) room) (halved cell v)) same) ∙ none) (choice_of o cell) refl
