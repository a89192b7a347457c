-- A cell that decides no part of a union is the half of a cell that decides none, while both are looked at on the same level.
use Rattle.std.proofs.Common.{◌≡◌, ℕ, suc, ◌+◌, ◌<◌, ◌≤◌, length, map, List, arith, refl, sym, ◌∙◌, ap, subst, Bool, Some, None}
use Rattle.bz_model.specs.declared.cell.Cell.{Cell}
use Rattle.bz_model.specs.declared.cell.Bounds.{Bounds}
use Rattle.bz_model.specs.Fraction.{Fraction}
use Rattle.bz_model.specs.Spec.{Spec, Node, node_at}
use Rattle.bz_model.specs.Oracle.{IsSoundTable}
use Rattle.class_system.specs.Each.{Each}
use Rattle.class_system.specs.Views.{number}
use Rattle.class_system.specs.declared.ids.ExprId.{ExprId}
use Rattle.choice_draw.specs.Decision.{choice_of, level_of, level_for, union_options, union_parts, union_choice, union_decision, IsUnion}
use Rattle.choice_draw.specs.Draw.{halved}
use Rattle.choice_draw.specs.Further.{further_cell}
use Rattle.choice_draw.proofs.FurtherCells.{fronts-undecided}
use Rattle.choice_draw.proofs.Halves.{whole-undecided}
use Rattle.choice_draw.proofs.UnionOptions.{union-sound}
use Rattle.choice_draw.proofs.UnionParts.{numbers-in_range, within}

module _ (s : Spec) (x : Fraction) (F e : ℕ) (parts : List ExprId) (table : (level node : ℕ) → Bounds) (union : IsUnion s e) (same : map number parts ≡ union_parts (node_at s e)) (two : 2 ≤ length (map number parts)) (in_range : Each (λ p. p.0 < length s.nodes) parts) (sound : IsSoundTable s x F table) where
  half-undecided : (cell : Cell) (v : Bool) → 1 ≤ cell.b → cell.b ≤ 60 → level_for (suc cell.b) ≡ level_of cell → union_choice table e (map number parts) (halved cell v) ≡ None → union_choice table e (map number parts) cell ≡ None
  half-undecided cell v some few level none =
      let here : node_at s e ≡ Some (Node.Union (map number parts)) = union.here ∙ ap (λ ps. Some (Node.Union ps)) (sym (same ∙ ap union_parts union.here)) in
      let o = union_options (table (level_of cell)) e (map number parts) in
      whole-undecided s x F e o
      (union-sound s x F e (map number parts) here table sound (within s.nodes e (Node.Union (map number parts)) here) (numbers-in_range (length s.nodes) parts in_range) (omega arith) (level_of cell) (omega arith) (omega arith)) cell v
      (sym (ap (λ l. choice_of (union_options (table l) e (map number parts)) (halved cell v)) level) ∙ none) (choice_of o cell) refl

  -- Where all further bits decide no part by an equal table, the level being the cell's, no decision over fewer of them tells anything.
  pub decisions-undecided : (other : (level node : ℕ) → Bounds) → other ≡ table → (cell : Cell) (word : ℕ) → 1 ≤ cell.b → (m : ℕ) → m ≤ 16 → cell.b + m ≤ 60 → level_for (cell.b + m) ≡ level_of cell → union_choice other e (map number parts) (further_cell cell word m) ≡ None → (j : ℕ) → 1 ≤ j → j ≤ m → union_decision s table e (further_cell cell word j) ≡ None
  decisions-undecided other equal cell word some m few total level none j from within =
      ap (λ ps. union_choice table e ps (further_cell cell word j)) (sym same)
      ∙ fronts-undecided (union_choice table e (map number parts)) half-undecided cell word some m few total level
      (subst (λ (t : (level node : ℕ) → Bounds). union_choice t e (map number parts) (further_cell cell word m) ≡ None) equal none) j from within
