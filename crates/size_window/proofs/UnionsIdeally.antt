-- What a sound table decides at unions is ideal.
use Rattle.std.proofs.Common.{◌≡◌, ℕ, ◌<◌, ◌≤◌, List, length, Some, arith}
use Rattle.bz_model.specs.declared.cell.Cell.{Cell}
use Rattle.bz_model.specs.declared.cell.Bounds.{Bounds}
use Rattle.bz_model.specs.Fraction.{Fraction}
use Rattle.bz_model.specs.Spec.{Spec, Node, node_at}
use Rattle.bz_model.specs.Cell.{IsCell, IsInCell}
use Rattle.bz_model.specs.Ideal.{IsIdealOption}
use Rattle.bz_model.specs.Oracle as oracle
use Rattle.class_system.specs.Sound.{IsSound}
use Rattle.class_system.proofs.Soundness.{part_in_range, union_parts}
use Rattle.choice_draw.specs.Decision.{Choice, level_of, union_options, union_choice}
use Rattle.choice_draw.proofs.Choices.{choice-taken, choice-over}
use Rattle.choice_draw.proofs.SoundOptions.{taken-ideal}
use Rattle.choice_draw.proofs.UnionOptions.{union-sound}
use Rattle.choice_draw.proofs.UnionParts.{within}

module _ (s : Spec) (x : Fraction) (F : ℕ) (table : (level node : ℕ) → Bounds) (sound : IsSound s) (bounded : oracle.IsSoundTable s x F table) where
  -- an option that is decided is the ideal one
  pub union-takes : (e i : ℕ) (cell : Cell) (parts : List ℕ) → node_at s e ≡ Some (Node.Union parts) → IsCell cell.k cell.b → union_choice table e parts cell ≡ Some (Choice.Take i) → (u : Fraction) → IsInCell cell.k cell.b u → IsIdealOption s x u e i
  union-takes e i cell parts here is_cell decided u inside =
      let two = union_parts s sound e parts here in
      let from_one : 1 ≤ level_of cell = let some = is_cell.some_bits in omega arith in
      let to_six : level_of cell ≤ 6 = let few = is_cell.few_bits in omega arith in
      taken-ideal s x u F e (union_options (table (level_of cell)) e parts)
      (union-sound s x F e parts here table bounded (within s.nodes e (Node.Union parts) here) (λ j p at. part_in_range s sound e p (Node.Union parts) here (record { place = j; is_there = at })) (omega arith) (level_of cell) from_one to_six) cell inside i decided

  -- over is decided nowhere
  pub never_over : (e : ℕ) (cell : Cell) (parts : List ℕ) → union_choice table e parts cell ≡ Some Choice.Over → ⊥
  never_over e cell parts decided = let o = choice-over (union_options (table (level_of cell)) e parts) cell decided in let h = o.here in cc

  -- an option is one of the parts
  pub part-below : (e i : ℕ) (cell : Cell) (parts : List ℕ) → union_choice table e parts cell ≡ Some (Choice.Take i) → i < length parts
  part-below e i cell parts decided = let t = choice-taken (union_options (table (level_of cell)) e parts) cell i decided in let h = t.least.below in omega arith
