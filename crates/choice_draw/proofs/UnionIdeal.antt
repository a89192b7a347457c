-- What a cell decides at a union is the ideal option of each number of the cell.
use Rattle.std.proofs.Common.{◌≡◌, ℕ, ◌<◌, ◌≤◌, length, map, List, arith, sym, ◌∙◌, ap, Option, Some, None}
use Rattle.std.specs.Prelude.{IfSome}
use Rattle.bz_model.specs.declared.cell.Cell.{Cell}
use Rattle.bz_model.specs.declared.cell.Bounds.{Bounds}
use Rattle.bz_model.specs.Fraction.{Fraction}
use Rattle.bz_model.specs.Spec.{Spec, Node, node_at}
use Rattle.bz_model.specs.Cell.{IsCell, IsInCell}
use Rattle.bz_model.specs.Ideal.{IsIdealOption}
use Rattle.bz_model.specs.Oracle.{IsSoundTable}
use Rattle.class_system.specs.Each.{Each}
use Rattle.class_system.specs.Views.{number}
use Rattle.class_system.specs.declared.ids.ExprId.{ExprId}
use Rattle.choice_draw.specs.Decision.{Choice, level_of, union_options, union_parts, union_choice, union_decision, IsUnion, taken}
use Rattle.choice_draw.proofs.SoundOptions.{taken-ideal}
use Rattle.choice_draw.proofs.UnionOptions.{union-sound}
use Rattle.choice_draw.proofs.UnionParts.{numbers-in_range, within}

-- the choice by a table and a list of parts is that at the union, where these are its own
pub decision-by : (s : Spec) (table other : (level node : ℕ) → Bounds) (e : ℕ) (parts : List ℕ) (cell : Cell) (choice : Option Choice) → other ≡ table → parts ≡ union_parts (node_at s e) → choice ≡ union_choice other e parts cell → union_decision s table e cell ≡ choice
decision-by s table other e parts cell choice same_table same_parts decided = sym (decided ∙ ap (λ t. union_choice t e parts cell) same_table ∙ ap (λ ps. union_choice table e ps cell) same_parts)

-- an option taken at a union, over a sound table
pub union-ideal : (s : Spec) (x : Fraction) (F e : ℕ) (parts : List ExprId) (table : (level node : ℕ) → Bounds) (cell : Cell) → IsUnion s e → map number parts ≡ union_parts (node_at s e) → 2 ≤ length (map number parts) → Each (λ p. p.0 < length s.nodes) parts → IsSoundTable s x F table → IsCell cell.k cell.b → (r : Option ℕ) → taken r ≡ union_choice table e (map number parts) cell → IfSome r (λ i. (u : Fraction) → IsInCell cell.k cell.b u → IsIdealOption s x u e i)
union-ideal s x F e parts table cell union same two in_range sound is_cell None decided = tt
union-ideal s x F e parts table cell union same two in_range sound is_cell (Some i) decided = λ u inside.
    let here : node_at s e ≡ Some (Node.Union (map number parts)) = union.here ∙ ap (λ ps. Some (Node.Union ps)) (sym (same ∙ ap union_parts union.here)) in
    let from_one : 1 ≤ level_of cell = let some = is_cell.some_bits in omega arith in
    let to_six : level_of cell ≤ 6 = let few = is_cell.few_bits in omega arith in
    taken-ideal s x u F e (union_options (table (level_of cell)) e (map number parts))
    (union-sound s x F e (map number parts) here table sound (within s.nodes e (Node.Union (map number parts)) here) (numbers-in_range (length s.nodes) parts in_range) (omega arith) (level_of cell) from_one to_six) cell inside i (sym decided)
