-- Marks on nodes, one for each node.
use Rattle.std.specs.Prelude.{◌≡◌, ℕ, suc, Bool, true, false, List, [], ◌∷◌, length}
use Rattle.bz_model.specs.Spec.{Spec}
use Rattle.well_founded.specs.Foundedness.{Least}
use Rattle.well_founded.specs.EmptyObjects.{answer_at}

-- The number is marked.
abbrev pub IsMarked : List Bool → ℕ → Type 0
IsMarked marks e = answer_at marks e ≡ true

-- There is a mark for each node, and the marked ones are those that the rule gives, where an atom
-- counts if A holds.
pub record AreMarked (s : Spec) (A : Type 0) (marks : List Bool) : Type 0 where
  pub one_per_node : length marks ≡ length s.nodes
  pub right : (e : ℕ) → IsMarked marks e → Least s A e
  pub all : (e : ℕ) → Least s A e → IsMarked marks e

-- How many numbers aren't marked.
abbrev pub unmarked_count : List Bool → ℕ
unmarked_count [] = 0
unmarked_count (true ∷ marks) = unmarked_count marks
unmarked_count (false ∷ marks) = suc (unmarked_count marks)
