-- Marks for labels: the first mark is that of label 1.
use Rattle.std.specs.Prelude.{◌≡◌, ℕ, ◌-◌, ◌≤◌, Bool, true, false, List, [], ◌∷◌, length}
use Rattle.std.specs.Prelude.{slice_index_or, slice_set}

-- A label has a mark, which isn't set.
pub record IsFree (seen : List Bool) (label : ℕ) : Type 0 where
  pub from_one : 1 ≤ label
  pub to_length : label ≤ length seen
  pub unmarked : slice_index_or seen (label - 1) false ≡ false

-- The marks where that of a label is set.
abbrev pub marked : List Bool → ℕ → List Bool
marked seen label = slice_set seen (label - 1) true

-- The answer tells whether the label was free, and is marked now.
abbrev pub MarksIf : List Bool → ℕ → List Bool → Bool → Type 0
MarksIf seen label now true = IsFree seen label × (now ≡ marked seen label)
MarksIf seen label now false = ¬ (IsFree seen label)

-- Each label is free where those before it are marked.
abbrev pub AreFree : List Bool → List ℕ → Type 0
AreFree seen [] = Unit {0}
AreFree seen (label ∷ labels) = IsFree seen label × AreFree (marked seen label) labels
