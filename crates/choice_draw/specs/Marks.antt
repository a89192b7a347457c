-- Marks at nodes.
use Rattle.std.specs.Prelude.{◌≡◌, ℕ, Bool, true, false, List, slice_index_or}

-- A node is marked: the list has `true` at its place.
abbrev pub IsMarked : (marks : List Bool) → (node : ℕ) → Type 0
IsMarked marks node = slice_index_or marks node false ≡ true
