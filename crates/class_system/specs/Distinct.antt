-- Lists of names without repeats.
use Rattle.std.specs.Prelude.{◌≡◌, ℕ, List, Some, slice_get}

-- A name stands at no place of a list.
pub record IsMissing (name : List ℕ) (names : List (List ℕ)) : Type 0 where
  pub nowhere : (i : ℕ) → ¬ (slice_get names i ≡ Some name)

-- No name stands at two places of a list.
pub record AreDistinct (names : List (List ℕ)) : Type 0 where
  pub once : (i j : ℕ) (name : List ℕ) → slice_get names i ≡ Some name
      → slice_get names j ≡ Some name → i ≡ j
