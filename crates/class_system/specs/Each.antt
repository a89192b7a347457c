-- What holds of each element of a list, or of each pair of elements at one place of two lists.
use Rattle.std.specs.Prelude.{◌≡◌, ℕ, List, length, Some, slice_get}

-- Each element has a property.
pub record Each {X : Type 0} (P : X → Type 0) (xs : List X) : Type 0 where
  pub at : (i : ℕ) (x : X) → slice_get xs i ≡ Some x → P x

-- Two lists are as long, and the elements at each place are related.
pub record EachPair {X Y : Type 0} (R : X → Y → Type 0) (xs : List X) (ys : List Y) : Type 0 where
  pub lengths : length ys ≡ length xs
  pub at : (i : ℕ) (x : X) (y : Y) → slice_get xs i ≡ Some x → slice_get ys i ≡ Some y → R x y
