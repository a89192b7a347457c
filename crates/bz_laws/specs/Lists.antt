-- Membership, and all pairs of two lists.
use Rattle.std.specs.Prelude.{◌≡◌, ◌⊎◌, List, [], ◌∷◌, ◌++◌, map}

-- The element stands in the list.
abbrev pub IsOneOf : {A : Type 0} → List A → A → Type 0
IsOneOf [] a = ⊥
IsOneOf (b ∷ xs) a = (a ≡ b) ⊎ IsOneOf xs a

-- All pairs of an element of the first list and one of the second.
abbrev pub pairs_of : {A B : Type 0} → List A → List B → List (A × B)
pairs_of [] ys = []
pairs_of (x ∷ xs) ys = map (λ y. (x, y)) ys ++ pairs_of xs ys
