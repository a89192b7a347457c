-- Lists with one element replaced.
use Rattle.std.proofs.Common.{◌≡◌, ◌≢◌, ℕ, zero, suc, List, [], ◌∷◌, refl, ap}
use Rattle.std.specs.Prelude.{Some, slice_get, slice_set}

-- the element that was put in
pub replaced-here : {X : Type 0} (xs : List X) (i : ℕ) (x y : X) → slice_get xs i ≡ Some x → slice_get (slice_set xs i y) i ≡ Some y
replaced-here [] i x y h = absurd (cc)
replaced-here (z ∷ xs) zero x y h = refl
replaced-here (z ∷ xs) (suc i) x y h = replaced-here xs i x y h

-- every other element stays
pub replaced-elsewhere : {X : Type 0} (xs : List X) (i j : ℕ) (y : X) → j ≢ i → slice_get (slice_set xs i y) j ≡ slice_get xs j
replaced-elsewhere [] i j y other = refl
replaced-elsewhere (z ∷ xs) zero zero y other = absurd (other refl)
replaced-elsewhere (z ∷ xs) zero (suc j) y other = refl
replaced-elsewhere (z ∷ xs) (suc i) zero y other = refl
replaced-elsewhere (z ∷ xs) (suc i) (suc j) y other = replaced-elsewhere xs i j y (λ e. other (ap suc e))
