-- The nodes of lists of terms, one term more.
use Rattle.std.proofs.Common.{◌≡◌, ℕ, suc, List, [], ◌∷◌, ◌++◌, length, map, refl, ap, length-append, arith}
use Rattle.spec_reader.specs.Grammar.{Term, listed_terms}
use Rattle.spec_reader.specs.Tables.{Row, with_term, numbers, last_number}
use Rattle.spec_reader.specs.Building.{with_list}

-- The rows of terms with one more term t are the rows of the terms, and behind them those of t.
pub with_list-snoc : (names : List (List ℕ)) (rows : List Row) (ts : List Term) (t : Term) → with_list names rows (ts ++ t ∷ []) ≡ with_term names (with_list names rows ts) t
with_list-snoc names rows [] t = refl
with_list-snoc names rows (u ∷ ts) t = with_list-snoc names (with_term names rows u) ts t

-- The numbers of terms with one more term t are those of the terms, and then that of the last node
-- of t.
pub numbers-snoc : (names : List (List ℕ)) (rows : List Row) (ts : List Term) (t : Term) → numbers names rows (listed_terms (ts ++ t ∷ [])) ≡ numbers names rows (listed_terms ts) ++ last_number (with_term names (with_list names rows ts) t) ∷ []
numbers-snoc names rows [] t = refl
numbers-snoc names rows (u ∷ ts) t = ap (λ ns. last_number (with_term names rows u) ∷ ns) (numbers-snoc names (with_term names rows u) ts t)

-- the row at the end has the number of the rows before it
pub last_number-snoc : (rows : List Row) (r : Row) → last_number (rows ++ r ∷ []) ≡ length rows
last_number-snoc rows r = omega (arith, length-append rows (r ∷ []))

-- Mapping a list with x at its end gives the mapped list with the image of x at its end.
pub map-snoc : {A B : Type 0} (f : A → B) (xs : List A) (x : A) → map f (xs ++ x ∷ []) ≡ map f xs ++ f x ∷ []
map-snoc f [] x = refl
map-snoc f (y ∷ xs) x = ap (λ ys. f y ∷ ys) (map-snoc f xs x)

-- Applying a function to each element of a list keeps its length.
pub length-mapped : {A B : Type 0} (f : A → B) (xs : List A) → length (map f xs) ≡ length xs
length-mapped f [] = refl
length-mapped f (y ∷ xs) = ap suc (length-mapped f xs)
