-- Columns of a matrix, entries that are written, and lists that are copied.
use Rattle.std.proofs.Common.{◌≡◌, ℕ, zero, suc, ◌+◌, ◌<◌, List, [], ◌∷◌, ◌++◌, length, map, take, replicate, get_or, slice_get, Some, refl, sym, ap, ◌∙◌, arith, below_more}
use Rattle.std.proofs.lemmas.List.{take_all, take-append-le, get_or_read}
use Rattle.rounded_map.specs.RoundedMap.{at_each}
use Rattle.newton_upper.specs.Newton.{column}

-- What was written over a whole list.
pub written-whole : {V : Type 0} (n : ℕ) (xs ys : List V) → length xs ≡ n → take n (xs ++ ys) ≡ xs
written-whole n xs ys same = take-append-le n xs ys (omega arith) ∙ take_all n xs (omega arith)

-- Reading a list of numbers at a place within it gives an entry, the one that reading with default
-- 0 gives.
pub there-at : (xs : List ℕ) (i : ℕ) → i < length xs → slice_get xs i ≡ Some (get_or xs i 0)
there-at [] i within = absurd (omega arith)
there-at (x ∷ xs) zero within = refl
there-at (x ∷ xs) (suc i) within = there-at xs i (omega arith)

-- The operation at each place of a list and itself.
pub at_each-self : (f : ℕ → ℕ) (xs : List ℕ) → at_each (λ a b. f a) xs xs ≡ map f xs
at_each-self f [] = refl
at_each-self f (x ∷ xs) = ap (λ ys. f x ∷ ys) (at_each-self f xs)

-- A column that was read.
pub column-read : (items columns : List (List ℕ)) (c : ℕ) (x now : List ℕ) → items ≡ columns → now ≡ x → x ≡ get_or items c x → c < length items → now ≡ column columns c
column-read items columns c x now same is read within = is ∙ get_or_read items c x within read [] ∙ ap (λ (qs : List (List ℕ)). column qs c) same

column-before : (columns : List (List ℕ)) (p : List ℕ) (k : ℕ) → k < length columns → column (columns ++ p ∷ []) k ≡ column columns k
column-before [] p k within = absurd (omega arith)
column-before (q ∷ columns) p zero within = refl
column-before (q ∷ columns) p (suc k) within = column-before columns p k (omega arith)

column-last : (columns : List (List ℕ)) (p : List ℕ) → column (columns ++ p ∷ []) (length columns) ≡ p
column-last [] p = refl
column-last (q ∷ columns) p = column-last columns p

-- A column more of the same length.
pub columns-more : (columns new : List (List ℕ)) (p : List ℕ) (c n : ℕ) → new ≡ columns ++ p ∷ [] → length columns ≡ c → ((k : ℕ) → k < c → length (column columns k) ≡ n) → length p ≡ n → (k : ℕ) → k < c + 1 → length (column new k) ≡ n
columns-more columns new p c n pushed count each last =
    below_more (λ k. length (column new k) ≡ n) c
    (λ k below. ap (λ (qs : List (List ℕ)). length (column qs k)) pushed ∙ ap length (column-before columns p k (omega arith)) ∙ each k below)
    (ap (λ (qs : List (List ℕ)). length (column qs c)) pushed ∙ ap (λ k. length (column (columns ++ p ∷ []) k)) (sym count) ∙ ap length (column-last columns p) ∙ last)

-- A vector of one number, as the code makes it.
pub filled : (v n m : ℕ) (now items : List ℕ) → now ≡ items → items ≡ replicate n v → n ≡ m → now ≡ replicate m v
filled v n m now items is made same = is ∙ made ∙ ap (λ k. replicate k v) same
