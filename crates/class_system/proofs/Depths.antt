-- The greatest of some numbers, one more at a time.
use Rattle.std.proofs.Common.{◌≡◌, ℕ, suc, zero, ◌+◌, ◌≤◌, max, List, [], ◌∷◌, ◌++◌, map, take, slice_index, refl, ap, ◌∙◌, arith, Some, slice_get}
use Rattle.bz_model.specs.Spec.{Node, Range}
use Rattle.class_system.specs.NodeOrder.{parts_of}
use Rattle.class_system.specs.Limits.{greatest_of, node_depth}
use Rattle.class_system.proofs.Results.{take-at}

-- One number more at the end.
pub greatest-append : (ns : List ℕ) (n : ℕ) → greatest_of (ns ++ n ∷ []) ≡ max (greatest_of ns) n
greatest-append [] n = omega arith
greatest-append (m ∷ ns) n = rw (greatest-append ns n) (omega arith)

-- A number that is read is at most the greatest.
pub index_le : (ns : List ℕ) (i : ℕ) → slice_index ns i ≤ greatest_of ns
index_le [] i = omega arith
index_le (n ∷ ns) zero = omega arith
index_le (n ∷ ns) (suc i) = omega (arith, index_le ns i)

-- The greatest of some that are read is at most the greatest of all.
pub picked_le : (ns places : List ℕ) → greatest_of (map (slice_index ns) places) ≤ greatest_of ns
picked_le ns [] = omega arith
picked_le ns (i ∷ places) = omega (arith, index_le ns i, picked_le ns places)

-- A mapped list and one element more.
pub map-append_one : {X Y : Type 0} (f : X → Y) (xs : List X) (x : X) → map f (xs ++ x ∷ []) ≡ map f xs ++ f x ∷ []
map-append_one f [] x = refl
map-append_one f (y ∷ xs) x = ap (λ ys. f y ∷ ys) (map-append_one f xs x)

-- The greatest of the images of one element more.
pub greatest-more : {X : Type 0} (f : X → ℕ) (xs : List X) (i : ℕ) (x : X) → slice_get xs i ≡ Some x → greatest_of (map f (take (i + 1) xs)) ≡ max (greatest_of (map f (take i xs))) (f x)
greatest-more f xs i x at = ap (λ ys. greatest_of (map f ys)) (take-at xs i x at) ∙ ap greatest_of (map-append_one f (take i xs) x) ∙ greatest-append (map f (take i xs)) (f x)

-- The greatest of the depths so far grows with them, by at most one.
pub greatest_so_far : (before after : List ℕ) (most new_most d i : ℕ) (n : Node) (r : Range) → most ≡ greatest_of before → most ≤ i → d ≡ node_depth before n r → after ≡ before ++ d ∷ [] → new_most ≡ max most d → (new_most ≡ greatest_of after) × (new_most ≤ i + 1)
greatest_so_far before after most new_most d i n r most_is few is_depth pushed new_is =
    let grown : greatest_of after ≡ max (greatest_of before) d = ap greatest_of pushed ∙ greatest-append before d in
    (omega arith, omega (arith, picked_le before (parts_of n)))
