-- Going through the nodes: the results found stay, and the nodes may be gone through in two parts.
use Rattle.std.proofs.Common.{◌≡◌, ℕ, suc, zero, ◌+◌, ◌<◌, ◌≤◌, List, [], ◌∷◌, ◌++◌, take, length, refl, sym, ap, ◌∙◌, arith, length-append, Some, slice_get, get_or, map, add-one}
use Rattle.std.specs.Prelude.{zip, option_map}
use Rattle.std.proofs.lemmas.List.{take_all}
use Rattle.std.proofs.lemmas.Option.{same_Some, slice_get_within, slice_get-map, slice_get-get_or}
use Rattle.bz_model.specs.Spec.{Spec, Node, Range, node_at, range_at}
use Rattle.class_system.specs.NodeResults.{node_results, ranged_nodes}

-- The results for nodes in two parts: those of the second part go on from those of the first.
pub node_results-append : {V : Type 0} (result : List V → Node → Range → V) (before : List V) (first second : List (Node × Range)) → node_results result before (first ++ second) ≡ node_results result (node_results result before first) second
node_results-append result before [] second = refl
node_results-append result before (node ∷ first) second = node_results-append result (before ++ result before node.0 node.1 ∷ []) first second

-- There is a result for each node.
pub length-node_results : {V : Type 0} (result : List V → Node → Range → V) (before : List V) (nodes : List (Node × Range)) → length (node_results result before nodes) ≡ length before + length nodes
length-node_results result before [] = omega arith
length-node_results result before (node ∷ nodes) =
    length-node_results result (before ++ result before node.0 node.1 ∷ []) nodes ∙ simp length-append (omega arith)

-- One element more, where it is known.
take-at_suc : {X : Type 0} (xs : List X) (i : ℕ) (x : X) → slice_get xs i ≡ Some x → take (suc i) xs ≡ take i xs ++ x ∷ []
take-at_suc [] i x at = absurd (omega (arith, slice_get_within [] i x at))
take-at_suc (y ∷ ys) zero x at = ap (λ z. z ∷ []) (same_Some y x at)
take-at_suc (y ∷ ys) (suc i) x at = ap (λ zs. y ∷ zs) (take-at_suc ys i x at)

-- Where a list has an element at place i, its first i + 1 elements are the first i and then that
-- one.
pub take-at : {X : Type 0} (xs : List X) (i : ℕ) (x : X) → slice_get xs i ≡ Some x → take (i + 1) xs ≡ take i xs ++ x ∷ []
take-at xs i x at = rw add-one (take-at_suc xs i x at)

-- The element at a place of a mapped list.
pub mapped-at : {X Y : Type 0} (f : X → Y) (xs : List X) (i : ℕ) (d : X) → i < length xs → slice_get (map f xs) i ≡ Some (f (get_or xs i d))
mapped-at f xs i d within = slice_get-map f xs i ∙ ap (option_map f) (slice_get-get_or xs i d within)

-- There are at most as many pairs as first elements.
pub length-zip_le : {X Y : Type 0} (xs : List X) (ys : List Y) → length (zip xs ys) ≤ length xs
length-zip_le [] ys = omega arith
length-zip_le (x ∷ xs) [] = omega arith
length-zip_le (x ∷ xs) (y ∷ ys) = omega (arith, length-zip_le xs ys)

-- There are as many pairs as elements of two lists that are as long.
pub length-zip : {X Y : Type 0} (xs : List X) (ys : List Y) → length ys ≡ length xs → length (zip xs ys) ≡ length xs
length-zip [] ys same = refl
length-zip (x ∷ xs) [] same = absurd (omega arith)
length-zip (x ∷ xs) (y ∷ ys) same = let rest : length (zip xs ys) ≡ length xs = length-zip xs ys (omega arith) in omega arith

-- The pair at a place.
pub zip-at : {X Y : Type 0} (xs : List X) (ys : List Y) (i : ℕ) (x : X) (y : Y) → slice_get xs i ≡ Some x → slice_get ys i ≡ Some y → slice_get (zip xs ys) i ≡ Some (x, y)
zip-at [] ys i x y at_x at_y = absurd (omega (arith, slice_get_within [] i x at_x))
zip-at (a ∷ xs) [] i x y at_x at_y = absurd (omega (arith, slice_get_within [] i y at_y))
zip-at (a ∷ xs) (b ∷ ys) zero x y at_x at_y = ap Some (λ i. (same_Some a x at_x i, same_Some b y at_y i))
zip-at (a ∷ xs) (b ∷ ys) (suc i) x y at_x at_y = zip-at xs ys i x y at_x at_y

-- One node more: its result comes after those of the nodes before it.
pub node_results-step : {V : Type 0} (result : List V → Node → Range → V) (nodes : List Node) (ranges : List Range) (i : ℕ) (n : Node) (r : Range) → slice_get nodes i ≡ Some n → slice_get ranges i ≡ Some r → node_results result [] (take (i + 1) (zip nodes ranges)) ≡ node_results result [] (take i (zip nodes ranges)) ++ result (node_results result [] (take i (zip nodes ranges))) n r ∷ []
node_results-step result nodes ranges i n r at_n at_r =
    ap (node_results result []) (take-at (zip nodes ranges) i (n, r) (zip-at nodes ranges i n r at_n at_r)) ∙ node_results-append result [] (take i (zip nodes ranges)) ((n, r) ∷ [])

-- The results found so far, and one more.
pub results-more : {V : Type 0} (result : List V → Node → Range → V) (s : Spec) (i : ℕ) (n : Node) (r : Range) (before after : List V) (v : V) → node_at s i ≡ Some n → range_at s i ≡ Some r → before ≡ node_results result [] (take i (ranged_nodes s)) → v ≡ result before n r → after ≡ before ++ v ∷ [] → after ≡ node_results result [] (take (i + 1) (ranged_nodes s))
results-more result s i n r before after v at_n at_r found is_result pushed =
    pushed ∙ rw (is_result, found) (sym (node_results-step result s.nodes s.ranges i n r at_n at_r))

-- All nodes were gone through.
pub results-all : {V : Type 0} (result : List V → Node → Range → V) (s : Spec) (i : ℕ) (found : List V) → found ≡ node_results result [] (take i (ranged_nodes s)) → length s.nodes ≤ i → found ≡ node_results result [] (ranged_nodes s)
results-all result s i found is_found all =
    is_found ∙ ap (node_results result []) (take_all i (ranged_nodes s) (omega (arith, length-zip_le s.nodes s.ranges)))
