-- The value of each node, from the values of all nodes.
use Rattle.std.proofs.Common.{◌≡◌, ℕ, zero, suc, ◌+◌, ◌<◌, List, [], ◌∷◌, ◌++◌, length, map, take, get_or, refl, sym, ap, ◌∙◌, arith, append_assoc, append-nil, length-append, Option, Some, None, slice_get}
use Rattle.std.specs.Prelude.{slice_index}
use Rattle.std.specs.List.{AllByRecursion}
use Rattle.std.proofs.lemmas.Option.{slice_get_within, same_Some, get_or_from_slice_get}
use Rattle.bz_model.specs.Spec.{Spec, Node, Range, node_at, range_at}
use Rattle.bz_laws.specs.Sound.{EachPart}
use Rattle.class_system.specs.NodeResults.{node_results, ranged_nodes}
use Rattle.class_system.specs.Sound.{IsSound}
use Rattle.class_system.proofs.Results.{zip-at}
use Rattle.series_bounds.specs.Series.{Kind, counted_down}
use Rattle.series_bounds.specs.Lists.{total_down, product_down, total_up, product_up}
use Rattle.rounded_map.specs.RoundedMap.{Setting, value_at, node_value_down, node_value_up, values_down, values_up}
use Rattle.rounded_map.proofs.LaidOut.{parts_below}

-- The results stand after those given before.
pub record GoesOnFrom {V : Type 0} (before results : List V) : Type 0 where
  pub further : List V
  pub split : results ≡ before ++ further

pub node_results-from : {V : Type 0} (result : List V → Node → Range → V) (before : List V) (nodes : List (Node × Range)) → GoesOnFrom before (node_results result before nodes)
node_results-from result before [] = record { further = []; split = sym (append-nil before) }
node_results-from result before (node ∷ nodes) =
    let rest : GoesOnFrom (before ++ result before node.0 node.1 ∷ []) (node_results result (before ++ result before node.0 node.1 ∷ []) nodes) = node_results-from result (before ++ result before node.0 node.1 ∷ []) nodes in
    record { further = result before node.0 node.1 ∷ rest.further; split = rest.split ∙ append_assoc before (result before node.0 node.1 ∷ []) rest.further }

seam-at : {V : Type 0} (before : List V) (v : V) (further : List V) → slice_get ((before ++ v ∷ []) ++ further) (length before) ≡ Some v
seam-at [] v further = refl
seam-at (b ∷ before) v further = seam-at before v further

seam-take : {V : Type 0} (before : List V) (v : V) (further : List V) → take (length before) ((before ++ v ∷ []) ++ further) ≡ before
seam-take [] v further = refl
seam-take (b ∷ before) v further = ap (λ bs. b ∷ bs) (seam-take before v further)

-- The result at each place is that of the node there, from the results before it.
pub node_results-at : {V : Type 0} (result : List V → Node → Range → V) (before : List V) (pairs : List (Node × Range)) (i k : ℕ) (n : Node) (r : Range) → k ≡ length before + i → slice_get pairs i ≡ Some (n, r) → slice_get (node_results result before pairs) k ≡ Some (result (take k (node_results result before pairs)) n r)
node_results-at result before [] i k n r place at = absurd (omega (arith, slice_get_within [] i (n, r) at))
node_results-at result before (pair ∷ pairs) zero k n r place at =
    let v = result before pair.0 pair.1 in
    let all = node_results result (before ++ v ∷ []) pairs in
    let rest : GoesOnFrom (before ++ v ∷ []) all = node_results-from result (before ++ v ∷ []) pairs in
    let here : k ≡ length before = omega arith in
    let same : pair ≡ (n, r) = same_Some pair (n, r) at in
    let found : slice_get all k ≡ Some v = ap (slice_get all) here ∙ ap (λ zs. slice_get zs (length before)) rest.split ∙ seam-at before v rest.further in
    let front : take k all ≡ before = ap (λ m. take m all) here ∙ ap (take (length before)) rest.split ∙ seam-take before v rest.further in
    found ∙ ap Some (λ i. result (sym front i) ((same i).0) ((same i).1))
node_results-at result before (pair ∷ pairs) (suc i) k n r place at =
    let v = result before pair.0 pair.1 in
    let longer : length (before ++ v ∷ []) ≡ length before + 1 = length-append before (v ∷ []) in
    node_results-at result (before ++ v ∷ []) pairs i k n r (omega arith) at

-- The result at a node is made from the results for the nodes before it, the node and its range.
pub result-at : {V : Type 0} (result : List V → Node → Range → V) (s : Spec) (e : ℕ) (n : Node) (r : Range) → node_at s e ≡ Some n → range_at s e ≡ Some r → slice_get (node_results result [] (ranged_nodes s)) e ≡ Some (result (take e (node_results result [] (ranged_nodes s))) n r)
result-at result s e n r at_n at_r = node_results-at result [] (ranged_nodes s) e e n r (omega arith) (zip-at s.nodes s.ranges e n r at_n at_r)

-- An element before the end of a front is that of the whole.
pub front-at : {X : Type 0} (xs : List X) (n i : ℕ) (d : X) → i < n → get_or (take n xs) i d ≡ get_or xs i d
front-at xs zero i d below = absurd (omega arith)
front-at [] (suc n) i d below = refl
front-at (x ∷ xs) (suc n) zero d below = refl
front-at (x ∷ xs) (suc n) (suc i) d below = front-at xs n i d (omega arith)

same-map : {X : Type 0} (xs : List X) (n : ℕ) (d : X) (parts : List ℕ) → AllByRecursion (λ p. p < n) parts → map (λ p. get_or (take n xs) p d) parts ≡ map (λ p. get_or xs p d) parts
same-map xs n d [] below = refl
same-map xs n d (p ∷ parts) below = λ i. front-at xs n p d below.0 i ∷ same-map xs n d parts below.1 i

-- A node's value is the same from the values before it and from all values.
value_down-whole : (t : Setting) (classes all : List ℕ) (k : ℕ) (n : Node) (r : Range) → EachPart (λ p. p < k) n → node_value_down t classes (take k all) n r ≡ node_value_down t classes all n r
value_down-whole t classes all k (Node.Empty word) r below = refl
value_down-whole t classes all k (Node.Atom word) r below = refl
value_down-whole t classes all k (Node.Class c) r below = refl
value_down-whole t classes all k (Node.Union parts) r below = ap total_down (same-map all k 0 parts below)
value_down-whole t classes all k (Node.Product parts) r below = ap (product_down t.bits) (same-map all k 0 parts below)
value_down-whole t classes all k (Node.Seq part) r below = ap (counted_down Kind.Seq t.bits r) (front-at all k part 0 below)
value_down-whole t classes all k (Node.Set part) r below = ap (counted_down Kind.Set t.bits r) (front-at all k part 0 below)
value_down-whole t classes all k (Node.Cyc part) r below = ap (counted_down Kind.Cyc t.bits r) (front-at all k part 0 below)

value_up-whole : (t : Setting) (classes : List ℕ) (all : List (Option ℕ)) (k : ℕ) (n : Node) (r : Range) → EachPart (λ p. p < k) n → node_value_up t classes (take k all) n r ≡ node_value_up t classes all n r
value_up-whole t classes all k (Node.Empty word) r below = refl
value_up-whole t classes all k (Node.Atom word) r below = refl
value_up-whole t classes all k (Node.Class c) r below = refl
value_up-whole t classes all k (Node.Union parts) r below = ap total_up (same-map all k None parts below)
value_up-whole t classes all k (Node.Product parts) r below = ap (product_up t.bits) (same-map all k None parts below)
value_up-whole t classes all k (Node.Seq part) r below = λ i. node_value_up t classes (front-at all k part None below i ∷ []) (Node.Seq 0) r
value_up-whole t classes all k (Node.Set part) r below = λ i. node_value_up t classes (front-at all k part None below i ∷ []) (Node.Set 0) r
value_up-whole t classes all k (Node.Cyc part) r below = λ i. node_value_up t classes (front-at all k part None below i ∷ []) (Node.Cyc 0) r

-- A node's lower value, from all lower values.
pub value_down-at : (t : Setting) (classes : List ℕ) → IsSound t.spec → (e : ℕ) (n : Node) (r : Range) → node_at t.spec e ≡ Some n → range_at t.spec e ≡ Some r → slice_index (values_down t classes) e ≡ node_value_down t classes (values_down t classes) n r
value_down-at t classes sound e n r at_n at_r =
    let all = values_down t classes in
    get_or_from_slice_get all e (node_value_down t classes (take e all) n r) 0 (result-at (node_value_down t classes) t.spec e n r at_n at_r) ∙ value_down-whole t classes all e n r (parts_below t.spec sound e n at_n)

-- A node's upper value, from all upper values.
pub value_up-at : (t : Setting) (classes : List ℕ) → IsSound t.spec → (e : ℕ) (n : Node) (r : Range) → node_at t.spec e ≡ Some n → range_at t.spec e ≡ Some r → value_at (values_up t classes) e ≡ node_value_up t classes (values_up t classes) n r
value_up-at t classes sound e n r at_n at_r =
    let all = values_up t classes in
    get_or_from_slice_get all e (node_value_up t classes (take e all) n r) None (result-at (node_value_up t classes) t.spec e n r at_n at_r) ∙ value_up-whole t classes all e n r (parts_below t.spec sound e n at_n)
