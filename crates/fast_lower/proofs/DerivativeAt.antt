-- The derivative of each node, from the derivatives of all nodes.
use Rattle.std.proofs.Common.{◌≡◌, ℕ, ◌<◌, List, [], ◌∷◌, refl, ap, ◌∙◌, take, Option, Some, None}
use Rattle.bz_model.specs.Spec.{Node, Range, node_at, range_at}
use Rattle.bz_laws.specs.Sound.{EachPart}
use Rattle.class_system.specs.Sound.{IsSound}
use Rattle.std.proofs.lemmas.Option.{get_or_from_slice_get}
use Rattle.series_bounds.specs.Series.{Kind}
use Rattle.series_bounds.specs.Lists.{total_up}
use Rattle.std.specs.Prelude.{map}
use Rattle.std.specs.List.{AllByRecursion}
use Rattle.rounded_map.specs.RoundedMap.{Setting, value_at}
use Rattle.rounded_map.specs.Derivative.{replaced_products, counted_derivative, derivative_up, derivatives_up}
use Rattle.rounded_map.proofs.AtNode.{result-at, front-at}
use Rattle.rounded_map.proofs.LaidOut.{parts_below}

same-map : (xs : List (Option ℕ)) (n : ℕ) (parts : List ℕ) → AllByRecursion (λ p. p < n) parts → map (value_at (take n xs)) parts ≡ map (value_at xs) parts
same-map xs n [] below = refl
same-map xs n (p ∷ parts) below = λ i. front-at xs n p None below.0 i ∷ same-map xs n parts below.1 i

-- A node's derivative is the same from the derivatives before it and from all derivatives.
derivative-whole : (t : Setting) (values : List (Option ℕ)) (d : List ℕ) (all : List (Option ℕ)) (k : ℕ) (n : Node) (r : Range) → EachPart (λ p. p < k) n → derivative_up t values d (take k all) n r ≡ derivative_up t values d all n r
derivative-whole t values d all k (Node.Empty word) r below = refl
derivative-whole t values d all k (Node.Atom word) r below = refl
derivative-whole t values d all k (Node.Class c) r below = refl
derivative-whole t values d all k (Node.Union parts) r below = ap total_up (same-map all k parts below)
derivative-whole t values d all k (Node.Product parts) r below = ap (λ (ds : List (Option ℕ)). total_up (replaced_products t.bits [] (map (value_at values) parts) ds)) (same-map all k parts below)
derivative-whole t values d all k (Node.Seq part) r below = ap (counted_derivative Kind.Seq t.bits r (value_at values part)) (front-at all k part None below)
derivative-whole t values d all k (Node.Set part) r below = ap (counted_derivative Kind.Set t.bits r (value_at values part)) (front-at all k part None below)
derivative-whole t values d all k (Node.Cyc part) r below = ap (counted_derivative Kind.Cyc t.bits r (value_at values part)) (front-at all k part None below)

-- For a sound specification, the derivative of node e in the list of all derivatives is the one
-- that its rule gives from that whole list.
pub derivative-at : (t : Setting) (values : List (Option ℕ)) (d : List ℕ) → IsSound t.spec → (e : ℕ) (n : Node) (r : Range) → node_at t.spec e ≡ Some n → range_at t.spec e ≡ Some r → value_at (derivatives_up t values d) e ≡ derivative_up t values d (derivatives_up t values d) n r
derivative-at t values d sound e n r at_n at_r =
    let all = derivatives_up t values d in
    get_or_from_slice_get all e (derivative_up t values d (take e all) n r) None (result-at (derivative_up t values d) t.spec e n r at_n at_r) ∙ derivative-whole t values d all e n r (parts_below t.spec sound e n at_n)
