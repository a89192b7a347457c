-- The rounded map is monotone: at a vector that is nowhere greater, each node has an upper value wherever it has one
-- at the other vector, and it is no greater. So an upper sweep of a post-fixed vector is post-fixed.
use Rattle.std.proofs.Common.{ℕ, zero, suc, ◌≤◌, ◌<◌, ◌^◌, List, [], ◌∷◌, ◌++◌, Option, Some, None, arith}
use Rattle.std.specs.Prelude.{slice_index, map, option_and_then}
use Rattle.std.proofs.Math.Nat.{le_refl, le_trans}
use Rattle.bz_model.specs.Spec.{Node, Range}
use Rattle.class_system.specs.NodeResults.{node_results, ranged_nodes}
use Rattle.fixed_enclosure.specs.UpperValues.{IsNoGreater, AreNoGreater, AreAtMost}
use Rattle.fixed_enclosure.specs.Rounded.{of_both, atom_up, add_up, mul_up}
use Rattle.fixed_enclosure.proofs.Monotone.{no_greater_refl, no_greater_trans, of_both-monotone, and_then-monotone, add_up-monotone, mul_up-monotone}
use Rattle.series_bounds.specs.Series.{Kind, from_up, ranged_up, counted_up}
use Rattle.series_bounds.specs.Lists.{added_up, total_up, multiplied_up, product_up}
use Rattle.series_bounds.proofs.Monotone.{range_up-monotone, seq_from_up-monotone, set_from_up-monotone}
use Rattle.series_bounds.proofs.LogarithmMonotone.{cyc_from_up-monotone}
use Rattle.rounded_map.specs.RoundedMap.{Setting, value_at, at_each, repeated, node_value_up, values_up, bodies_up, lesser, sweep_up, IsPostFixed}

-- Where each number of a list is at most that at its place in another, so it is at any place i, 0
-- being past the ends.
pub at_most-at : (xs ys : List ℕ) (i : ℕ) → AreAtMost xs ys → slice_index xs i ≤ slice_index ys i
at_most-at [] [] i p = le_refl (slice_index [] i)
at_most-at [] (y ∷ ys) i p = absurd p
at_most-at (x ∷ xs) [] i p = absurd p
at_most-at (x ∷ xs) (y ∷ ys) zero p = p.0
at_most-at (x ∷ xs) (y ∷ ys) (suc i) p = at_most-at xs ys i p.1

-- Where each value of a list is no greater than that at its place in another, so it is at any place
-- i, none being past the ends.
pub no_greater-at : (us ws : List (Option ℕ)) (i : ℕ) → AreNoGreater us ws → IsNoGreater (value_at us i) (value_at ws i)
no_greater-at [] [] i p = tt
no_greater-at [] (w ∷ ws) i p = absurd p
no_greater-at (u ∷ us) [] i p = absurd p
no_greater-at (u ∷ us) (w ∷ ws) zero p = p.0
no_greater-at (u ∷ us) (w ∷ ws) (suc i) p = no_greater-at us ws i p.1

pub no_greater-append : (us ws : List (Option ℕ)) (u w : Option ℕ) → AreNoGreater us ws → IsNoGreater u w → AreNoGreater (us ++ u ∷ []) (ws ++ w ∷ [])
no_greater-append [] [] u w p q = (q, tt)
no_greater-append [] (z ∷ ws) u w p q = absurd p
no_greater-append (v ∷ us) [] u w p q = absurd p
no_greater-append (v ∷ us) (z ∷ ws) u w p q = (p.0, no_greater-append us ws u w p.1 q)

pub no_greater-map : (us ws : List (Option ℕ)) (places : List ℕ) → AreNoGreater us ws → AreNoGreater (map (value_at us) places) (map (value_at ws) places)
no_greater-map us ws [] p = tt
no_greater-map us ws (i ∷ places) p = (no_greater-at us ws i p, no_greater-map us ws places p)

pub no_greater-trans_each : (us vs ws : List (Option ℕ)) → AreNoGreater us vs → AreNoGreater vs ws → AreNoGreater us ws
no_greater-trans_each [] [] [] p q = tt
no_greater-trans_each [] [] (w ∷ ws) p q = q
no_greater-trans_each [] (v ∷ vs) ws p q = absurd p
no_greater-trans_each (u ∷ us) [] ws p q = absurd p
no_greater-trans_each (u ∷ us) (v ∷ vs) [] p q = absurd q
no_greater-trans_each (u ∷ us) (v ∷ vs) (w ∷ ws) p q = (no_greater_trans u v w p.0 q.0, no_greater-trans_each us vs ws p.1 q.1)

pub added_up-monotone : (u w : Option ℕ) (us ws : List (Option ℕ)) → IsNoGreater u w → AreNoGreater us ws → IsNoGreater (added_up u us) (added_up w ws)
added_up-monotone u w [] [] p q = p
added_up-monotone u w [] (z ∷ ws) p q = absurd q
added_up-monotone u w (v ∷ us) [] p q = absurd q
added_up-monotone u w (v ∷ us) (z ∷ ws) p q = added_up-monotone (of_both add_up u v) (of_both add_up w z) us ws (of_both-monotone add_up add_up-monotone u v w z p q.0) q.1

pub total_up-monotone : (us ws : List (Option ℕ)) → AreNoGreater us ws → IsNoGreater (total_up us) (total_up ws)
total_up-monotone [] [] q = le_refl 0
total_up-monotone [] (z ∷ ws) q = absurd q
total_up-monotone (v ∷ us) [] q = absurd q
total_up-monotone (v ∷ us) (z ∷ ws) q = added_up-monotone v z us ws q.0 q.1

pub multiplied_up-monotone : (f : ℕ) (u w : Option ℕ) (us ws : List (Option ℕ)) → IsNoGreater u w → AreNoGreater us ws → IsNoGreater (multiplied_up f u us) (multiplied_up f w ws)
multiplied_up-monotone f u w [] [] p q = p
multiplied_up-monotone f u w [] (z ∷ ws) p q = absurd q
multiplied_up-monotone f u w (v ∷ us) [] p q = absurd q
multiplied_up-monotone f u w (v ∷ us) (z ∷ ws) p q = multiplied_up-monotone f (of_both (mul_up f) u v) (of_both (mul_up f) w z) us ws (of_both-monotone (mul_up f) (mul_up-monotone f) u v w z p q.0) q.1

pub product_up-monotone : (f : ℕ) (us ws : List (Option ℕ)) → AreNoGreater us ws → IsNoGreater (product_up f us) (product_up f ws)
product_up-monotone f [] [] q = le_refl (2 ^ f)
product_up-monotone f [] (z ∷ ws) q = absurd q
product_up-monotone f (v ∷ us) [] q = absurd q
product_up-monotone f (v ∷ us) (z ∷ ws) q = multiplied_up-monotone f v z us ws q.0 q.1

pub from_up-monotone : (kind : Kind) (f a b low : ℕ) → 0 < f → a ≤ b → IsNoGreater (from_up kind f a low) (from_up kind f b low)
from_up-monotone Kind.Seq f a b low bits p = seq_from_up-monotone f a b low p
from_up-monotone Kind.Set f a b low bits p = set_from_up-monotone f a b low p
from_up-monotone Kind.Cyc f a b low bits p = cyc_from_up-monotone f a b low bits p

pub ranged_up-monotone : (kind : Kind) (f a b low : ℕ) (high : Option ℕ) → 0 < f → a ≤ b → IsNoGreater (ranged_up kind f a low high) (ranged_up kind f b low high)
ranged_up-monotone kind f a b low None bits p = from_up-monotone kind f a b low bits p
ranged_up-monotone kind f a b low (Some high) bits p = range_up-monotone kind f a b low high p

-- The value of a counted node is monotone in its part's.
pub counted-monotone : (kind : Kind) (f : ℕ) (range : Range) (u w : Option ℕ) → 0 < f → IsNoGreater u w → IsNoGreater (option_and_then (counted_up kind f range) u) (option_and_then (counted_up kind f range) w)
counted-monotone kind f range u w bits p = and_then-monotone (counted_up kind f range) (λ a c q. ranged_up-monotone kind f a c range.low range.high bits q) u w p

-- A node's value is monotone in the classes' entries and in the values of the nodes before it.
pub value_up-monotone : (t : Setting) (v w : List ℕ) → 0 < t.bits → AreAtMost v w → (us ws : List (Option ℕ)) → AreNoGreater us ws → (node : Node) (range : Range) → IsNoGreater (node_value_up t v us node range) (node_value_up t w ws node range)
value_up-monotone t v w bits p us ws q (Node.Empty word) range = le_refl (2 ^ t.bits)
value_up-monotone t v w bits p us ws q (Node.Atom word) range = no_greater_refl (atom_up t.bits t.num t.den)
value_up-monotone t v w bits p us ws q (Node.Class c) range = at_most-at v w c p
value_up-monotone t v w bits p us ws q (Node.Union parts) range = total_up-monotone (map (value_at us) parts) (map (value_at ws) parts) (no_greater-map us ws parts q)
value_up-monotone t v w bits p us ws q (Node.Product parts) range = product_up-monotone t.bits (map (value_at us) parts) (map (value_at ws) parts) (no_greater-map us ws parts q)
value_up-monotone t v w bits p us ws q (Node.Seq part) range = counted-monotone Kind.Seq t.bits range (value_at us part) (value_at ws part) bits (no_greater-at us ws part q)
value_up-monotone t v w bits p us ws q (Node.Set part) range = counted-monotone Kind.Set t.bits range (value_at us part) (value_at ws part) bits (no_greater-at us ws part q)
value_up-monotone t v w bits p us ws q (Node.Cyc part) range = counted-monotone Kind.Cyc t.bits range (value_at us part) (value_at ws part) bits (no_greater-at us ws part q)

pub results-monotone : (g h : List (Option ℕ) → Node → Range → Option ℕ) → ((us ws : List (Option ℕ)) → AreNoGreater us ws → (node : Node) (range : Range) → IsNoGreater (g us node range) (h ws node range)) → (us ws : List (Option ℕ)) (nodes : List (Node × Range)) → AreNoGreater us ws → AreNoGreater (node_results g us nodes) (node_results h ws nodes)
results-monotone g h mono us ws [] p = p
results-monotone g h mono us ws (node ∷ nodes) p = results-monotone g h mono (us ++ g us node.0 node.1 ∷ []) (ws ++ h ws node.0 node.1 ∷ []) nodes (no_greater-append us ws (g us node.0 node.1) (h ws node.0 node.1) p (mono us ws p node.0 node.1))

-- The upper values of all nodes are monotone in the class vector.
pub values_up-monotone : (t : Setting) (v w : List ℕ) → 0 < t.bits → AreAtMost v w → AreNoGreater (values_up t v) (values_up t w)
values_up-monotone t v w bits p = results-monotone (node_value_up t v) (node_value_up t w) (value_up-monotone t v w bits p) [] [] (ranged_nodes t.spec) tt

pub bodies_up-monotone : (t : Setting) (v w : List ℕ) → 0 < t.bits → AreAtMost v w → AreNoGreater (bodies_up t (values_up t v)) (bodies_up t (values_up t w))
bodies_up-monotone t v w bits p = no_greater-map (values_up t v) (values_up t w) t.spec.bodies (values_up-monotone t v w bits p)

pub lesser-at_most : (v : List ℕ) (us : List (Option ℕ)) → AreNoGreater us (map Some v) → AreAtMost (at_each lesser v us) v
lesser-at_most [] [] p = tt
lesser-at_most [] (u ∷ us) p = absurd p
lesser-at_most (n ∷ v) [] p = absurd p
lesser-at_most (n ∷ v) (None ∷ us) p = (le_refl n, lesser-at_most v us p.1)
lesser-at_most (n ∷ v) (Some u ∷ us) p = (omega arith, lesser-at_most v us p.1)

pub lesser-above : (v : List ℕ) (us : List (Option ℕ)) → AreNoGreater us (map Some v) → AreNoGreater us (map Some (at_each lesser v us))
lesser-above [] [] p = tt
lesser-above [] (u ∷ us) p = absurd p
lesser-above (n ∷ v) [] p = absurd p
lesser-above (n ∷ v) (None ∷ us) p = absurd p.0
lesser-above (n ∷ v) (Some u ∷ us) p = let u_le : u ≤ n = p.0 in (omega arith, lesser-above v us p.1)

-- An upper sweep of a post-fixed vector is nowhere greater, and post-fixed.
pub sweep_up-at_most : (t : Setting) (v : List ℕ) → IsPostFixed t v → AreAtMost (sweep_up t v) v
sweep_up-at_most t v p = lesser-at_most v (bodies_up t (values_up t v)) p.each

-- With at least one fraction bit, the upper sweep of a post-fixed vector is post-fixed.
pub sweep_up-post_fixed : (t : Setting) (v : List ℕ) → 0 < t.bits → IsPostFixed t v → IsPostFixed t (sweep_up t v)
sweep_up-post_fixed t v bits p = record {
  each = no_greater-trans_each (bodies_up t (values_up t (sweep_up t v))) (bodies_up t (values_up t v)) (map Some (sweep_up t v))
      (bodies_up-monotone t (sweep_up t v) v bits (sweep_up-at_most t v p))
      (lesser-above v (bodies_up t (values_up t v)) p.each);
}

pub at_most_trans : (u v w : List ℕ) → AreAtMost u v → AreAtMost v w → AreAtMost u w
at_most_trans [] [] [] p q = tt
at_most_trans [] [] (z ∷ w) p q = q
at_most_trans [] (y ∷ v) w p q = absurd p
at_most_trans (x ∷ u) [] w p q = absurd p
at_most_trans (x ∷ u) (y ∷ v) [] p q = absurd q
at_most_trans (x ∷ u) (y ∷ v) (z ∷ w) p q = (le_trans p.0 q.0, at_most_trans u v w p.1 q.1)

pub at_most_refl : (v : List ℕ) → AreAtMost v v
at_most_refl [] = tt
at_most_refl (x ∷ v) = (le_refl x, at_most_refl v)

-- After any number of upper sweeps a post-fixed vector is post-fixed and nowhere greater.
pub sweeps_up-post_fixed : (t : Setting) (n : ℕ) (v : List ℕ) → 0 < t.bits → IsPostFixed t v → IsPostFixed t (repeated (sweep_up t) n v)
sweeps_up-post_fixed t zero v bits p = p
sweeps_up-post_fixed t (suc n) v bits p = sweep_up-post_fixed t (repeated (sweep_up t) n v) bits (sweeps_up-post_fixed t n v bits p)

pub sweeps_up-at_most : (t : Setting) (n : ℕ) (v : List ℕ) → 0 < t.bits → IsPostFixed t v → AreAtMost (repeated (sweep_up t) n v) v
sweeps_up-at_most t zero v bits p = at_most_refl v
sweeps_up-at_most t (suc n) v bits p = at_most_trans (sweep_up t (repeated (sweep_up t) n v)) (repeated (sweep_up t) n v) v (sweep_up-at_most t (repeated (sweep_up t) n v) (sweeps_up-post_fixed t n v bits p)) (sweeps_up-at_most t n v bits p)

-- Each node that has an upper value at a post-fixed vector has one, no greater, after any number of upper sweeps.
pub level_values-no_greater : (t : Setting) (n : ℕ) (v : List ℕ) → 0 < t.bits → IsPostFixed t v → AreNoGreater (values_up t (repeated (sweep_up t) n v)) (values_up t v)
level_values-no_greater t n v bits p = values_up-monotone t (repeated (sweep_up t) n v) v bits (sweeps_up-at_most t n v bits p)
