-- The derivative of the rounded map along a vector, rounded up, and the dual sweep.
use Rattle.std.specs.Prelude.{ℕ, suc, ◌-◌, ◌*◌, List, [], ◌∷◌, ◌++◌, map, sum, drop, slice_index}
use Rattle.std.specs.Prelude.{Option, Some, None, option_and_then, if◌then◌else◌}
use Rattle.std.specs.List.{list_all}
use Rattle.bz_model.specs.Spec.{Node, Range}
use Rattle.class_system.specs.NodeResults.{node_results, ranged_nodes}
use Rattle.fixed_enclosure.specs.Rounded.{Side, of_both, fits, if_fits, add_up, mul_up, seq_up}
use Rattle.series_bounds.specs.Series.{Kind, exp_up, terms}
use Rattle.series_bounds.specs.Lists.{total_up, product_up}
use Rattle.rounded_map.specs.RoundedMap.{Setting, value_at, all_values}

-- The products in which one part's value is replaced by its derivative, part after part.
abbrev pub replaced_products : (f : ℕ) → (before values derivatives : List (Option ℕ))
    → List (Option ℕ)
replaced_products f before [] ds = []
replaced_products f before (v ∷ vs) [] = []
replaced_products f before (v ∷ vs) (d ∷ ds) = product_up f (before ++ d ∷ vs)
    ∷ replaced_products f (before ++ v ∷ []) vs ds

-- The derivative of a counted node without high, for a part whose derivative is 1.
abbrev pub open_slope : Kind → (f v : ℕ) → Option ℕ
open_slope Kind.Seq f v = option_and_then (λ s. mul_up f s s) (seq_up f v)
open_slope Kind.Set f v = exp_up f v
open_slope Kind.Cyc f v = seq_up f v

-- The terms that a derivative adds: those of the exponential for `Set`, else the powers.
abbrev pub slope_kind : Kind → Kind
slope_kind Kind.Seq = Kind.Seq
slope_kind Kind.Set = Kind.Set
slope_kind Kind.Cyc = Kind.Seq

-- What the derivative adds for j parts, p being the term j - 1.
abbrev pub slope_term : Kind → (j p : ℕ) → ℕ
slope_term Kind.Seq j p = j * p
slope_term Kind.Set j p = p
slope_term Kind.Cyc j p = p

-- What it adds for j parts, j + 1 parts and so on, from the terms in order.
abbrev pub slope_terms : Kind → (j : ℕ) → List ℕ → List ℕ
slope_terms kind j [] = []
slope_terms kind j (p ∷ ps) = slope_term kind j p ∷ slope_terms kind (suc j) ps

-- The sum of what it adds from low parts on, where each of the terms has 64 bits.
abbrev pub slope_sum : Kind → (low : ℕ) → List ℕ → Option ℕ
slope_sum kind low ps =
    if list_all fits ps then if_fits (sum (drop (low - 1) (slope_terms kind 1 ps))) else None

-- The derivative of a counted node, for a part whose derivative is 1.
abbrev pub slope_ranged : Kind → (f low : ℕ) → Option ℕ → (v : ℕ) → Option ℕ
slope_ranged kind f low None v = open_slope kind f v
slope_ranged kind f low (Some high) v =
    slope_sum kind low (terms Side.Up (slope_kind kind) f v high)

abbrev pub slope_up : Kind → (f : ℕ) → Range → (v : ℕ) → Option ℕ
slope_up kind f range v = slope_ranged kind f range.low range.high v

-- The derivative of a counted node from its part's value and derivative.
abbrev pub counted_derivative : Kind → (f : ℕ) → Range → (v w : Option ℕ) → Option ℕ
counted_derivative kind f range v w =
    of_both (mul_up f) (option_and_then (slope_up kind f range) v) w

-- A node's derivative along the vector d at the given node values, from the derivatives of the
-- nodes before it.
abbrev pub derivative_up : Setting → (values : List (Option ℕ)) → (d : List ℕ)
    → (before : List (Option ℕ)) → Node → Range → Option ℕ
derivative_up t values d before (Node.Empty word) range = Some 0
derivative_up t values d before (Node.Atom word) range = Some 0
derivative_up t values d before (Node.Class c) range = Some (slice_index d c)
derivative_up t values d before (Node.Union parts) range = total_up (map (value_at before) parts)
derivative_up t values d before (Node.Product parts) range =
    total_up (replaced_products t.bits [] (map (value_at values) parts)
    (map (value_at before) parts))
derivative_up t values d before (Node.Seq part) range =
    counted_derivative Kind.Seq t.bits range (value_at values part) (value_at before part)
derivative_up t values d before (Node.Set part) range =
    counted_derivative Kind.Set t.bits range (value_at values part) (value_at before part)
derivative_up t values d before (Node.Cyc part) range =
    counted_derivative Kind.Cyc t.bits range (value_at values part) (value_at before part)

-- The derivatives of all nodes.
abbrev pub derivatives_up : Setting → (values : List (Option ℕ)) → (d : List ℕ) → List (Option ℕ)
derivatives_up t values d = node_results (derivative_up t values d) [] (ranged_nodes t.spec)

-- A class's new number: 256 units and the derivative of its body.
abbrev pub dual_at : (derivatives : List (Option ℕ)) → (body : ℕ) → Option ℕ
dual_at derivatives body = of_both add_up (Some 256) (value_at derivatives body)

-- A dual sweep: each class gets 256 units and the derivative of its body along the old vector.
abbrev pub sweep_dual : Setting → (values : List (Option ℕ)) → (d : List ℕ) → Option (List ℕ)
sweep_dual t values d = all_values (map (dual_at (derivatives_up t values d)) t.spec.bodies)
