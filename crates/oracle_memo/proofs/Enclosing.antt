-- The bounds of the levels enclose the values of the nodes, and only narrow.
use Rattle.std.proofs.Common.{◌≡◌, ℕ, zero, suc, ◌<◌, ◌≤◌, max, min, List, [], length, Option, Some, None, sym, ap, subst, ◌∙◌, arith}
use Rattle.std.specs.Prelude.{slice_index, unwrap_or}
use Rattle.bz_model.specs.Fraction.{Fraction, units, ratio}
use Rattle.bz_model.specs.Spec.{Spec}
use Rattle.bz_model.specs.Object.{Belongs}
use Rattle.bz_model.specs.Totals.{Above, Below}
use Rattle.bz_model.specs.Oracle.{Encloses}
use Rattle.bz_laws.proofs.Bounds.{below-max, above-min}
use Rattle.bz_laws.proofs.Sweeps.{below-zero}
use Rattle.class_system.specs.Sound.{IsSound}
use Rattle.class_system.specs.NodeResults.{ranged_nodes}
use Rattle.class_system.proofs.Results.{length-node_results, length-zip}
use Rattle.fixed_enclosure.specs.Rounded.{greatest}
use Rattle.rounded_map.specs.RoundedMap.{Setting, setting, value_at, repeated, values_down, node_value_up, values_up, sweep_up, IsPostFixed, IsFirstMissing}
use Rattle.rounded_map.specs.Bounding.{AreBelow}
use Rattle.rounded_map.proofs.Bounding.{values-above, values-below, post_fixed-above, sweeps-reached}
use Rattle.rounded_map.proofs.EachValued.{each-value}
use Rattle.rounded_map.proofs.MapMonotone.{sweeps_up-post_fixed}
use Rattle.kleene_lower.specs.Lower.{zeros}
use Rattle.kleene_lower.proofs.Advance.{length-zeros, swept-below}
use Rattle.oracle_memo.specs.Levels.{sweeps_at, level_down_from, level_up, lesser_value, bound_down_from, bound_up, level_bounds_from, level_bounds, LieWithin}

-- A value that is there, and bounds what the objects of a node total.
pub record IsBound (s : Spec) (x : Fraction) (F e : ℕ) (o : Option ℕ) : Type 0 where
  pub value : ℕ
  pub is_there : o ≡ Some value
  pub above : Above x (units F value) (Belongs s e)

module _ (s : Spec) (x : Fraction) (F : ℕ) (sound : IsSound s) where
  abbrev at : Setting
  at = setting s x.num x.den F

  module _ (start : List ℕ) (lengths : length start ≡ length s.bodies) (below : AreBelow s x F start) where
    -- The lower bounds are reached.
    pub lower-reached : (level e : ℕ) → e < length s.nodes → Below x (units F (bound_down_from at start level e)) (Belongs s e)
    unfolding bound_down_from level_down_from
    lower-reached zero e within = below-zero x F (Belongs s e)
    lower-reached (suc level) e within =
        below-max x F (bound_down_from at start level e) (slice_index (values_down at (level_down_from at start (suc level))) e) (Belongs s e) (lower-reached level e within)
        ((values-below s x F sound (level_down_from at start (suc level)) (swept-below s x F start sound lengths below (sweeps_at (suc level)))).at e within)

    pub lower-rises : (level e : ℕ) → bound_down_from at start level e ≤ bound_down_from at start (suc level) e
    unfolding bound_down_from
    lower-rises level e = omega arith

  module _ (bits : 0 < F) (base : List ℕ) (fixed : IsPostFixed at base) where
    -- At each level's vector each node has an upper value, and it bounds.
    upper-valued : (level e : ℕ) → e < length s.nodes → IsBound s x F e (value_at (values_up at (level_up at base level)) e)
    unfolding level_up
    upper-valued level e within =
        let v = repeated (sweep_up at) (sweeps_at level) base in
        let swept : IsPostFixed at v = sweeps_up-post_fixed at (sweeps_at level) base bits fixed in
        let has = each-value s x F sound v swept e within in
        record {
          value = has.0;
          is_there = has.1;
          above = (values-above s x F sound v (post_fixed-above s x F sound v swept)).at e has.0 has.1;
        }

    -- So at each level each node has an upper bound.
    upper-bounds : (level e : ℕ) → e < length s.nodes → IsBound s x F e (bound_up at base (suc level) e)
    unfolding bound_up
    upper-bounds zero e within = upper-valued (suc zero) e within
    upper-bounds (suc level) e within =
        let a = upper-bounds level e within in
        let b = upper-valued (suc (suc level)) e within in
        record {
          value = min a.value b.value;
          is_there = ap (λ o. lesser_value o (value_at (values_up at (level_up at base (suc (suc level)))) e)) a.is_there ∙ ap (lesser_value (Some a.value)) b.is_there;
          above = above-min x F a.value b.value (Belongs s e) a.above b.above;
        }

    -- and it is the one in the table
    pub upper-there : (start : List ℕ) (level e : ℕ) → 1 ≤ level → e < length s.nodes → (v : ℕ) × (bound_up at base level e ≡ Some v) × ((level_bounds_from at start base level e).hi ≡ v)
    upper-there start zero e some within = absurd (omega arith)
    upper-there start (suc level) e some within = let a = upper-bounds level e within in (a.value, a.is_there, ap (λ o. unwrap_or o greatest) a.is_there)

    pub enclosed-from : (start : List ℕ) → length start ≡ length s.bodies → AreBelow s x F start → (level e : ℕ) → 1 ≤ level → e < length s.nodes → Encloses s x F e (level_bounds_from at start base level e)
    enclosed-from start lengths below zero e some within = absurd (omega arith)
    enclosed-from start lengths below (suc level) e some within =
        let a = upper-bounds level e within in
        record {
          reached = lower-reached start lengths below (suc level) e within;
          above = subst (λ v. Above x (units F v) (Belongs s e)) (sym (ap (λ o. unwrap_or o greatest) a.is_there)) a.above;
        }

    pub enclosed : (level e : ℕ) → 1 ≤ level → e < length s.nodes → Encloses s x F e (level_bounds at base level e)
    enclosed level e some within = enclosed-from (zeros at) (length-zeros at) (sweeps-reached s x F sound 0) level e some within

    drawn : (level e v w : ℕ) → bound_up at base (suc level) e ≡ Some v → value_at (values_up at (level_up at base (suc (suc level)))) e ≡ Some w → bound_up at base (suc (suc level)) e ≡ Some (min v w)
    unfolding bound_up
    drawn level e v w p q = ap (λ o. lesser_value o (value_at (values_up at (level_up at base (suc (suc level)))) e)) p ∙ ap (lesser_value (Some v)) q

    upper-falls : (level e : ℕ) → e < length s.nodes → unwrap_or (bound_up at base (suc (suc level)) e) greatest ≤ unwrap_or (bound_up at base (suc level) e) greatest
    upper-falls level e within =
        let a = upper-bounds level e within in
        let b = upper-bounds (suc level) e within in
        let c = upper-valued (suc (suc level)) e within in
        let before : unwrap_or (bound_up at base (suc level) e) greatest ≡ a.value = ap (λ o. unwrap_or o greatest) a.is_there in
        let after : unwrap_or (bound_up at base (suc (suc level)) e) greatest ≡ min a.value c.value = ap (λ o. unwrap_or o greatest) (drawn level e a.value c.value a.is_there c.is_there) in
        omega arith

    pub narrower-from : (start : List ℕ) → length start ≡ length s.bodies → AreBelow s x F start → (level e : ℕ) → 1 ≤ level → e < length s.nodes → LieWithin (level_bounds_from at start base (suc level) e) (level_bounds_from at start base level e)
    narrower-from start lengths below zero e some within = absurd (omega arith)
    narrower-from start lengths below (suc level) e some within = record { lo = lower-rises start lengths below (suc level) e; hi = upper-falls level e within }

    pub narrower : (level e : ℕ) → 1 ≤ level → e < length s.nodes → LieWithin (level_bounds at base (suc level) e) (level_bounds at base level e)
    narrower level e some within = narrower-from (zeros at) (length-zeros at) (sweeps-reached s x F sound 0) level e some within

-- The same at the parts of a fraction, of which the denominator is at least 1.
at_least_one : (d : ℕ) → 1 ≤ d → max d 1 ≡ d
at_least_one d h = omega arith

-- For a sound specification, F and den positive, a post-fixed base and a start below the classes'
-- totals, a node's bounds from level 1 on enclose its value.
pub enclosed-at : (s : Spec) (num den F : ℕ) (start base : List ℕ) → IsSound s → 1 ≤ den → 0 < F → length start ≡ length s.bodies → AreBelow s (ratio num den) F start → IsPostFixed (setting s num den F) base → (level e : ℕ) → 1 ≤ level → e < length s.nodes → Encloses s (ratio num den) F e (level_bounds_from (setting s num den F) start base level e)
enclosed-at s num den F start base sound positive bits lengths below fixed level e some within =
    subst (λ d. Encloses s (ratio num den) F e (level_bounds_from (setting s num d F) start base level e)) (at_least_one den positive)
    (enclosed-from s (ratio num den) F sound bits base (subst (λ d. IsPostFixed (setting s num d F) base) (sym (at_least_one den positive)) fixed) start lengths below level e some within)

-- At a post-fixed vector no node lacks an upper value.
missing-past : (n : ℕ) (o : Option ℕ) → o ≡ None → (v : ℕ) → o ≡ Some v → ⊥
missing-past n o none v there = cc

length-values : (s : Spec) (num den F : ℕ) → IsSound s → (classes : List ℕ) → length (values_up (setting s num den F) classes) ≡ length s.nodes
length-values s num den F sound classes = length-node_results (node_value_up (setting s num den F) classes) [] (ranged_nodes s) ∙ omega (arith, length-zip s.nodes s.ranges sound.ranges.lengths)

-- For a sound specification and a positive denominator, no node's upper value is missing at a
-- post-fixed vector.
pub none_missing : (s : Spec) (num den F : ℕ) → IsSound s → 1 ≤ den → (classes : List ℕ) → IsPostFixed (setting s num den F) classes → (e : ℕ) → IsFirstMissing (values_up (setting s num den F) classes) e → ⊥
none_missing s num den F sound positive classes fixed e missing =
    let there = each-value s (ratio num den) F sound classes (subst (λ d. IsPostFixed (setting s num d F) classes) (sym (at_least_one den positive)) fixed) e (subst (λ n. e < n) (length-values s num den F sound classes) missing.within) in
    let same : value_at (values_up (setting s num (max den 1) F) classes) e ≡ Some there.0 = there.1 in
    missing-past e (value_at (values_up (setting s num den F) classes) e) missing.missing there.0 (subst (λ d. value_at (values_up (setting s num d F) classes) e ≡ Some there.0) (at_least_one den positive) same)
