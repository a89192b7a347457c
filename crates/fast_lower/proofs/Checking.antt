-- What the code's tests tell, where its system is the specification and its slices are the vectors.
use Rattle.std.proofs.Common.{◌≡◌, ℕ, ◌≤◌, List, [], length, map, Some, sym, ap, subst, ◌∙◌, arith}
use Rattle.std.specs.Prelude.{slice_index}
use Rattle.bz_model.specs.Fraction.{ratio}
use Rattle.bz_model.specs.Spec.{Spec}
use Rattle.class_system.specs.NodeResults.{ranged_nodes}
use Rattle.class_system.specs.Sound.{IsSound}
use Rattle.class_system.proofs.Results.{length-node_results, length-zip}
use Rattle.fixed_enclosure.specs.UpperValues.{AreAtMost}
use Rattle.rounded_map.specs.RoundedMap.{Setting, setting, node_value_down, values_down, values_up, bodies_down, IsPostFixed}
use Rattle.rounded_map.specs.Bounding.{AreBelow}
use Rattle.rounded_map.specs.Contracting.{body_slopes, AreContracting, IsFirstNotLess}
use Rattle.rounded_map.proofs.FixedTests.{length-fixed}
use Rattle.fast_lower.specs.Contraction.{one_unit_off}
use Rattle.fast_lower.specs.FastChecks.{IsFirst, IsAboveAt, ArePositive, IsBelowUpper, IsLowVector, IsNotPreFixed, IsNotContracting, PassesAll}
use Rattle.fast_lower.proofs.Theorem.{contracted-below-at}

-- For a sound specification, there are as many lower values as nodes.
pub length-values_down : (t : Setting) → IsSound t.spec → (classes : List ℕ) → length (values_down t classes) ≡ length t.spec.nodes
length-values_down t sound classes = length-node_results (node_value_down t classes) [] (ranged_nodes t.spec) ∙ omega (arith, length-zip t.spec.nodes t.spec.ranges sound.ranges.lengths)

-- A post-fixed vector has an entry for each class of the code's system.
pub length-upper : (s founded : Spec) (num den F : ℕ) (upper other : List ℕ) → s ≡ founded → IsPostFixed (setting founded num den F) upper → other ≡ upper → length other ≡ length s.bodies
length-upper s founded num den F upper other same fixed is = ap length is ∙ length-fixed (setting founded num den F) upper fixed ∙ ap (λ (r : Spec). length r.bodies) (sym same)

module _ (s founded : Spec) (num den F : ℕ) (same : s ≡ founded) (upper low weights : List ℕ) where
  abbrev t : Setting
  t = setting founded num den F

  -- What is found first: the weights and the entries.
  pub below-upper : (ws lows us : List ℕ) → ws ≡ weights → lows ≡ low → us ≡ upper → ArePositive ws → AreAtMost lows us → IsBelowUpper upper low weights
  below-upper ws lows us ws_are lows_are us_are positive most = record {
    positive = subst (λ vs. ArePositive vs) ws_are positive;
    below = subst (λ vs. AreAtMost vs upper) lows_are (subst (λ vs. AreAtMost lows vs) us_are most);
  }

  -- The bodies' lower values.
  image : (bodies values lows : List ℕ) → bodies ≡ s.bodies → values ≡ values_down (setting s num den F) lows → lows ≡ low → map (slice_index values) bodies ≡ bodies_down t (values_down t low)
  image bodies values lows bodies_are values_are lows_are =
      ap (λ (bs : List ℕ). map (slice_index values) bs) bodies_are
      ∙ ap (λ (vs : List ℕ). map (slice_index vs) s.bodies) (values_are ∙ ap (values_down (setting s num den F)) lows_are)
      ∙ ap (λ (r : Spec). bodies_down (setting r num den F) (values_down (setting r num den F) low)) same

  pub not-pre_fixed : (bodies values lows entries : List ℕ) (c : ℕ) → bodies ≡ s.bodies → values ≡ values_down (setting s num den F) lows → lows ≡ low → entries ≡ low → IsBelowUpper upper low weights → IsFirst (IsAboveAt entries (map (slice_index values) bodies)) (length entries) c → IsNotPreFixed t upper low weights c
  not-pre_fixed bodies values lows entries c bodies_are values_are lows_are entries_are before first = record {
    below_upper = before;
    first = subst (λ es. IsFirst (IsAboveAt es (bodies_down t (values_down t low))) (length es) c) entries_are
        (subst (λ vs. IsFirst (IsAboveAt entries vs) (length entries) c) (image bodies values lows bodies_are values_are lows_are) first);
  }

  pub low-vector : (bodies values lows entries : List ℕ) → bodies ≡ s.bodies → values ≡ values_down (setting s num den F) lows → lows ≡ low → entries ≡ low → IsBelowUpper upper low weights → AreAtMost entries (map (slice_index values) bodies) → IsLowVector t upper low weights
  low-vector bodies values lows entries bodies_are values_are lows_are entries_are before most = record {
    below_upper = before;
    pre_fixed = record {
      each = subst (λ es. AreAtMost es (bodies_down t (values_down t low))) entries_are
          (subst (λ vs. AreAtMost entries vs) (image bodies values lows bodies_are values_are lows_are) most);
    };
  }

  -- The upper node values.
  pub high-values : (nodes values us : List ℕ) → nodes ≡ values → map Some values ≡ values_up (setting s num den F) us → us ≡ upper → map Some nodes ≡ values_up t upper
  high-values nodes values us nodes_are values_are us_are =
      ap (map Some) nodes_are ∙ values_are ∙ ap (values_up (setting s num den F)) us_are ∙ ap (λ (r : Spec). values_up (setting r num den F) upper) same

  pub passes-all : (nodes ws : List ℕ) → map Some nodes ≡ values_up t upper → ws ≡ weights → IsLowVector t upper low weights → AreContracting (setting s num den F) (map Some nodes) ws → PassesAll t upper low weights
  passes-all nodes ws nodes_are ws_are before contracting = record {
    low_vector = before;
    contracting = subst (λ vs. AreContracting t (values_up t upper) vs) ws_are
        (subst (λ us. AreContracting t us ws) nodes_are (subst (λ (r : Spec). AreContracting (setting r num den F) (map Some nodes) ws) same contracting));
  }

  pub not-contracting : (nodes ws : List ℕ) (c : ℕ) → map Some nodes ≡ values_up t upper → ws ≡ weights → IsLowVector t upper low weights → IsFirstNotLess (body_slopes (setting s num den F) (map Some nodes) ws) ws c → IsNotContracting t upper low weights c
  not-contracting nodes ws c nodes_are ws_are before first = record {
    low_vector = before;
    first = subst (λ vs. IsFirstNotLess (body_slopes t (values_up t upper) vs) vs c) ws_are
        (subst (λ us. IsFirstNotLess (body_slopes t us ws) ws c) nodes_are (subst (λ (r : Spec). IsFirstNotLess (body_slopes (setting r num den F) (map Some nodes) ws) ws c) same first));
  }

  -- A vector that passes all tests is Below but for one unit.
  pub all-below : IsSound s → 1 ≤ den → IsPostFixed t upper → PassesAll t upper low weights → AreBelow founded (ratio num den) F (one_unit_off low)
  all-below sound positive fixed h =
      contracted-below-at founded num den F upper low weights (subst IsSound same sound) positive fixed h.low_vector.below_upper.below h.low_vector.pre_fixed h.contracting
