-- The rounded derivatives of the nodes cover their growths.
use Rattle.std.proofs.Common.{◌≡◌, ℕ, List, [], ◌∷◌, ◌++◌, map, sum, refl, sym, ap, subst, ◌∙◌, arith, Option, Some, None}
use Rattle.std.specs.Prelude.{slice_index, is_some, IsTrue, option_and_then}
use Rattle.std.specs.List.{AllByRecursion}
use Rattle.std.proofs.lemmas.List.Sums.{sum_by-cons}
use Rattle.bz_model.specs.Fraction.{Fraction, AtMost, times, whole, units}
use Rattle.bz_model.specs.Spec.{Node, Range, node_at, range_at}
use Rattle.bz_model.specs.Totals.{total_by}
use Rattle.bz_laws.specs.Terms.{product_by}
use Rattle.bz_laws.specs.Sound.{EachPart}
use Rattle.class_system.specs.Sound.{IsSound}
use Rattle.class_system.proofs.Soundness.{has_range}
use Rattle.fixed_enclosure.specs.Rounded.{of_both, mul_up}
use Rattle.series_bounds.specs.Series.{Kind}
use Rattle.series_bounds.specs.Lists.{product_up, product_of}
use Rattle.series_bounds.proofs.Fractions.{AtMost-trans, AtMost-refl, plus-mono, times-mono, units-mono, units-plus, zero-least}
use Rattle.series_bounds.proofs.Lists.{product_up-ge, total_up-is}
use Rattle.rounded_map.specs.RoundedMap.{Setting, amount, value_at}
use Rattle.rounded_map.specs.Derivative.{replaced_products, slope_up, counted_derivative, derivative_up, derivatives_up}
use Rattle.rounded_map.proofs.Covering.{up, told, told-some}
use Rattle.fast_lower.specs.Growth.{product_growth, HasSlope, CoversNodeGrowth, CoversGrowth}
use Rattle.fast_lower.proofs.Growing.{growth-mono}
use Rattle.fast_lower.proofs.Slopes.{node_of_kind, mul-covers, slope-covers}
use Rattle.fast_lower.proofs.DerivativeAt.{derivative-at}

module _ (F : ℕ) (ds : List (Option ℕ)) where
  there-up : (p v : ℕ) → value_at ds p ≡ Some v → AtMost (up F ds p) (units F v)
  there-up p v there = units-mono F (let same : amount (value_at ds p) ≡ v = ap amount there in omega arith)

  all-told : (parts values : List ℕ) → map (value_at ds) parts ≡ map Some values → AllByRecursion (λ p. IsTrue (told F ds p)) parts
  all-told [] values same = tt
  all-told (p ∷ parts) [] same = absurd (cc)
  all-told (p ∷ parts) (v ∷ values) same =
      let first : value_at ds p ≡ Some v = cc in
      let rest : map (value_at ds) parts ≡ map Some values = cc in
      (ap is_some first, all-told parts values rest)

  sum-covered : (parts values : List ℕ) → map (value_at ds) parts ≡ map Some values → AtMost (total_by (up F ds) parts) (units F (sum values))
  sum-covered [] values same = zero-least _
  sum-covered (p ∷ parts) [] same = absurd (cc)
  sum-covered (p ∷ parts) (v ∷ values) same =
      let first : value_at ds p ≡ Some v = cc in
      let rest : map (value_at ds) parts ≡ map Some values = cc in
      AtMost-trans (plus-mono (there-up p v first) (sum-covered parts values rest))
      (AtMost-trans (units-plus F v (sum values)) (units-mono F (omega (arith, sum_by-cons (λ x. x) v values))))

-- The exact product of the numbers of values.
abbrev amounts : (F : ℕ) → List (Option ℕ) → Fraction
amounts F [] = whole 1
amounts F (o ∷ os) = times (units F (amount o)) (amounts F os)

amounts-there : (F : ℕ) (values : List ℕ) → amounts F (map Some values) ≡ product_of F values
amounts-there F [] = refl
amounts-there F (v ∷ values) = ap (times (units F v)) (amounts-there F values)

amounts-up : (F : ℕ) (vs : List (Option ℕ)) (parts : List ℕ) → amounts F (map (value_at vs) parts) ≡ product_by (up F vs) parts
amounts-up F vs [] = refl
amounts-up F vs (p ∷ parts) = ap (times (up F vs p)) (amounts-up F vs parts)

assoc : (a b c : Fraction) → AtMost (times (times a b) c) (times a (times b c))
assoc a b c = omega arith

from-one : (a : Fraction) → AtMost (times (whole 1) a) a
from-one a = omega arith

amounts-append : (F : ℕ) (os us : List (Option ℕ)) → AtMost (times (amounts F os) (amounts F us)) (amounts F (os ++ us))
amounts-append F [] us = from-one (amounts F us)
amounts-append F (o ∷ os) us = AtMost-trans (assoc (units F (amount o)) (amounts F os) (amounts F us)) (times-mono (AtMost-refl (units F (amount o))) (amounts-append F os us))

-- What stands at the seam of a list of values that are there is there.
seam-there : (os : List (Option ℕ)) (u : Option ℕ) (us : List (Option ℕ)) (values : List ℕ) → os ++ u ∷ us ≡ map Some values → IsTrue (is_some u)
seam-there [] u us [] same = absurd (cc)
seam-there [] u us (v ∷ values) same = let first : u ≡ Some v = cc in ap is_some first
seam-there (o ∷ os) u us [] same = absurd (cc)
seam-there (o ∷ os) u us (v ∷ values) same = let rest : os ++ u ∷ us ≡ map Some values = cc in seam-there os u us values rest

module _ (F : ℕ) (vs ds : List (Option ℕ)) where
  -- The products with one value replaced, of which each is there.
  record AreReplaced (front : List (Option ℕ)) (parts values : List ℕ) : Type 0 where
    covers : AtMost (product_growth (up F vs) (up F ds) (amounts F front) parts) (units F (sum values))
    there : AllByRecursion (λ p. IsTrue (told F ds p)) parts

  one-after : (front : List (Option ℕ)) (p : ℕ) (parts : List ℕ) (z : ℕ) → product_up F (front ++ value_at ds p ∷ map (value_at vs) parts) ≡ Some z → AtMost (times (amounts F front) (times (up F ds p) (product_by (up F vs) parts))) (units F z) × IsTrue (told F ds p)
  one-after front p parts z is =
      let os = front ++ value_at ds p ∷ map (value_at vs) parts in
      let h = product_up-ge F z os is in (
        AtMost-trans (times-mono (AtMost-refl (amounts F front)) (times-mono (AtMost-refl (up F ds p)) (subst (λ q. AtMost (product_by (up F vs) parts) q) (sym (amounts-up F vs parts)) (AtMost-refl (product_by (up F vs) parts)))))
            (AtMost-trans (amounts-append F front (value_at ds p ∷ map (value_at vs) parts))
            (subst (λ q. AtMost q (units F z)) (sym (ap (amounts F) h.are ∙ amounts-there F h.values)) h.bound)),
        seam-there front (value_at ds p) (map (value_at vs) parts) h.values h.are,
      )

  last_one : (a : Fraction) → AtMost a (times a (whole 1))
  last_one a = omega arith

  replaced-cover : (parts : List ℕ) (front : List (Option ℕ)) (values : List ℕ) → replaced_products F front (map (value_at vs) parts) (map (value_at ds) parts) ≡ map Some values → AreReplaced front parts values
  replaced-cover [] front values same = record { covers = zero-least _; there = tt }
  replaced-cover (p ∷ parts) front [] same = absurd (cc)
  replaced-cover (p ∷ parts) front (z ∷ values) same =
      let first : product_up F (front ++ value_at ds p ∷ map (value_at vs) parts) ≡ Some z = cc in
      let rest : replaced_products F (front ++ value_at vs p ∷ []) (map (value_at vs) parts) (map (value_at ds) parts) ≡ map Some values = cc in
      let here = one-after front p parts z first in
      let later = replaced-cover parts (front ++ value_at vs p ∷ []) values rest in
      let longer : AtMost (times (amounts F front) (up F vs p)) (amounts F (front ++ value_at vs p ∷ [])) =
      AtMost-trans (times-mono (AtMost-refl (amounts F front)) (last_one (up F vs p))) (amounts-append F front (value_at vs p ∷ [])) in
      record {
        covers =
            AtMost-trans (plus-mono here.0 (AtMost-trans (growth-mono (up F vs) (up F ds) (times (amounts F front) (up F vs p)) (amounts F (front ++ value_at vs p ∷ [])) longer parts) later.covers))
            (AtMost-trans (units-plus F z (sum values)) (units-mono F (omega (arith, sum_by-cons (λ x. x) z values))));
        there = (here.1, later.there);
      }

  -- A counted node's derivative that is there.
  counted-cover : (kind : Kind) (part : ℕ) (r : Range) (z : ℕ) → counted_derivative kind F r (value_at vs part) (value_at ds part) ≡ Some z → HasSlope (node_of_kind kind part) (up F vs part) (up F ds part) r.low r.high (units F z) × IsTrue (told F ds part)
  counted-cover kind part r z is = go (value_at vs part) (value_at ds part) refl refl is
    where
      along : (a d : ℕ) (o : Option ℕ) → slope_up kind F r a ≡ o → of_both (mul_up F) o (Some d) ≡ Some z → HasSlope (node_of_kind kind part) (units F a) (units F d) r.low r.high (units F z)
      along a d None slope is = absurd (cc)
      along a d (Some w) slope is = record { slope = units F w; covers = slope-covers kind F part a r.low r.high w slope; along = mul-covers F w d z is }

      no_derivative : (o : Option ℕ) → of_both (mul_up F) o None ≡ Some z → ⊥
      no_derivative None e = cc
      no_derivative (Some w) e = cc

      go : (v w : Option ℕ) → value_at vs part ≡ v → value_at ds part ≡ w → of_both (mul_up F) (option_and_then (slope_up kind F r) v) w ≡ Some z → HasSlope (node_of_kind kind part) (up F vs part) (up F ds part) r.low r.high (units F z) × IsTrue (told F ds part)
      go v None v_is w_is e = absurd (no_derivative (option_and_then (slope_up kind F r) v) e)
      go None (Some d) v_is w_is e = absurd (cc)
      go (Some a) (Some d) v_is w_is e = (
        subst (λ n. HasSlope (node_of_kind kind part) (units F n) (up F ds part) r.low r.high (units F z)) (sym (ap amount v_is))
            (subst (λ n. HasSlope (node_of_kind kind part) (units F a) (units F n) r.low r.high (units F z)) (sym (ap amount w_is)) (along a d (slope_up kind F r a) refl e)),
        ap is_some w_is,
      )

-- One node: its parts have derivatives, and its derivative covers its growth.
record IsGrown (F : ℕ) (d : List ℕ) (vs ds : List (Option ℕ)) (node : Node) (r : Range) (z : ℕ) : Type 0 where
  parts : EachPart (λ p. IsTrue (told F ds p)) node
  covers : CoversNodeGrowth (λ c. units F (slice_index d c)) (up F vs) (up F ds) node (Some r) (units F z)

node-grown : (t : Setting) (d : List ℕ) (vs ds : List (Option ℕ)) (node : Node) (r : Range) (z : ℕ) → derivative_up t vs d ds node r ≡ Some z → IsGrown t.bits d vs ds node r z
node-grown t d vs ds (Node.Empty word) r z is = record { parts = tt; covers = tt }
node-grown t d vs ds (Node.Atom word) r z is = record { parts = tt; covers = tt }
node-grown t d vs ds (Node.Class c) r z is = record { parts = tt; covers = units-mono t.bits (let same : slice_index d c ≡ z = cc in omega arith) }
node-grown t d vs ds (Node.Union parts) r z is =
    let h = total_up-is z (map (value_at ds) parts) is in
    record {
      parts = all-told t.bits ds parts h.values h.are;
      covers = AtMost-trans (sum-covered t.bits ds parts h.values h.are) (units-mono t.bits (let same = h.bound in omega arith));
    }
node-grown t d vs ds (Node.Product parts) r z is =
    let h = total_up-is z (replaced_products t.bits [] (map (value_at vs) parts) (map (value_at ds) parts)) is in
    let k = replaced-cover t.bits vs ds parts [] h.values h.are in
    record { parts = k.there; covers = AtMost-trans k.covers (units-mono t.bits (let same = h.bound in omega arith)) }
node-grown t d vs ds (Node.Seq part) r z is = let h = counted-cover t.bits vs ds Kind.Seq part r z is in record { parts = h.1; covers = h.0 }
node-grown t d vs ds (Node.Set part) r z is = let h = counted-cover t.bits vs ds Kind.Set part r z is in record { parts = h.1; covers = h.0 }
node-grown t d vs ds (Node.Cyc part) r z is = let h = counted-cover t.bits vs ds Kind.Cyc part r z is in record { parts = h.1; covers = h.0 }

module _ (t : Setting) (sound : IsSound t.spec) (vs : List (Option ℕ)) (d : List ℕ) where
  abbrev slopes : List (Option ℕ)
  slopes = derivatives_up t vs d

  -- The same of a node of a specification, with its range.
  record IsGrownAt (e : ℕ) (node : Node) : Type 0 where
    range : Range
    is_range : range_at t.spec e ≡ Some range
    is : IsGrown t.bits d vs slopes node range (amount (value_at slopes e))

  grown-at : (e : ℕ) (node : Node) → IsTrue (told t.bits slopes e) → node_at t.spec e ≡ Some node → IsGrownAt e node
  grown-at e node is_told at =
      let r = has_range t.spec sound e node at in
      let is : derivative_up t vs d slopes node r.0 ≡ Some (amount (value_at slopes e)) = sym (derivative-at t vs d sound e node r.0 at r.1) ∙ told-some (value_at slopes e) is_told in
      record { range = r.0; is_range = r.1; is = node-grown t d vs slopes node r.0 (amount (value_at slopes e)) is }

  -- The derivatives of the nodes cover their growths.
  pub derivatives-cover : CoversGrowth t.spec (told t.bits slopes) (λ c. units t.bits (slice_index d c)) (up t.bits vs) (up t.bits slopes)
  derivatives-cover = record {
    parts = λ e node is_told at. (grown-at e node is_told at).is.parts;
    node = λ e node is_told at.
        let h = grown-at e node is_told at in
        subst (λ q. CoversNodeGrowth (λ c. units t.bits (slice_index d c)) (up t.bits vs) (up t.bits slopes) node q (up t.bits slopes e)) (sym h.is_range) h.is.covers;
  }
