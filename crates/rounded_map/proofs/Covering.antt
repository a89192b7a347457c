-- Upper values cover the nodes, and lower values are reached by them.
use Rattle.std.proofs.Common.{◌≡◌, ℕ, zero, suc, ◌-◌, ◌^◌, ◌≤◌, List, [], ◌∷◌, map, refl, sym, ap, subst, ◌∙◌, arith, Option, Some, None}
use Rattle.std.specs.Prelude.{slice_index, sum, is_some, Bool, IsTrue, option_and_then}
use Rattle.std.specs.List.{AllByRecursion}
use Rattle.std.proofs.lemmas.List.Sums.{sum_by-cons}
use Rattle.std.proofs.lemmas.Option.{option_and_then_some}
use Rattle.bz_model.specs.Fraction.{Fraction, AtMost, plus, times, whole, units, sum_from}
use Rattle.bz_model.specs.Spec.{Spec, Node, Range, node_at, range_at}
use Rattle.bz_model.specs.Totals.{total_by}
use Rattle.bz_laws.specs.Terms.{term_of, product_by}
use Rattle.bz_laws.specs.Sound.{EachPart}
use Rattle.bz_laws.specs.Values.{CoversTerms, CoversNode, Covers, IsReachedByTerms, IsReachedByNode, AreReached}
use Rattle.class_system.specs.Sound.{IsSound}
use Rattle.class_system.proofs.Soundness.{has_range, seq_range, set_range, cycle_range}
use Rattle.fixed_enclosure.proofs.Enclosing.{atom_down-below, atom_up-above}
use Rattle.series_bounds.specs.Series.{Kind, counted_up, ranged_down, ranged_up}
use Rattle.series_bounds.specs.Lists.{product_down, product_of}
use Rattle.series_bounds.specs.ExactSums.{exact, first_term}
use Rattle.series_bounds.proofs.Fractions.{AtMost-trans, AtMost-refl, plus-mono, times-mono, units-mono, units-plus, units-plus', zero-least}
use Rattle.series_bounds.proofs.Lists.{product_down-le, product_up-ge, total_down-le, total_up-is}
use Rattle.series_bounds.proofs.Rules.{part_down-reached, range_up-above, from_down-reached, from_up-above}
use Rattle.rounded_map.specs.RoundedMap.{setting, amount, value_at, node_value_down, node_value_up, values_down, values_up}
use Rattle.rounded_map.proofs.AtNode.{value_down-at, value_up-at}

module _ (F : ℕ) (vs : List (Option ℕ)) where
  abbrev pub up : ℕ → Fraction
  up p = units F (amount (value_at vs p))

  abbrev pub told : ℕ → Bool
  told p = is_some (value_at vs p)

  told-there : (p v : ℕ) → value_at vs p ≡ Some v → IsTrue (told p)
  told-there p v there = ap is_some there

  up-there : (p v : ℕ) → value_at vs p ≡ Some v → AtMost (up p) (units F v)
  up-there p v there = units-mono F (let same : amount (value_at vs p) ≡ v = ap amount there in omega arith)

  -- all parts have values where a list of them is told
  all-told : (parts values : List ℕ) → map (value_at vs) parts ≡ map Some values → AllByRecursion (λ p. IsTrue (told p)) parts
  all-told [] values same = tt
  all-told (p ∷ parts) [] same = absurd (cc)
  all-told (p ∷ parts) (v ∷ values) same =
      let first : value_at vs p ≡ Some v = cc in
      let rest : map (value_at vs) parts ≡ map Some values = cc in
      (told-there p v first, all-told parts values rest)

  sum-covered : (parts values : List ℕ) → map (value_at vs) parts ≡ map Some values → AtMost (total_by up parts) (units F (sum values))
  sum-covered [] values same = zero-least _
  sum-covered (p ∷ parts) [] same = absurd (cc)
  sum-covered (p ∷ parts) (v ∷ values) same =
      let first : value_at vs p ≡ Some v = cc in
      let rest : map (value_at vs) parts ≡ map Some values = cc in
      AtMost-trans (plus-mono (up-there p v first) (sum-covered parts values rest))
      (AtMost-trans (units-plus F v (sum values)) (units-mono F (omega (arith, sum_by-cons (λ x. x) v values))))

  product-covered : (parts values : List ℕ) → map (value_at vs) parts ≡ map Some values → AtMost (product_by up parts) (product_of F values)
  product-covered [] [] same = AtMost-refl _
  product-covered [] (v ∷ values) same = absurd (cc)
  product-covered (p ∷ parts) [] same = absurd (cc)
  product-covered (p ∷ parts) (v ∷ values) same =
      let first : value_at vs p ≡ Some v = cc in
      let rest : map (value_at vs) parts ≡ map Some values = cc in
      times-mono (up-there p v first) (product-covered parts values rest)

-- What a counted node's upper value covers.
module _ (F : ℕ) (node : Node) (kind : Kind) (same : (a : Fraction) (j n : ℕ) → sum_from (term_of node a) j n ≡ sum_from (exact kind a) j n) (a low : ℕ) (first : first_term kind ≤ low) where
  ranged-covered : (high : Option ℕ) (v : ℕ) → ranged_up kind F a low high ≡ Some v → CoversTerms node (units F a) low high (units F v)
  ranged-covered None v is = λ n. subst (λ q. AtMost q (units F v)) (sym (same (units F a) low n)) (from_up-above kind F a low v first is n)
  ranged-covered (Some high) v is = subst (λ q. AtMost q (units F v)) (sym (same (units F a) low (suc high - low))) (range_up-above kind F a low high v first is)

  ranged-reached : (high : Option ℕ) → IsReachedByTerms node (units F a) low high (units F (ranged_down kind F a low high))
  ranged-reached None = let r = from_down-reached kind F a low first in (r.terms, subst (λ q. AtMost (units F (ranged_down kind F a low None)) q) (sym (same (units F a) low r.terms)) r.reached)
  ranged-reached (Some high) = subst (λ q. AtMost (units F (ranged_down kind F a low (Some high))) q) (sym (same (units F a) low (suc high - low))) (part_down-reached kind F a low high)

-- The sums of a counted node's terms.
seq-sums : (part : ℕ) (a : Fraction) (j n : ℕ) → sum_from (term_of (Node.Seq part) a) j n ≡ sum_from (exact Kind.Seq a) j n
seq-sums part a j n = refl

set-sums : (part : ℕ) (a : Fraction) (j n : ℕ) → sum_from (term_of (Node.Set part) a) j n ≡ sum_from (exact Kind.Set a) j n
set-sums part a j n = refl

cyc-sums : (part : ℕ) (a : Fraction) (j n : ℕ) → sum_from (term_of (Node.Cyc part) a) j n ≡ sum_from (exact Kind.Cyc a) j n
cyc-sums part a j n = refl

-- One node: its parts have values, and its value covers it.
record IsCovered (x : Fraction) (F : ℕ) (classes : List ℕ) (vs : List (Option ℕ)) (node : Node) (r : Range) (v : ℕ) : Type 0 where
  parts : EachPart (λ p. IsTrue (told F vs p)) node
  covers : CoversNode x (λ c. units F (slice_index classes c)) (up F vs) node (Some r) (units F v)

counted-covered : (x : Fraction) (F : ℕ) (classes : List ℕ) (vs : List (Option ℕ)) (kind : Kind) (node : Node) (part : ℕ) (r : Range) (v : ℕ)
    → ((a : Fraction) (j n : ℕ) → sum_from (term_of node a) j n ≡ sum_from (exact kind a) j n) → first_term kind ≤ r.low
    → option_and_then (counted_up kind F r) (value_at vs part) ≡ Some v
    → IsTrue (told F vs part) × CoversTerms node (up F vs part) r.low r.high (units F v)
counted-covered x F classes vs kind node part r v same first is =
    option_and_then_some (counted_up kind F r) (value_at vs part) v is
    (λ a there given. (told-there F vs part a there, subst (λ b. CoversTerms node (units F b) r.low r.high (units F v)) (sym (ap amount there)) (ranged-covered F node kind same a r.low first r.high v given)))

at_least_one : (F v : ℕ) → 2 ^ F ≡ v → AtMost (whole 1) (units F v)
at_least_one F v same = record { cross = omega arith }

node-covered : (s : Spec) (x : Fraction) (F : ℕ) (classes : List ℕ) (vs : List (Option ℕ)) → IsSound s → (e : ℕ) (node : Node) (r : Range) (v : ℕ) → node_at s e ≡ Some node → range_at s e ≡ Some r → node_value_up (setting s x.num x.den F) classes vs node r ≡ Some v → IsCovered x F classes vs node r v
node-covered s x F classes vs sound e (Node.Empty word) r v at at_r is = record { parts = tt; covers = at_least_one F v (cc) }
node-covered s x F classes vs sound e (Node.Atom word) r v at at_r is = record { parts = tt; covers = record { cross = atom_up-above F x.num x.den v x.positive is } }
node-covered s x F classes vs sound e (Node.Class c) r v at at_r is = record { parts = tt; covers = units-mono F (let same : slice_index classes c ≡ v = cc in omega arith) }
node-covered s x F classes vs sound e (Node.Union parts) r v at at_r is =
    let h = total_up-is v (map (value_at vs) parts) is in
    record {
      parts = all-told F vs parts h.values h.are;
      covers = AtMost-trans (sum-covered F vs parts h.values h.are) (units-mono F (let same = h.bound in omega arith));
    }
node-covered s x F classes vs sound e (Node.Product parts) r v at at_r is =
    let h = product_up-ge F v (map (value_at vs) parts) is in
    record { parts = all-told F vs parts h.values h.are; covers = AtMost-trans (product-covered F vs parts h.values h.are) h.bound }
node-covered s x F classes vs sound e (Node.Seq part) r v at at_r is =
    let h = counted-covered x F classes vs Kind.Seq (Node.Seq part) part r v (seq-sums part) (seq_range s sound e part r at at_r).from_plain is in record { parts = h.0; covers = h.1 }
node-covered s x F classes vs sound e (Node.Set part) r v at at_r is =
    let h = counted-covered x F classes vs Kind.Set (Node.Set part) part r v (set-sums part) (set_range s sound e part r at at_r).from_plain is in record { parts = h.0; covers = h.1 }
node-covered s x F classes vs sound e (Node.Cyc part) r v at at_r is =
    let h = counted-covered x F classes vs Kind.Cyc (Node.Cyc part) part r v (cyc-sums part) (cycle_range s sound e part r at at_r).from_plain is in record { parts = h.0; covers = h.1 }

-- A value that is told is there.
pub told-some : (o : Option ℕ) → IsTrue (is_some o) → o ≡ Some (amount o)
told-some None t = absurd (cc)
told-some (Some v) t = refl

-- The same of a node of a specification, with its range.
record IsCoveredAt (s : Spec) (x : Fraction) (F : ℕ) (classes : List ℕ) (e : ℕ) (node : Node) : Type 0 where
  range : Range
  is_range : range_at s e ≡ Some range
  is : IsCovered x F classes (values_up (setting s x.num x.den F) classes) node range (amount (value_at (values_up (setting s x.num x.den F) classes) e))

covered-at : (s : Spec) (x : Fraction) (F : ℕ) (classes : List ℕ) → IsSound s → (e : ℕ) (node : Node) → IsTrue (told F (values_up (setting s x.num x.den F) classes) e) → node_at s e ≡ Some node → IsCoveredAt s x F classes e node
covered-at s x F classes sound e node t at =
    let vs = values_up (setting s x.num x.den F) classes in
    let r = has_range s sound e node at in
    let is : node_value_up (setting s x.num x.den F) classes vs node r.0 ≡ Some (amount (value_at vs e)) = sym (value_up-at (setting s x.num x.den F) classes sound e node r.0 at r.1) ∙ told-some (value_at vs e) t in
    record { range = r.0; is_range = r.1; is = node-covered s x F classes vs sound e node r.0 (amount (value_at vs e)) at r.1 is }

-- The upper values of the nodes cover them.
pub values-cover : (s : Spec) (x : Fraction) (F : ℕ) (classes : List ℕ) → IsSound s → Covers s x (told F (values_up (setting s x.num x.den F) classes)) (λ c. units F (slice_index classes c)) (up F (values_up (setting s x.num x.den F) classes))
values-cover s x F classes sound = record {
  parts = λ e node t at. (covered-at s x F classes sound e node t at).is.parts;
  node = λ e node t at.
      let h = covered-at s x F classes sound e node t at in
      let vs = values_up (setting s x.num x.den F) classes in
      subst (λ q. CoversNode x (λ c. units F (slice_index classes c)) (up F vs) node q (up F vs e)) (sym h.is_range) h.is.covers;
}

-- The lower values.
abbrev pub down : (F : ℕ) → List ℕ → ℕ → Fraction
down F vs p = units F (slice_index vs p)

sum-reached : (F : ℕ) (vs parts : List ℕ) → AtMost (units F (sum (map (slice_index vs) parts))) (total_by (down F vs) parts)
sum-reached F vs [] = omega arith
sum-reached F vs (p ∷ parts) =
    AtMost-trans (units-mono F (omega (arith, sum_by-cons (λ x. x) (slice_index vs p) (map (slice_index vs) parts))))
    (AtMost-trans (units-plus' F (slice_index vs p) (sum (map (slice_index vs) parts))) (plus-mono (AtMost-refl (down F vs p)) (sum-reached F vs parts)))

product-reached : (F : ℕ) (vs parts : List ℕ) → product_of F (map (slice_index vs) parts) ≡ product_by (down F vs) parts
product-reached F vs [] = refl
product-reached F vs (p ∷ parts) = ap (times (down F vs p)) (product-reached F vs parts)

node-reached : (s : Spec) (x : Fraction) (F : ℕ) (classes vs : List ℕ) → IsSound s → (e : ℕ) (node : Node) (r : Range) → node_at s e ≡ Some node → range_at s e ≡ Some r → IsReachedByNode x (λ c. units F (slice_index classes c)) (down F vs) node (Some r) (units F (node_value_down (setting s x.num x.den F) classes vs node r))
node-reached s x F classes vs sound e (Node.Empty word) r at at_r = omega arith
node-reached s x F classes vs sound e (Node.Atom word) r at at_r = record { cross = atom_down-below F x.num x.den }
node-reached s x F classes vs sound e (Node.Class c) r at at_r = AtMost-refl _
node-reached s x F classes vs sound e (Node.Union parts) r at at_r = AtMost-trans (units-mono F (total_down-le (map (slice_index vs) parts))) (sum-reached F vs parts)
node-reached s x F classes vs sound e (Node.Product parts) r at at_r = subst (λ q. AtMost (units F (product_down F (map (slice_index vs) parts))) q) (product-reached F vs parts) (product_down-le F (map (slice_index vs) parts))
node-reached s x F classes vs sound e (Node.Seq part) r at at_r = ranged-reached F (Node.Seq part) Kind.Seq (seq-sums part) (slice_index vs part) r.low (seq_range s sound e part r at at_r).from_plain r.high
node-reached s x F classes vs sound e (Node.Set part) r at at_r = ranged-reached F (Node.Set part) Kind.Set (set-sums part) (slice_index vs part) r.low (set_range s sound e part r at at_r).from_plain r.high
node-reached s x F classes vs sound e (Node.Cyc part) r at at_r = ranged-reached F (Node.Cyc part) Kind.Cyc (cyc-sums part) (slice_index vs part) r.low (cycle_range s sound e part r at at_r).from_plain r.high

-- The lower values of the nodes are reached by them.
pub values-reached : (s : Spec) (x : Fraction) (F : ℕ) (classes : List ℕ) → IsSound s → AreReached s x (λ c. units F (slice_index classes c)) (down F (values_down (setting s x.num x.den F) classes))
values-reached s x F classes sound = record {
  node = λ e node at.
      let t = setting s x.num x.den F in
      let vs = values_down t classes in
      let r = has_range s sound e node at in
      let entry = λ (c : ℕ). units F (slice_index classes c) in
      subst (λ q. IsReachedByNode x entry (down F vs) node q (down F vs e)) (sym r.1)
      (subst (λ v. IsReachedByNode x entry (down F vs) node (Some r.0) (units F v)) (sym (value_down-at t classes sound e node r.0 at r.1)) (node-reached s x F classes vs sound e node r.0 at r.1));
}
