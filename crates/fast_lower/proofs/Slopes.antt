-- The rounded slopes of counted nodes cover the growth of their terms.
use Rattle.std.proofs.Common.{◌≡◌, ℕ, zero, suc, ◌+◌, ◌-◌, ◌*◌, ◌^◌, ◌<◌, ◌≤◌, nat_lt, List, drop, sum, Option, Some, None, option_and_then, arith, refl, subst, ltb-true, two-mul, pow-add}
use Rattle.std.specs.List.{list_all}
use Rattle.std.proofs.lemmas.List.Sums.{sum_by-cons}
use Rattle.std.proofs.Math.Nat.{mul-le-mul_right}
use Rattle.bz_model.specs.Fraction.{Fraction, AtMost, plus, times, whole, units, power, sum_from}
use Rattle.bz_model.specs.Measures.{factorial}
use Rattle.bz_model.specs.Spec.{Node}
use Rattle.fixed_enclosure.specs.Rounded.{Side, fits, if_fits, quotient_up, mul_up, seq_up}
use Rattle.fixed_enclosure.proofs.Quotients.{quotient_up-above, guarded, fitting, if_fits-same}
use Rattle.series_bounds.specs.Series.{Kind, carried, term, terms_from}
use Rattle.series_bounds.specs.ExactSums.{exact}
use Rattle.series_bounds.proofs.Fractions.{AtMost-trans, AtMost-refl, plus-mono, times-mono, zero-least, units-mono, units-plus}
use Rattle.series_bounds.proofs.Terms.{term-up}
use Rattle.series_bounds.proofs.Tails.{geometric_up}
use Rattle.series_bounds.proofs.Values.{sum_from-later, product-up}
use Rattle.series_bounds.proofs.Rules.{from_up-above}
use Rattle.rounded_map.specs.Derivative.{open_slope, slope_kind, slope_term, slope_terms, slope_ranged}
use Rattle.fast_lower.specs.Growth.{term_growth, CoversTermGrowth}

-- The node of a kind, with this part.
abbrev pub node_of_kind : Kind → ℕ → Node
node_of_kind Kind.Seq part = Node.Seq part
node_of_kind Kind.Set part = Node.Set part
node_of_kind Kind.Cyc part = Node.Cyc part

-- The product of two values that is there is at least the exact one.
pub mul-covers : (F a b v : ℕ) → mul_up F a b ≡ Some v → AtMost (times (units F a) (units F b)) (units F v)
mul-covers F a b v is = AtMost-trans (product-up F a b) (units-mono F (let same = fitting (fits (quotient_up (a * b) (2 ^ F))) (quotient_up (a * b) (2 ^ F)) is in omega arith))

-- Growths that are each at most the term before, whose sums are covered, have covered sums.
module _ (g e : ℕ → Fraction) (first : AtMost (g 0) (whole 0)) (each : (k : ℕ) → AtMost (g (suc k)) (e k)) where
  shifted : (j n : ℕ) → AtMost (sum_from g (suc j) n) (sum_from e j n)
  shifted j zero = AtMost-refl (whole 0)
  shifted j (suc n) = plus-mono (each j) (shifted (suc j) n)

  no_first : (a b : Fraction) → AtMost a (whole 0) → AtMost (plus a b) b
  no_first a b h = AtMost-trans (plus-mono h (AtMost-refl b)) (none_left b)
    where
      none_left : (b : Fraction) → AtMost (plus (whole 0) b) b
      none_left b = omega arith

  pub covered : (v : Fraction) → ((n : ℕ) → AtMost (sum_from e 0 n) v) → (low n : ℕ) → AtMost (sum_from g low n) v
  covered v sums zero zero = zero-least v
  covered v sums zero (suc n) = AtMost-trans (no_first (g 0) (sum_from g 1 n) first) (AtMost-trans (shifted 0 n) (sums n))
  covered v sums (suc l) n = AtMost-trans (shifted l n) (AtMost-trans (sum_from-later e l 0 l n (omega arith)) (sums (n + l)))

set_nat : (k f p q : ℕ) → (1 * (suc k * p)) * (f * q) ≤ (1 * p) * ((suc k * f) * (1 * q))
set_nat k f p q = omega arith

cyc_nat : (k p q : ℕ) → (1 * (suc k * p)) * (1 * q) ≤ (1 * p) * (suc k * (1 * q))
cyc_nat k p q = omega arith

-- The growth of a set's term is the term before.
set-growth : (part k : ℕ) (c : Fraction) → AtMost (term_growth (Node.Set part) c (suc k)) (exact Kind.Set c k)
set-growth part k c = record { cross = set_nat k (factorial k) (power c k).num (power c k).den }

-- The growth of a cycle's term is the power before.
cyc-growth : (part k : ℕ) (c : Fraction) → AtMost (term_growth (Node.Cyc part) c (suc k)) (exact Kind.Seq c k)
cyc-growth part k c = record { cross = cyc_nat k (power c k).num (power c k).den }

-- The growth of a sequence's term: the power before, as often as it has parts.
abbrev power_growth : Fraction → ℕ → Fraction
power_growth c k = times (whole (suc k)) (power c k)

seq-growth : (part k : ℕ) (c : Fraction) → AtMost (term_growth (Node.Seq part) c (suc k)) (power_growth c k)
seq-growth part k c = one (power_growth c k)
  where
    one : (a : Fraction) → AtMost (times (whole 1) a) a
    one a = omega arith

-- The growths of the powers sum to at most the square of what the powers sum to.
module _ (c s : Fraction) (enough : AtMost (plus (whole 1) (times c s)) s) where
  open_up : (j : ℕ) (p : Fraction) → AtMost (plus (times (whole (suc j)) p) (times (times c p) (plus (times s s) (times (whole (suc j)) s)))) (times p (plus (times (whole (suc j)) (plus (whole 1) (times c s))) (times (times c s) s)))
  open_up j p = omega arith

  take_one : (j : ℕ) (q : Fraction) → AtMost (plus (times (whole (suc j)) s) (times q s)) (plus (times (plus (whole 1) q) s) (times (whole j) s))
  take_one j q = omega arith

  pub squares : (j n : ℕ) → AtMost (sum_from (power_growth c) j n) (times (power c j) (plus (times s s) (times (whole j) s)))
  squares j zero = zero-least _
  squares j (suc n) =
      AtMost-trans (plus-mono (AtMost-refl (power_growth c j)) (squares (suc j) n))
      (AtMost-trans (open_up j (power c j))
      (times-mono (AtMost-refl (power c j))
      (AtMost-trans (plus-mono (times-mono (AtMost-refl (whole (suc j))) enough) (AtMost-refl (times (times c s) s)))
      (AtMost-trans (take_one j (times c s))
      (plus-mono (times-mono enough (AtMost-refl s)) (AtMost-refl (times (whole j) s)))))))

  square_alone : AtMost (times (whole 1) (plus (times s s) (times (whole 0) s))) (times s s)
  square_alone = omega arith

  pub square : (n : ℕ) → AtMost (sum_from (power_growth c) 0 n) (times s s)
  square n = AtMost-trans (squares 0 n) square_alone

-- The upper sequence is at least one and the part's value times it.
enough_nat : (D a v : ℕ) → D * D ≤ v * (D - a) → a < D → (1 * (D * D) + (a * v) * 1) * D ≤ v * (1 * (D * D))
enough_nat D a v h less =
    let parts : v * (D - a) + v * a ≡ v * D = omega (arith, split) in
    omega (arith, mul-le-mul_right D h, mul-le-mul_right D (le parts))
  where
    sum_is : (D - a) + a ≡ D
    sum_is = omega arith

    split : v * ((D - a) + a) ≡ v * D
    split = subst (λ d. v * ((D - a) + a) ≡ v * d) sum_is refl

    le : {m n : ℕ} → m ≡ n → m ≤ n
    le e = omega arith

seq-enough : (F a v : ℕ) → seq_up F a ≡ Some v → AtMost (plus (whole 1) (times (units F a) (units F v))) (units F v)
seq-enough F a v is =
    let g = guarded (nat_lt a (2 ^ F)) (if_fits (geometric_up F a)) is in
    let same = if_fits-same (geometric_up F a) v g.1 in
    let less = ltb-true a (2 ^ F) g.0 in
    record { cross = enough_nat (2 ^ F) a v (subst (λ w. 2 ^ F * 2 ^ F ≤ w * (2 ^ F - a)) same (omega (arith, wide, quotient_up-above (2 ^ (2 * F)) (2 ^ F - a) (omega arith)))) less }
  where
    wide : 2 ^ (2 * F) ≡ 2 ^ F * 2 ^ F
    wide = rw (two-mul, pow-add) refl

-- The slope without a high.
pub open-covers : (kind : Kind) (F part a low v : ℕ) → open_slope kind F a ≡ Some v → (n : ℕ) → AtMost (sum_from (term_growth (node_of_kind kind part) (units F a)) low n) (units F v)
open-covers Kind.Seq F part a low v is n = go (seq_up F a) refl is
  where
    go : (o : Option ℕ) → seq_up F a ≡ o → option_and_then (λ s. mul_up F s s) o ≡ Some v → AtMost (sum_from (term_growth (Node.Seq part) (units F a)) low n) (units F v)
    go None s e = absurd (cc)
    go (Some z) s e =
        AtMost-trans
        (covered (term_growth (Node.Seq part) (units F a)) (power_growth (units F a)) (AtMost-refl (whole 0)) (λ k. seq-growth part k (units F a)) (times (units F z) (units F z)) (square (units F a) (units F z) (seq-enough F a z s)) low n)
        (mul-covers F z z v e)
open-covers Kind.Set F part a low v is n = covered (term_growth (Node.Set part) (units F a)) (exact Kind.Set (units F a)) (AtMost-refl (whole 0)) (λ k. set-growth part k (units F a)) (units F v) (from_up-above Kind.Set F a 0 v (omega arith) is) low n
open-covers Kind.Cyc F part a low v is n = covered (term_growth (Node.Cyc part) (units F a)) (exact Kind.Seq (units F a)) (AtMost-refl (whole 0)) (λ k. cyc-growth part k (units F a)) (units F v) (from_up-above Kind.Seq F a 0 v (omega arith) is) low n

-- One term of the slope with a high.
times_units : (F m : ℕ) (p : Fraction) (v : ℕ) → AtMost (times (whole 1) p) (units F v) → AtMost (times (whole m) p) (units F (m * v))
times_units F m p v h = record { cross = times_nat m p.num p.den v (2 ^ F) h.cross }
  where
    times_nat : (m n d v D : ℕ) → (1 * n) * D ≤ v * (1 * d) → (m * n) * D ≤ (m * v) * (1 * d)
    times_nat m n d v D h = omega (arith, mul-le-mul_right m h)

one-covers : (kind : Kind) (F part a j : ℕ) → AtMost (term_growth (node_of_kind kind part) (units F a) (suc j)) (units F (slope_term kind (suc j) (term Side.Up (slope_kind kind) j (carried Side.Up (slope_kind kind) F a j))))
one-covers Kind.Seq F part a j = AtMost-trans (seq-growth part j (units F a)) (times_units F (suc j) (power (units F a) j) (carried Side.Up Kind.Seq F a j) (term-up Kind.Seq F a j (omega arith)))
one-covers Kind.Set F part a j = AtMost-trans (set-growth part j (units F a)) (term-up Kind.Set F a j (omega arith))
one-covers Kind.Cyc F part a j = AtMost-trans (cyc-growth part j (units F a)) (term-up Kind.Seq F a j (omega arith))

module _ (kind : Kind) (F part a : ℕ) where
  abbrev growth_here : ℕ → Fraction
  growth_here = term_growth (node_of_kind kind part) (units F a)

  abbrev terms_here : (n j : ℕ) → List ℕ
  terms_here n j = slope_terms kind (suc j) (terms_from Side.Up (slope_kind kind) F a n j (carried Side.Up (slope_kind kind) F a j))

  terms-cover : (n j t : ℕ) → t ≤ n → AtMost (sum_from growth_here (suc j) t) (units F (sum (terms_here n j)))
  terms-cover n j zero le = zero-least _
  terms-cover zero j (suc t) le = absurd (omega arith)
  terms-cover (suc n) j (suc t) le =
      let v = slope_term kind (suc j) (term Side.Up (slope_kind kind) j (carried Side.Up (slope_kind kind) F a j)) in
      let vs = terms_here n (suc j) in
      AtMost-trans (plus-mono (one-covers kind F part a j) (terms-cover n (suc j) t (omega arith)))
      (AtMost-trans (units-plus F v (sum vs)) (units-mono F (omega (arith, sum_by-cons (λ x. x) v vs))))

  dropped-cover : (d n j l t : ℕ) → l ≡ suc j + d → t ≤ n - d → AtMost (sum_from growth_here l t) (units F (sum (drop d (terms_here n j))))
  dropped-cover zero n j l t eq le =
      let here : suc j ≡ l = omega arith in
      subst (λ i. AtMost (sum_from growth_here i t) (units F (sum (terms_here n j)))) here (terms-cover n j t (omega arith))
  dropped-cover (suc d) zero j l t eq le =
      let none_left : 0 ≡ t = omega arith in
      subst (λ i. AtMost (sum_from growth_here l i) (units F 0)) none_left (zero-least _)
  dropped-cover (suc d) (suc n) j l t eq le = dropped-cover d n (suc j) l t (omega arith) (omega arith)

  no_first_here : (b : Fraction) → AtMost (plus (whole 0) b) b
  no_first_here b = omega arith

  from-low : (low high : ℕ) → AtMost (sum_from growth_here low (suc high - low)) (units F (sum (drop (low - 1) (terms_here high 0))))
  from-low zero high =
      let all : suc high ≡ suc high - 0 = omega arith in
      subst (λ n. AtMost (sum_from growth_here 0 n) (units F (sum (terms_here high 0)))) all
      (AtMost-trans (no_first_here (sum_from growth_here 1 high)) (terms-cover high 0 high (omega arith)))
  from-low (suc l) high =
      let same : l ≡ suc l - 1 = omega arith in
      subst (λ d. AtMost (sum_from growth_here (suc l) (suc high - suc l)) (units F (sum (drop d (terms_here high 0))))) same
      (dropped-cover l high 0 (suc l) (suc high - suc l) (omega arith) (omega arith))

  -- The slope of a range.
  pub slope-covers : (low : ℕ) (high : Option ℕ) (v : ℕ) → slope_ranged kind F low high a ≡ Some v → CoversTermGrowth (node_of_kind kind part) (units F a) low high (units F v)
  slope-covers low None v is = λ n. open-covers kind F part a low v is n
  slope-covers low (Some high) v is =
      let ps = terms_from Side.Up (slope_kind kind) F a high 0 (2 ^ F) in
      let total = sum (drop (low - 1) (slope_terms kind 1 ps)) in
      let g = guarded (list_all fits ps) (if_fits total) is in
      let same = if_fits-same total v g.1 in
      subst (λ w. AtMost (sum_from growth_here low (suc high - low)) (units F w)) same (from-low low high)
