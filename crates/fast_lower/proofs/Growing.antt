-- The inequality per node kind: where b is at most a and a step d, and both a and b are at most c, what is made of b is at most what is made of a and the growth at c along d.
use Rattle.std.proofs.Common.{ℕ, zero, suc, List, [], ◌∷◌, arith}
use Rattle.std.specs.List.{AllByRecursion}
use Rattle.bz_model.specs.Fraction.{Fraction, AtMost, plus, times, whole, power, sum_from}
use Rattle.bz_model.specs.Spec.{Node}
use Rattle.bz_model.specs.Measures.{share_of}
use Rattle.bz_model.specs.Totals.{total_by}
use Rattle.bz_laws.specs.Terms.{term_of, product_by}
use Rattle.bz_laws.proofs.Fractions.{AtMost-trans, AtMost-refl, plus-mono, times-mono, times-plus, times-plus', plus-times, plus-times'}
use Rattle.fast_lower.specs.Growth.{term_growth, product_growth}
use Rattle.fast_lower.specs.Close.{IsNear}

by_one : (a : Fraction) → AtMost (times a (whole 1)) a
by_one a = omega arith

first_power : (a d : Fraction) → AtMost (plus a d) (plus (times a (whole 1)) (times (times (whole 1) (whole 1)) d))
first_power a d = omega arith

gather_power : (k : ℕ) (c p d : Fraction) → AtMost (plus (times d (times c p)) (times c (times (times (whole (suc k)) p) d))) (times (times (whole (suc (suc k))) (times c p)) d)
gather_power k c p d = omega arith

plus-left : (a b : Fraction) → AtMost a (plus a b)
plus-left a b = omega arith

plus-assoc : (a b c : Fraction) → AtMost (plus (plus a b) c) (plus a (plus b c))
plus-assoc a b c = omega arith

-- four numbers, the inner two changed about
across : (a b c d : Fraction) → AtMost (plus (plus a b) (plus c d)) (plus (plus a c) (plus b d))
across a b c d = omega arith

pub power-mono : {a b : Fraction} → AtMost a b → (k : ℕ) → AtMost (power a k) (power b k)
power-mono h zero = AtMost-refl (whole 1)
power-mono h (suc k) = times-mono h (power-mono h k)

module _ (a b c d : Fraction) (within : AtMost b (plus a d)) (a_most : AtMost a c) (b_most : AtMost b c) where
  -- a power
  pub power-grows : (k : ℕ) → AtMost (power b (suc k)) (plus (power a (suc k)) (times (times (whole (suc k)) (power c k)) d))
  power-grows zero = AtMost-trans (by_one b) (AtMost-trans within (first_power a d))
  power-grows (suc k) =
      let g = times (whole (suc k)) (power c k) in
      AtMost-trans (times-mono (AtMost-refl b) (power-grows k))
      (AtMost-trans (times-plus b (power a (suc k)) (times g d))
      (AtMost-trans (plus-mono (AtMost-trans (times-mono within (AtMost-refl (power a (suc k)))) (plus-times' a d (power a (suc k)))) (times-mono b_most (AtMost-refl (times g d))))
      (AtMost-trans (plus-assoc (times a (power a (suc k))) (times d (power a (suc k))) (times c (times g d)))
      (plus-mono (AtMost-refl (times a (power a (suc k))))
      (AtMost-trans (plus-mono (times-mono (AtMost-refl d) (power-mono a_most (suc k))) (AtMost-refl (times c (times g d)))) (gather_power k c (power c k) d))))))

  module _ (node : Node) where
    no_growth : (v : Fraction) → AtMost v (plus v (times (whole 0) d))
    no_growth v = omega arith

    regroup : (s p g : Fraction) → AtMost (times s (plus p (times g d))) (plus (times s p) (times (times s g) d))
    regroup s p g = omega arith

    -- a term
    pub term-grows : (k : ℕ) → AtMost (term_of node b k) (plus (term_of node a k) (times (term_growth node c k) d))
    term-grows zero = no_growth (term_of node a zero)
    term-grows (suc k) =
        AtMost-trans (times-mono (AtMost-refl (share_of node (suc k))) (power-grows k))
        (regroup (share_of node (suc k)) (power a (suc k)) (times (whole (suc k)) (power c k)))

    -- a sum of terms
    pub sum-grows : (j n : ℕ) → AtMost (sum_from (term_of node b) j n) (plus (sum_from (term_of node a) j n) (times (sum_from (term_growth node c) j n) d))
    sum-grows j zero = no_growth (whole 0)
    sum-grows j (suc n) =
        let ta = term_of node a j in
        let sa = sum_from (term_of node a) (suc j) n in
        let tg = term_growth node c j in
        let sg = sum_from (term_growth node c) (suc j) n in
        AtMost-trans (plus-mono (term-grows j) (sum-grows (suc j) n))
        (AtMost-trans (across ta (times tg d) sa (times sg d))
        (plus-mono (AtMost-refl (plus ta sa)) (plus-times tg sg d)))

-- a sum of terms with a greater number
pub sum-mono : (node : Node) {a b : Fraction} → AtMost a b → (j n : ℕ) → AtMost (sum_from (term_of node a) j n) (sum_from (term_of node b) j n)
sum-mono node h j zero = AtMost-refl (whole 0)
sum-mono node h j (suc n) = plus-mono (times-mono (AtMost-refl (share_of node j)) (power-mono h j)) (sum-mono node h (suc j) n)

-- the growth of a product with a greater factor before it
pub growth-mono : (value growth : ℕ → Fraction) (f g : Fraction) → AtMost f g → (parts : List ℕ) → AtMost (product_growth value growth f parts) (product_growth value growth g parts)
growth-mono value growth f g h [] = AtMost-refl (whole 0)
growth-mono value growth f g h (p ∷ ps) = plus-mono (times-mono h (AtMost-refl (times (growth p) (product_by value ps)))) (growth-mono value growth (times f (value p)) (times g (value p)) (times-mono h (AtMost-refl (value p))) ps)

module _ (value_a value_b value_c growth : ℕ → Fraction) (t : Fraction) where
  abbrev pub IsNearAt : ℕ → Type 0
  IsNearAt p = IsNear t (value_a p) (value_b p) (value_c p) (growth p)

  -- a union
  pub total-grows : (parts : List ℕ) → AllByRecursion IsNearAt parts → AtMost (total_by value_b parts) (plus (total_by value_a parts) (times t (total_by growth parts)))
  total-grows [] near = plus-left (whole 0) (times t (whole 0))
  total-grows (p ∷ ps) near =
      AtMost-trans (plus-mono near.0.within (total-grows ps near.1))
      (AtMost-trans (across (value_a p) (times t (growth p)) (total_by value_a ps) (times t (total_by growth ps)))
      (plus-mono (AtMost-refl (plus (value_a p) (total_by value_a ps))) (times-plus' t (growth p) (total_by growth ps))))

  product-most : (parts : List ℕ) → AllByRecursion IsNearAt parts → AtMost (product_by value_b parts) (product_by value_c parts)
  product-most [] near = AtMost-refl (whole 1)
  product-most (p ∷ ps) near = times-mono near.0.b_most (product-most ps near.1)

  apart : (f a e q : Fraction) → AtMost (times f (times (plus a (times t e)) q)) (plus (times (times f a) q) (times t (times f (times e q))))
  apart f a e q = omega arith

  join : (u g h : Fraction) → AtMost (plus (plus u (times t g)) (times t h)) (plus u (times t (plus h g)))
  join u g h = omega arith

  times-assoc : (f a q : Fraction) → AtMost (times (times f a) q) (times f (times a q))
  times-assoc f a q = omega arith

  -- a product, after factors whose product is f
  pub product-grows : (f : Fraction) (parts : List ℕ) → AllByRecursion IsNearAt parts → AtMost (times f (product_by value_b parts)) (plus (times f (product_by value_a parts)) (times t (product_growth value_c growth f parts)))
  product-grows f [] near = plus-left (times f (whole 1)) (times t (whole 0))
  product-grows f (p ∷ ps) near =
      let a = value_a p in
      let e = growth p in
      let qa = product_by value_a ps in
      let qb = product_by value_b ps in
      let later = product_growth value_c growth (times f (value_c p)) ps in
      let here = times f (times e (product_by value_c ps)) in
      AtMost-trans (times-mono (AtMost-refl f) (times-mono near.0.within (AtMost-refl qb)))
      (AtMost-trans (apart f a e qb)
      (AtMost-trans
      (plus-mono
      (AtMost-trans (product-grows (times f a) ps near.1)
      (plus-mono (times-assoc f a qa) (times-mono (AtMost-refl t) (growth-mono value_c growth (times f a) (times f (value_c p)) (times-mono (AtMost-refl f) near.0.a_most) ps))))
      (times-mono (AtMost-refl t) (times-mono (AtMost-refl f) (times-mono (AtMost-refl e) (product-most ps near.1)))))
      (join (times f (times a qa)) later here)))
