-- Rounded sums and products of values are on their sides of the exact ones.
use Rattle.std.proofs.Common.{◌≡◌, ℕ, zero, suc, ◌+◌, ◌*◌, ◌/◌, ◌^◌, ◌≤◌, List, [], ◌∷◌, map, take, sum, Option, Some, None, arith, refl, ap}
use Rattle.std.proofs.lemmas.List.Sums.{sum_by-cons}
use Rattle.bz_model.specs.Fraction.{Fraction, AtMost, times, whole, units, sum_from}
use Rattle.fixed_enclosure.specs.Rounded.{fits, quotient_up, mul_down, mul_up, add_down, add_up}
use Rattle.series_bounds.specs.Lists.{added_down, total_down, added_up, total_up, multiplied_down, product_down, multiplied_up, product_up, product_of}
use Rattle.series_bounds.proofs.Fractions.{AtMost-trans, AtMost-refl, plus-mono, times-mono, times-assoc, times-assoc', units-mono, units-plus, units-plus', zero-least}
use Rattle.series_bounds.proofs.Values.{product-up, product-down}
use Rattle.fixed_enclosure.proofs.Quotients.{fitting, saturated-le}

multiplied_down-le : (F v : ℕ) (ws : List ℕ) → AtMost (units F (multiplied_down F v ws)) (times (units F v) (product_of F ws))
multiplied_down-le F v [] = by_one (units F v)
  where
    by_one : (a : Fraction) → AtMost a (times a (whole 1))
    by_one a = omega arith
multiplied_down-le F v (w ∷ ws) =
    AtMost-trans (multiplied_down-le F (mul_down F v w) ws)
    (AtMost-trans (times-mono (AtMost-trans (units-mono F (saturated-le (v * w / 2 ^ F))) (product-down F v w)) (AtMost-refl (product_of F ws))) (times-assoc (units F v) (units F w) (product_of F ws)))

-- the lower product is at most the exact one
pub product_down-le : (F : ℕ) (vs : List ℕ) → AtMost (units F (product_down F vs)) (product_of F vs)
product_down-le F [] = omega arith
product_down-le F (v ∷ vs) = multiplied_down-le F v vs

-- all of these have values, and the exact product of them is at most z
pub record HasValues (os : List (Option ℕ)) (P : List ℕ → Type 0) : Type 0 where
  pub values : List ℕ
  pub are : os ≡ map Some values
  pub bound : P values

no_multiple : (F z : ℕ) (ws : List (Option ℕ)) → multiplied_up F None ws ≡ Some z → ⊥
no_multiple F z [] e = absurd (cc)
no_multiple F z (w ∷ ws) e = no_multiple F z ws e

multiplied_up-ge : (F v z : ℕ) (ws : List (Option ℕ)) → multiplied_up F (Some v) ws ≡ Some z → HasValues ws (λ vs. AtMost (times (units F v) (product_of F vs)) (units F z))
multiplied_up-ge F v z [] e = record { values = []; are = refl; bound = AtMost-trans (by_one (units F v)) (units-mono F (let k : v ≡ z = cc in omega arith)) }
  where
    by_one : (a : Fraction) → AtMost (times a (whole 1)) a
    by_one a = omega arith
multiplied_up-ge F v z (None ∷ ws) e = absurd (no_multiple F z ws e)
multiplied_up-ge F v z (Some w ∷ ws) e = go (λ q k. multiplied_up-ge F q z ws k) (mul_up F v w) refl e
  where
    go : ((q : ℕ) → multiplied_up F (Some q) ws ≡ Some z → HasValues ws (λ vs. AtMost (times (units F q) (product_of F vs)) (units F z))) → (o : Option ℕ) → mul_up F v w ≡ o → multiplied_up F o ws ≡ Some z → HasValues (Some w ∷ ws) (λ vs. AtMost (times (units F v) (product_of F vs)) (units F z))
    go later None m k = absurd (no_multiple F z ws k)
    go later (Some q) m k =
        let r = later q k in
        let f = fitting (fits (quotient_up (v * w) (2 ^ F))) (quotient_up (v * w) (2 ^ F)) m in
        record {
          values = w ∷ r.values;
          are = ap (λ us. Some w ∷ us) r.are;
          bound = AtMost-trans (times-assoc' (units F v) (units F w) (product_of F r.values)) (AtMost-trans (times-mono (AtMost-trans (product-up F v w) (units-mono F (omega arith))) (AtMost-refl (product_of F r.values))) r.bound);
        }

-- the upper product is at least the exact one of all values, which are there
pub product_up-ge : (F z : ℕ) (os : List (Option ℕ)) → product_up F os ≡ Some z → HasValues os (λ vs. AtMost (product_of F vs) (units F z))
product_up-ge F z [] e = record { values = []; are = refl; bound = AtMost-trans one (units-mono F (let k : 2 ^ F ≡ z = cc in omega arith)) }
  where
    one : AtMost (whole 1) (units F (2 ^ F))
    one = omega arith
product_up-ge F z (None ∷ os) e = absurd (no_multiple F z os e)
product_up-ge F z (Some v ∷ os) e = let r = multiplied_up-ge F v z os e in record { values = v ∷ r.values; are = ap (λ us. Some v ∷ us) r.are; bound = r.bound }

added_down-le : (v : ℕ) (ws : List ℕ) → added_down v ws ≤ v + sum ws
added_down-le v [] = omega arith
added_down-le v (w ∷ ws) = let h = added_down-le (add_down v w) ws in omega (arith, h, saturated-le (v + w), sum_by-cons (λ x. x) w ws)

-- the lower sum is at most the exact one
pub total_down-le : (vs : List ℕ) → total_down vs ≤ sum vs
total_down-le [] = omega arith
total_down-le (v ∷ vs) = omega (arith, added_down-le v vs, sum_by-cons (λ x. x) v vs)

no_sum : (z : ℕ) (ws : List (Option ℕ)) → added_up None ws ≡ Some z → ⊥
no_sum z [] e = absurd (cc)
no_sum z (w ∷ ws) e = no_sum z ws e

added_up-is : (v z : ℕ) (ws : List (Option ℕ)) → added_up (Some v) ws ≡ Some z → HasValues ws (λ vs. v + sum vs ≡ z)
added_up-is v z [] e = record { values = []; are = refl; bound = let k : v ≡ z = cc in omega arith }
added_up-is v z (None ∷ ws) e = absurd (no_sum z ws e)
added_up-is v z (Some w ∷ ws) e = go (λ q k. added_up-is q z ws k) (add_up v w) refl e
  where
    go : ((q : ℕ) → added_up (Some q) ws ≡ Some z → HasValues ws (λ vs. q + sum vs ≡ z)) → (o : Option ℕ) → add_up v w ≡ o → added_up o ws ≡ Some z → HasValues (Some w ∷ ws) (λ vs. v + sum vs ≡ z)
    go later None m k = absurd (no_sum z ws k)
    go later (Some q) m k =
        let r = later q k in
        let f = fitting (fits (v + w)) (v + w) m in
        let b = r.bound in
        record { values = w ∷ r.values; are = ap (λ us. Some w ∷ us) r.are; bound = omega (arith, b, f, sum_by-cons (λ x. x) w r.values) }

-- the upper sum is the exact one of all values, which are there
pub total_up-is : (z : ℕ) (os : List (Option ℕ)) → total_up os ≡ Some z → HasValues os (λ vs. sum vs ≡ z)
total_up-is z [] e = record { values = []; are = refl; bound = let k : 0 ≡ z = cc in omega arith }
total_up-is z (None ∷ os) e = absurd (no_sum z os e)
total_up-is z (Some v ∷ os) e = let r = added_up-is v z os e in let b = r.bound in record { values = v ∷ r.values; are = ap (λ us. Some v ∷ us) r.are; bound = omega (arith, b, sum_by-cons (λ x. x) v r.values) }

shifted : (g : ℕ → Fraction) (j n : ℕ) → AtMost (sum_from g (suc j) n) (sum_from (λ i. g (suc i)) j n)
shifted g j zero = AtMost-refl _
shifted g j (suc n) = plus-mono (AtMost-refl (g (suc j))) (shifted g (suc j) n)

shifted' : (g : ℕ → Fraction) (j n : ℕ) → AtMost (sum_from (λ i. g (suc i)) j n) (sum_from g (suc j) n)
shifted' g j zero = AtMost-refl _
shifted' g j (suc n) = plus-mono (AtMost-refl (g (suc j))) (shifted' g (suc j) n)

-- the number at a place of a list, in units, 0 past its end
abbrev pub units_at : (F : ℕ) → List ℕ → ℕ → Fraction
units_at F [] i = units F 0
units_at F (v ∷ vs) zero = units F v
units_at F (v ∷ vs) (suc i) = units_at F vs i

all_zero : (F j n : ℕ) → AtMost (sum_from (units_at F []) j n) (units F 0)
all_zero F j zero = omega arith
all_zero F j (suc n) = AtMost-trans (plus-mono (AtMost-refl (units F 0)) (all_zero F (suc j) n)) (units-plus F 0 0)

-- the numbers at the first n places, summed
pub front-sum : (F n : ℕ) (vs : List ℕ) → AtMost (sum_from (units_at F vs) 0 n) (units F (sum (take n vs)))
front-sum F zero vs = zero-least _
front-sum F (suc n) [] = all_zero F 0 (suc n)
front-sum F (suc n) (v ∷ vs) =
    AtMost-trans (plus-mono (AtMost-refl (units F v)) (AtMost-trans (shifted (units_at F (v ∷ vs)) 0 n) (front-sum F n vs)))
    (AtMost-trans (units-plus F v (sum (take n vs))) (units-mono F (omega (arith, sum_by-cons (λ x. x) v (take n vs)))))

pub front-sum' : (F n : ℕ) (vs : List ℕ) → AtMost (units F (sum (take n vs))) (sum_from (units_at F vs) 0 n)
front-sum' F zero vs = omega arith
front-sum' F (suc n) [] = omega arith
front-sum' F (suc n) (v ∷ vs) =
    AtMost-trans (units-mono F (omega (arith, sum_by-cons (λ x. x) v (take n vs))))
    (AtMost-trans (units-plus' F v (sum (take n vs))) (plus-mono (AtMost-refl (units F v)) (AtMost-trans (front-sum' F n vs) (shifted' (units_at F (v ∷ vs)) 0 n))))
