-- The factors of an object multiply to its weight.
use Rattle.std.proofs.Common.{◌≡◌, ℕ, zero, suc, ◌*◌, ◌≤◌, List, [], ◌∷◌, ◌++◌, arith, refl, subst}
use Rattle.std.specs.Prelude.{max}
use Rattle.bz_model.specs.Fraction.{Fraction, times, whole, ratio}
use Rattle.bz_model.specs.Object.{Object, Objects, none, more, count}
use Rattle.bz_model.specs.Object.Object.{Unit_, Dot, Pick, Tuple, SeqOf, SetOf, CycOf}
use Rattle.bz_model.specs.Measures.{weight, weights, set_share, cycle_share, factorial}
use Rattle.bz_laws.specs.Terms.{AreEqual}
use Rattle.bz_laws.proofs.Fractions.{times-mono}
use Rattle.bz_laws.proofs.Lists.{equal-refl, equal-trans, equal-sym}
use Rattle.chance_law.specs.Factors.{Factor, over_two_to, factors, all_factors, multiplied, product_from}

-- Products of equal fractions are equal.
pub equal-times : {a b c d : Fraction} → AreEqual a b → AreEqual c d → AreEqual (times a c) (times b d)
equal-times h k = record { at_most = times-mono h.at_most k.at_most; at_least = times-mono h.at_least k.at_least }

equal-multiplied : (x : Fraction) {a b : Fraction} (factor : Factor) → AreEqual a b → AreEqual (multiplied x a factor) (multiplied x b factor)
equal-multiplied x Factor.ByX h = equal-times h (equal-refl x)
equal-multiplied x (Factor.Over k) h = equal-times h (equal-refl (ratio 1 k))

product-equal : (x : Fraction) (fs : List Factor) {a b : Fraction} → AreEqual a b → AreEqual (product_from x a fs) (product_from x b fs)
product-equal x [] h = h
product-equal x (factor ∷ fs) h = product-equal x fs (equal-multiplied x factor h)

product-append : (x f : Fraction) (fs gs : List Factor) → product_from x f (fs ++ gs) ≡ product_from x (product_from x f fs) gs
product-append x f [] gs = refl
product-append x f (factor ∷ fs) gs = product-append x (multiplied x f factor) fs gs

equal-same : {a b : Fraction} → a ≡ b → AreEqual a b
equal-same {a} {b} e = subst (AreEqual a) e (equal-refl a)

times-assoc : (a b c : Fraction) → AreEqual (times (times a b) c) (times a (times b c))
times-assoc a b c = record { at_most = omega arith; at_least = omega arith }

times-one : (a : Fraction) → AreEqual a (times a (whole 1))
times-one a = record { at_most = omega arith; at_least = omega arith }

-- one part in k more
share_nat : (n d f m v : ℕ) → v ≡ m → ((n * 1) * 1) * (d * (m * f)) ≤ (n * 1) * ((d * f) * v)
share_nat n d f m v e = rw e (omega arith)

share_nat' : (n d f m v : ℕ) → v ≡ m → (n * 1) * ((d * f) * v) ≤ ((n * 1) * 1) * (d * (m * f))
share_nat' n d f m v e = rw e (omega arith)

one-more-share : (f : Fraction) (k : ℕ) → AreEqual (times (times f (set_share (suc k))) (ratio 1 (suc (suc k)))) (times f (set_share (suc (suc k))))
one-more-share f k = record {
  at_most = record { cross = share_nat f.num f.den (factorial (suc k)) (suc (suc k)) (max (suc (suc k)) 1) (omega arith) };
  at_least = record { cross = share_nat' f.num f.den (factorial (suc k)) (suc (suc k)) (max (suc (suc k)) 1) (omega arith) };
}

-- a fraction is itself times a share of 1
one-share : (f g : Fraction) → g.num ≡ 1 → g.den ≡ 1 → AreEqual f (times f g)
one-share f g e h = record { at_most = record { cross = rw (e, h) (omega arith) }; at_least = record { cross = rw (e, h) (omega arith) } }

over-two-to-is : (x f : Fraction) (k : ℕ) → AreEqual (product_from x f (over_two_to k)) (times f (set_share k))
over-two-to-is x f zero = one-share f (set_share 0) refl refl
over-two-to-is x f (suc zero) = one-share f (set_share 1) refl refl
over-two-to-is x f (suc (suc k)) =
    equal-trans (equal-same (product-append x f (over_two_to (suc k)) (Factor.Over (suc (suc k)) ∷ [])))
    (equal-trans (equal-times (over-two-to-is x f (suc k)) (equal-refl (ratio 1 (suc (suc k))))) (one-more-share f k))

same_nat : (n d m v : ℕ) → v ≡ m → (n * 1) * (d * m) ≤ (n * 1) * (d * v)
same_nat n d m v e = rw e (omega arith)

same_nat' : (n d m v : ℕ) → v ≡ m → (n * 1) * (d * v) ≤ (n * 1) * (d * m)
same_nat' n d m v e = rw e (omega arith)

cycle-share-is : (f : Fraction) (k : ℕ) → AreEqual (times f (ratio 1 k)) (times f (cycle_share k))
cycle-share-is f zero = equal-trans (equal-sym (one-share f (ratio 1 0) refl refl)) (one-share f (cycle_share 0) refl refl)
cycle-share-is f (suc k) = record {
  at_most = record { cross = same_nat f.num f.den (suc k) (max (suc k) 1) (omega arith) };
  at_least = record { cross = same_nat' f.num f.den (suc k) (max (suc k) 1) (omega arith) };
}

-- the factors of an object multiply to its weight
mutual
  pub factors-weight : (x f : Fraction) (o : Object) → AreEqual (product_from x f (factors o)) (times f (weight x o))
  factors-weight x f Unit_ = times-one f
  factors-weight x f Dot = equal-refl _
  factors-weight x f (Pick i o) = factors-weight x f o
  factors-weight x f (Tuple os) = all-factors-weight x f os
  factors-weight x f (SeqOf os) = all-factors-weight x f os
  factors-weight x f (SetOf os) =
      equal-trans (equal-same (product-append x f (over_two_to (count os)) (all_factors os)))
      (equal-trans (product-equal x (all_factors os) (over-two-to-is x f (count os)))
      (equal-trans (all-factors-weight x (times f (set_share (count os))) os) (times-assoc f (set_share (count os)) (weights x os))))
  factors-weight x f (CycOf os) =
      equal-trans (product-equal x (all_factors os) (cycle-share-is f (count os)))
      (equal-trans (all-factors-weight x (times f (cycle_share (count os))) os) (times-assoc f (cycle_share (count os)) (weights x os)))

  all-factors-weight : (x f : Fraction) (os : Objects) → AreEqual (product_from x f (all_factors os)) (times f (weights x os))
  all-factors-weight x f none = times-one f
  all-factors-weight x f (more o os) =
      equal-trans (equal-same (product-append x f (factors o) (all_factors os)))
      (equal-trans (product-equal x (all_factors os) (factors-weight x f o))
      (equal-trans (all-factors-weight x (times f (weight x o)) os) (times-assoc f (weight x o) (weights x os))))

-- from 1 they multiply to the weight itself
pub factors-from-one : (x one : Fraction) (o : Object) → AreEqual one (whole 1) → AreEqual (product_from x one (factors o)) (weight x o)
factors-from-one x one o h =
    equal-trans (product-equal x (factors o) h) (equal-trans (factors-weight x (whole 1) o) (one-times (weight x o)))
  where
    one-times : (a : Fraction) → AreEqual (times (whole 1) a) a
    one-times a = record { at_most = omega arith; at_least = omega arith }
