-- The lower weight is at most the weight, the upper one at least; and what that says of the chance.
use Rattle.std.proofs.Common.{◌≡◌, ℕ, zero, suc, ◌*◌, ◌^◌, ◌<◌, ◌≤◌, ◌⊎◌, inl, inr, List, [], ◌∷◌, arith, refl, subst}
use Rattle.std.specs.Prelude.{max}
use Rattle.std.proofs.Math.Nat.{mul-pos}
use Rattle.bz_model.specs.declared.cell.Bounds.{Bounds}
use Rattle.bz_model.specs.Fraction.{Fraction, AtMost, times, whole, ratio, units}
use Rattle.bz_model.specs.Spec.{Spec}
use Rattle.bz_model.specs.Object.{Object, Belongs}
use Rattle.bz_model.specs.Measures.{weight}
use Rattle.bz_model.specs.Totals.{Above, Below, IsSample, total}
use Rattle.bz_laws.specs.Terms.{AreEqual}
use Rattle.bz_laws.proofs.Fractions.{AtMost-trans, AtMost-refl, times-mono}
use Rattle.chance_law.specs.declared.scaled.Scaled.{Scaled}
use Rattle.chance_law.specs.declared.scaled.ChanceBounds.{ChanceBounds}
use Rattle.chance_law.specs.Scaled.{value, one, IsRoundedUp}
use Rattle.chance_law.specs.Factors.{Factor, factors, multiplied, product_from}
use Rattle.chance_law.specs.Chance.{LeadsDown, LeadsUp, IsLowerWeight, IsUpperWeight, divided_by_units, IsLowerChance, IsUpperQuotient, IsUpperChance, AreChanceBounds, IsReachedTimes, IsCertain, IsEnclosed}
use Rattle.chance_law.proofs.Multiplied.{factors-from-one}

multiplied-mono : (x y a b : Fraction) (factor : Factor) → AtMost x y → AtMost a b → AtMost (multiplied x a factor) (multiplied y b factor)
multiplied-mono x y a b Factor.ByX h k = times-mono k h
multiplied-mono x y a b (Factor.Over n) h k = times-mono k (AtMost-refl (ratio 1 n))

-- factor by factor the lower product stays below, the upper one above
pub down-below : (x : Fraction) (y : Scaled) → AtMost (value y) x → (fs : List Factor) (s t : Scaled) (f : Fraction) → AtMost (value s) f → LeadsDown y s fs t → AtMost (value t) (product_from x f fs)
down-below x y h [] s t f k l = subst (λ z. AtMost (value z) f) l k
down-below x y h (factor ∷ fs) s t f k l = down-below x y h fs l.0 t (multiplied x f factor) (AtMost-trans l.1.at_most (multiplied-mono (value y) x (value s) f factor h k)) l.2

pub up-above : (x : Fraction) (y : Scaled) → AtMost x (value y) → (fs : List Factor) (s t : Scaled) (f : Fraction) → AtMost f (value s) → LeadsUp y s fs t → AtMost (product_from x f fs) (value t)
up-above x y h [] s t f k l = subst (λ z. AtMost f (value z)) l k
up-above x y h (factor ∷ fs) s t f k l = up-above x y h fs l.0 t (multiplied x f factor) (AtMost-trans (multiplied-mono x (value y) f (value s) factor h k) l.1.at_least) l.2

-- the scaled number 1 is 1
pub value-one : AreEqual (value one) (whole 1)
value-one = record { at_most = record { cross = omega arith }; at_least = record { cross = omega arith } }

pub lower-weight : (x : Fraction) (o : Object) (w : Scaled) → IsLowerWeight x o w → AtMost (value w) (weight x o)
lower-weight x o w h = AtMost-trans (down-below x h.rounded_x h.is_rounded.at_most (factors o) one w (value one) (AtMost-refl (value one)) h.leads) (factors-from-one x (value one) o value-one).at_most

pub upper-weight : (x : Fraction) (o : Object) (w : Scaled) → IsUpperWeight x o w → AtMost (weight x o) (value w)
upper-weight x o w h = AtMost-trans (factors-from-one x (value one) o value-one).at_least (up-above x h.rounded_x h.is_rounded.at_least (factors o) one w (value one) (AtMost-refl (value one)) h.leads)

-- a quotient by v units, times v units, is what was divided
undone_nat : (n d v p q : ℕ) → q ≡ d * v → ((n * p) * v) * d ≤ n * (q * p)
undone_nat n d v p q e = rw e (omega arith)

done_nat : (n d v p q : ℕ) → q ≡ d * v → n * (q * p) ≤ ((n * p) * v) * d
done_nat n d v p q e = rw e (omega arith)

max-pos : (n : ℕ) → 0 < n → max n 1 ≡ n
max-pos n h = omega arith

pub divided-times : (f : Fraction) (F v : ℕ) → 0 < v → AreEqual (times (divided_by_units f F v) (units F v)) f
divided-times f F v h =
    let e : max (f.den * v) 1 ≡ f.den * v = max-pos (f.den * v) (mul-pos f.positive h) in
    record {
      at_most = record { cross = undone_nat f.num f.den v (2 ^ F) (max (f.den * v) 1) e };
      at_least = record { cross = done_nat f.num f.den v (2 ^ F) (max (f.den * v) 1) e };
    }

-- the lower chance times any total is at most the weight
pub lower-chance : (F : ℕ) (x : Fraction) (hi : ℕ) (o : Object) (c : Scaled) (P : Object → Type 0) → 0 < hi → IsLowerChance F x hi o c → Above x (units F hi) P → (os : List Object) → IsSample P os → AtMost (times (value c) (total x os)) (weight x o)
lower-chance F x hi o c P pos h up os sample =
    AtMost-trans (times-mono h.is_rounded.at_most (up.holds os sample))
    (AtMost-trans (divided-times (value h.weight) F hi pos).at_most (lower-weight x o h.weight h.is_weight))

-- the upper quotient times some total is at least the weight
pub upper-quotient : (F : ℕ) (x : Fraction) (lo : ℕ) (o : Object) (c : Scaled) (P : Object → Type 0) → 0 < lo → IsUpperQuotient F x lo o c → Below x (units F lo) P → (os : List Object) × IsSample P os × AtMost (weight x o) (times (value c) (total x os))
upper-quotient F x lo o c P pos h down =
    (down.list, down.sample, AtMost-trans (upper-weight x o h.weight h.is_weight) (AtMost-trans (divided-times (value h.weight) F lo pos).at_least (times-mono h.is_rounded.at_least down.reached)))

-- a list of one object totals its weight
pub alone : (x : Fraction) (o : Object) (P : Object → Type 0) → P o → (os : List Object) × IsSample P os × AtMost (weight x o) (total x os)
alone x o P h = (o ∷ [], record { distinct = (tt, tt); each = (h, tt) }, record { cross = omega arith })

-- Where bounds enclose the value of a node and the upper one isn't 0, the chance bounds made from
-- them enclose the chance of an object.
pub enclosed : (s : Spec) (F : ℕ) (x : Fraction) (root : Bounds) (e : ℕ) (o : Object) (b : ChanceBounds) → 0 < root.hi → Below x (units F root.lo) (Belongs s e) → Above x (units F root.hi) (Belongs s e) → AreChanceBounds F x root o b → IsEnclosed s x e o b
enclosed s F x root e o b pos down up h = record {
  lower = lower-chance F x root.hi o b.lo (Belongs s e) pos h.lower up;
  upper = go root.lo refl h.upper;
}
  where
    go : (lo : ℕ) → root.lo ≡ lo → IsUpperChance F x lo o b.hi → IsCertain s x e b.hi ⊎ IsReachedTimes s x e o b.hi
    go zero same k = inl (record { is_one = k; lists = λ p m. alone x p (Belongs s e) m })
    go (suc lo) same k =
        let r = upper-quotient F x (suc lo) o b.hi (Belongs s e) (omega arith) k (subst (λ v. Below x (units F v) (Belongs s e)) same down) in
        inr (record { list = r.0; sample = r.1; reached = r.2 })

-- The upper chance is 1 at a lower bound 0, and the quotient elsewhere.
pub upper-of : (F : ℕ) (x : Fraction) (lo : ℕ) (o : Object) (w c : Scaled) → IsUpperWeight x o w → (lo ≡ 0 → c ≡ one) → (0 < lo → IsRoundedUp (divided_by_units (value w) F lo) c) → IsUpperChance F x lo o c
upper-of F x zero o w c h certain up = certain refl
upper-of F x (suc lo) o w c h certain up = record { weight = w; is_weight = h; is_rounded = up (omega arith) }
