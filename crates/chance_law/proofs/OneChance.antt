-- An object, x and the bounds of its class have one pair of bounds of the chance.
use Rattle.std.proofs.Common.{◌≡◌, ℕ, zero, suc, List, [], ◌∷◌, sym, subst, ◌∙◌}
use Rattle.bz_model.specs.declared.cell.Bounds.{Bounds}
use Rattle.bz_model.specs.Fraction.{Fraction}
use Rattle.bz_model.specs.Object.{Object}
use Rattle.chance_law.specs.declared.scaled.Scaled.{Scaled}
use Rattle.chance_law.specs.declared.scaled.ChanceBounds.{ChanceBounds}
use Rattle.chance_law.specs.Scaled.{value, one, IsRoundedDown, IsRoundedUp}
use Rattle.chance_law.specs.Factors.{Factor, factors, multiplied}
use Rattle.chance_law.specs.Chance.{LeadsDown, LeadsUp, IsLowerWeight, IsUpperWeight, divided_by_units, IsLowerChance, IsUpperQuotient, IsUpperChance, AreChanceBounds}
use Rattle.chance_law.proofs.Determined.{one-rounded-down, one-rounded-up}

-- factors lead to one number
one-down : (x s : Scaled) (fs : List Factor) (t u : Scaled) → LeadsDown x s fs t → LeadsDown x s fs u → t ≡ u
one-down x s [] t u h k = sym h ∙ k
one-down x s (factor ∷ fs) t u h k =
    let same = one-rounded-down (multiplied (value x) (value s) factor) k.0 h.0 k.1 h.1 in
    one-down x h.0 fs t u h.2 (subst (λ (v : Scaled). LeadsDown x v fs u) same k.2)

one-up : (x s : Scaled) (fs : List Factor) (t u : Scaled) → LeadsUp x s fs t → LeadsUp x s fs u → t ≡ u
one-up x s [] t u h k = sym h ∙ k
one-up x s (factor ∷ fs) t u h k =
    let same = one-rounded-up (multiplied (value x) (value s) factor) k.0 h.0 k.1 h.1 in
    one-up x h.0 fs t u h.2 (subst (λ (v : Scaled). LeadsUp x v fs u) same k.2)

-- an object has one lower and one upper weight
one-lower : (x : Fraction) (o : Object) (w v : Scaled) → IsLowerWeight x o w → IsLowerWeight x o v → w ≡ v
one-lower x o w v h k =
    let same = one-rounded-down x k.rounded_x h.rounded_x k.is_rounded h.is_rounded in
    one-down h.rounded_x one (factors o) w v h.leads (subst (λ (r : Scaled). LeadsDown r one (factors o) v) same k.leads)

one-upper : (x : Fraction) (o : Object) (w v : Scaled) → IsUpperWeight x o w → IsUpperWeight x o v → w ≡ v
one-upper x o w v h k =
    let same = one-rounded-up x k.rounded_x h.rounded_x k.is_rounded h.is_rounded in
    one-up h.rounded_x one (factors o) w v h.leads (subst (λ (r : Scaled). LeadsUp r one (factors o) v) same k.leads)

one-lower-chance : (F : ℕ) (x : Fraction) (hi : ℕ) (o : Object) (c d : Scaled) → IsLowerChance F x hi o c → IsLowerChance F x hi o d → c ≡ d
one-lower-chance F x hi o c d h k =
    let same = one-lower x o k.weight h.weight k.is_weight h.is_weight in
    one-rounded-down (divided_by_units (value h.weight) F hi) c d h.is_rounded (subst (λ (w : Scaled). IsRoundedDown (divided_by_units (value w) F hi) d) same k.is_rounded)

one-quotient : (F : ℕ) (x : Fraction) (lo : ℕ) (o : Object) (c d : Scaled) → IsUpperQuotient F x lo o c → IsUpperQuotient F x lo o d → c ≡ d
one-quotient F x lo o c d h k =
    let same = one-upper x o k.weight h.weight k.is_weight h.is_weight in
    one-rounded-up (divided_by_units (value h.weight) F lo) c d h.is_rounded (subst (λ (w : Scaled). IsRoundedUp (divided_by_units (value w) F lo) d) same k.is_rounded)

one-upper-chance : (F : ℕ) (x : Fraction) (lo : ℕ) (o : Object) (c d : Scaled) → IsUpperChance F x lo o c → IsUpperChance F x lo o d → c ≡ d
one-upper-chance F x zero o c d h k = h ∙ sym k
one-upper-chance F x (suc lo) o c d h k = one-quotient F x (suc lo) o c d h k

-- an object has one pair of bounds
pub one-chance : (F : ℕ) (x : Fraction) (root : Bounds) (o : Object) (b c : ChanceBounds) → AreChanceBounds F x root o b → AreChanceBounds F x root o c → b ≡ c
one-chance F x root o b c h k =
    let lo = one-lower-chance F x root.hi o b.lo c.lo h.lower k.lower in
    let hi = one-upper-chance F x root.lo o b.hi c.hi h.upper k.upper in
    λ i. record { lo = lo i; hi = hi i }
