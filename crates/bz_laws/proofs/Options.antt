-- The ideal option: at most one, and the one that a cell's two tests name.
use Rattle.std.proofs.Common.{◌≡◌, ℕ, suc, ◌*◌, ◌^◌, ◌<◌, ◌≤◌, ◌⊎◌, inl, inr, arith}
use Rattle.std.proofs.Math.Nat.{mul-le-mul_right, le_of_mul-le-mul_right}
use Rattle.std.proofs.lemmas.Nat.{pow_pos}
use Rattle.bz_model.specs.Fraction.{Fraction, units}
use Rattle.bz_model.specs.Spec.{Spec}
use Rattle.bz_model.specs.Object.{Object, Belongs}
use Rattle.bz_model.specs.Totals.{Above, Below}
use Rattle.bz_model.specs.Ideal.{Before, Upto, IsIdealOption, IsGreatestOption}
use Rattle.bz_model.specs.Cell.{IsInCell}
use Rattle.bz_laws.proofs.Fractions.{AtMost-trans}
use Rattle.bz_laws.proofs.Samples.{IsSample-weaker, AboveBy-weaker}
use Rattle.bz_laws.proofs.Weights.{bound-pos}
use Rattle.bz_laws.proofs.Decide.{passes, fails}

-- what comes before the end of an option comes before the end of each later one
pub Before-later : {s : Spec} {x u : Fraction} {e i j : ℕ} → j ≤ i → Before s x u e j → Before s x u e i
Before-later h b = record { list = b.list; sample = IsSample-weaker (λ o k. (k.0, omega arith)) b.sample; gap = b.gap; gap_pos = b.gap_pos; reached = b.reached }

-- what comes before some option's end comes before the end of the greatest one
pub Before-greatest : {s : Spec} {x u : Fraction} {e i j : ℕ} → IsGreatestOption s e i → Before s x u e j → Before s x u e i
Before-greatest g b = record { list = b.list; sample = IsSample-weaker (λ o k. (k.0, g.above o k.0)) b.sample; gap = b.gap; gap_pos = b.gap_pos; reached = b.reached }

-- an option below an ideal one isn't the greatest
not_greatest : {s : Spec} {x u : Fraction} {e i j : ℕ} → IsGreatestOption s e i → Before s x u e j ⊎ IsGreatestOption s e j → i < j → ¬ (Before s x u e i) → ⊥
not_greatest g (inl b) h never = never (Before-greatest g b)
not_greatest {i = i} {j = j} g (inr k) h never = let le = g.above k.witness k.belongs in let e = k.option in absurd (omega arith)

-- no ideal option is below another
not_below : {s : Spec} {x u : Fraction} {e i j : ℕ} → Before s x u e i ⊎ IsGreatestOption s e i → IsIdealOption s x u e j → i < j → ⊥
not_below (inl a) b h = b.none_before _ h a
not_below (inr g) b h = not_greatest g b.here h (b.none_before _ h)

-- at most one option is ideal
pub unique : (s : Spec) (x u : Fraction) (e i j : ℕ) → IsIdealOption s x u e i → IsIdealOption s x u e j → i ≡ j
unique s x u e i j a b =
    let up : i < j → ⊥ = not_below a.here b in
    let down : j < i → ⊥ = not_below b.here a in
    omega (arith, up, down)

-- the two tests name the ideal option of each number of the cell
pub decided : (s : Spec) (x u : Fraction) (k b F e i lo hi : ℕ) → 0 < x.num → (o : Object) → Belongs s e o → Above x (units F hi) (Belongs s e) → Below x (units F lo) (Upto s e i) → suc k * hi ≤ 2 ^ b * lo → ((j : ℕ) → j < i → ¬ (Before s x u e j)) → IsInCell k b u → IsIdealOption s x u e i
decided s x u k b F e i lo hi p o belongs up down h earlier cell = record {
  none_before = earlier;
  here = inl (passes s x u k b F e i lo hi (bound-pos x F hi (Belongs s e) o p belongs up) up down h cell);
}

-- where the second test fails the option before, it fails all before it
pub none_earlier : (s : Spec) (x u : Fraction) (k b F e i lo hi : ℕ) → Below x (units F lo) (Belongs s e) → Above x (units F hi) (Upto s e i) → 2 ^ b * hi ≤ k * lo → IsInCell k b u → (j : ℕ) → j < suc i → ¬ (Before s x u e j)
none_earlier s x u k b F e i lo hi down up h cell j le before = fails s x u k b F e i lo hi down up h cell (Before-later (omega arith) before)

gap_closed : (k n lo hi d : ℕ) → 0 < d → k < n → 0 < hi → lo * d ≤ hi * d → n * hi ≤ k * lo → ⊥
gap_closed k n lo hi d dp kn hp le h =
    let l : lo ≤ hi = le_of_mul-le-mul_right {k = d} le dp in
    let a : lo * k ≤ hi * k = mul-le-mul_right k l in
    let b : suc k * hi ≤ n * hi = mul-le-mul_right hi kn in
    omega arith

-- where the second test fails an option in a cell below 1, that option isn't the greatest, nor is one before it
none_greatest : (s : Spec) (x : Fraction) (k b F e i lo hi : ℕ) → k < 2 ^ b → 0 < x.num → (o : Object) → Belongs s e o → Below x (units F lo) (Belongs s e) → Above x (units F hi) (Upto s e i) → 2 ^ b * hi ≤ k * lo → (j : ℕ) → j ≤ i → ¬ (IsGreatestOption s e j)
none_greatest s x k b F e i lo hi kn p o belongs down up h j le g =
    let whole_up : Above x (units F hi) (Belongs s e) = AboveBy-weaker (λ q m. let below = g.above q m in (m, omega arith)) up in
    gap_closed k (2 ^ b) lo hi (2 ^ F) (pow_pos F) kn (bound-pos x F hi (Belongs s e) o p belongs whole_up)
    (AtMost-trans down.reached (whole_up.holds down.list down.sample)).cross h

-- then no option up to it is ideal for any number of the cell
pub none_up_to : (s : Spec) (x u : Fraction) (k b F e i lo hi : ℕ) → k < 2 ^ b → 0 < x.num → (o : Object) → Belongs s e o → Below x (units F lo) (Belongs s e) → Above x (units F hi) (Upto s e i) → 2 ^ b * hi ≤ k * lo → IsInCell k b u → (j : ℕ) → j ≤ i → ¬ (IsIdealOption s x u e j)
none_up_to s x u k b F e i lo hi kn p o belongs down up h cell j le ideal = elim ideal.here [
  | inl before ↦ none_earlier s x u k b F e i lo hi down up h cell j (omega arith) before
  | inr g ↦ none_greatest s x k b F e i lo hi kn p o belongs down up h j le g
]
