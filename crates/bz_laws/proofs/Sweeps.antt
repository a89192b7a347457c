-- Sweeps: lower ones from zero are reached, upper ones keep bounds from above.
use Rattle.std.proofs.Common.{◌≡◌, ℕ, zero, suc, min, arith, sym, subst, Some}
use Rattle.std.specs.Prelude.{Bool, IsTrue}
use Rattle.bz_model.specs.Fraction.{Fraction, units, whole}
use Rattle.bz_model.specs.Spec.{Spec, body_of}
use Rattle.bz_model.specs.Object.{Object, Belongs}
use Rattle.bz_model.specs.Totals.{Above, Below}
use Rattle.bz_laws.specs.Sound.{IsLaidOut}
use Rattle.bz_laws.specs.Values.{Covers, AreLowerSweeps}
use Rattle.bz_laws.proofs.Samples.{below-none}
use Rattle.bz_laws.proofs.Bounds.{below-lower, below-max, above-min}
use Rattle.bz_laws.proofs.Values.{covers-belongs, reached-belongs}

-- 0 is reached by the empty list
pub below-zero : (x : Fraction) (F : ℕ) (P : Object → Type 0) → Below x (units F 0) P
below-zero x F P = below-lower x (whole 0) (units F 0) P (omega arith) below-none

-- the entries after n lower sweeps from zero
pub lower-swept : (s : Spec) → IsLaidOut s → (x : Fraction) (F : ℕ) (entry value : ℕ → ℕ → ℕ) → AreLowerSweeps s x F entry value → (n c body : ℕ) → body_of s c ≡ Some body → Below x (units F (entry n c)) (Belongs s body)
lower-swept s sound x F entry value sweeps zero c body at = subst (λ v. Below x (units F v) (Belongs s body)) (sym (sweeps.zero c)) (below-zero x F (Belongs s body))
lower-swept s sound x F entry value sweeps (suc n) c body at =
    subst (λ v. Below x (units F v) (Belongs s body)) (sym (sweeps.greater n c body at))
    (below-max x F (entry n c) (value n body) (Belongs s body) (lower-swept s sound x F entry value sweeps n c body at)
    (reached-belongs s sound.below x (λ d. units F (entry n d)) (λ e. units F (value n e)) (sweeps.reached n) sound.classes (lower-swept s sound x F entry value sweeps n) body (sound.bodies c body at)))

-- an upper sweep of entries that bound the classes
pub upper-swept : (s : Spec) → IsLaidOut s → (x : Fraction) (F : ℕ) (told : ℕ → Bool) (entry value : ℕ → ℕ) → Covers s x told (λ c. units F (entry c)) (λ e. units F (value e))
    → ((c body : ℕ) → body_of s c ≡ Some body → Above x (units F (entry c)) (Belongs s body))
    → (c body : ℕ) → body_of s c ≡ Some body → IsTrue (told body) → Above x (units F (min (entry c) (value body))) (Belongs s body)
upper-swept s sound x F told entry value cover up c body at t =
    above-min x F (entry c) (value body) (Belongs s body) (up c body at)
    (covers-belongs s sound.below x (λ d. units F (entry d)) (λ e. units F (value e)) told cover up body t)
