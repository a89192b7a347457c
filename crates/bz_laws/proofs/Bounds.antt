-- The greater of two lower bounds is a lower bound, the lesser of two upper ones an upper one.
use Rattle.std.proofs.Common.{◌≡◌, ℕ, ◌+◌, ◌⊎◌, inl, inr, min, max, List, [], ◌∷◌, arith, sym, ◌∙◌, subst}
use Rattle.std.specs.Prelude.{sum_by}
use Rattle.std.proofs.lemmas.List.Sums.{sum_by-cons}
use Rattle.std.proofs.Math.Nat.{max-eq_left, max_comm, min-eq_left, min_comm}
use Rattle.std.proofs.Math.Decide.{dec_le}
use Rattle.bz_model.specs.Fraction.{Fraction, AtMost, plus, units}
use Rattle.bz_model.specs.Object.{Object}
use Rattle.bz_model.specs.Totals.{Above, Below, total_by}
use Rattle.bz_laws.proofs.Fractions.{AtMost-trans, AtMost-refl, plus-mono}

max_is : (a b : ℕ) → (max a b ≡ a) ⊎ (max a b ≡ b)
max_is a b = elim (dec_le b a) [ yes h ↦ inl (max-eq_left h) | no h ↦ inr (max_comm a b ∙ max-eq_left {n = b} {m = a} (omega (arith, h))) ]

-- Where distinct objects with a property total at least a / 2^F, and some at least b / 2^F, some
-- total at least the greater of the two.
pub below-max : (x : Fraction) (F a b : ℕ) (P : Object → Type 0) → Below x (units F a) P → Below x (units F b) P → Below x (units F (max a b)) P
below-max x F a b P h k = elim (max_is a b) [ inl e ↦ subst (λ v. Below x (units F v) P) (sym e) h | inr e ↦ subst (λ v. Below x (units F v) P) (sym e) k ]

min_is : (a b : ℕ) → (min a b ≡ a) ⊎ (min a b ≡ b)
min_is a b = elim (dec_le a b) [ yes h ↦ inl (min-eq_left h) | no h ↦ inr (min_comm a b ∙ min-eq_left {n = b} {m = a} (omega (arith, h))) ]

-- Where a / 2^F and b / 2^F are both upper bounds of the totals of distinct objects with a
-- property, so is the lesser of the two.
pub above-min : (x : Fraction) (F a b : ℕ) (P : Object → Type 0) → Above x (units F a) P → Above x (units F b) P → Above x (units F (min a b)) P
above-min x F a b P h k = elim (min_is a b) [ inl e ↦ subst (λ v. Above x (units F v) P) (sym e) h | inr e ↦ subst (λ v. Above x (units F v) P) (sym e) k ]

-- a number below a lower bound is one, and a number above an upper bound too
pub below-lower : (x f g : Fraction) (P : Object → Type 0) → AtMost g f → Below x f P → Below x g P
below-lower x f g P le b = record { list = b.list; sample = b.sample; reached = AtMost-trans le b.reached }

-- An upper bound of the totals of distinct objects with a property may be replaced by any greater
-- fraction.
pub above-higher : (x f g : Fraction) (P : Object → Type 0) → AtMost f g → Above x f P → Above x g P
above-higher x f g P le a = record { holds = λ os s. AtMost-trans (a.holds os s) le }

units_plus : (F a b : ℕ) → AtMost (units F (a + b)) (plus (units F a) (units F b))
units_plus F a b = omega arith

units_plus' : (F a b : ℕ) → AtMost (plus (units F a) (units F b)) (units F (a + b))
units_plus' F a b = omega arith

-- units add up as their numbers do
pub units_sum : (F : ℕ) (g : ℕ → ℕ) (parts : List ℕ) → AtMost (units F (sum_by g parts)) (total_by (λ p. units F (g p)) parts)
units_sum F g [] = omega arith
units_sum F g (p ∷ parts) = rw sum_by-cons (AtMost-trans (units_plus F (g p) (sum_by g parts)) (plus-mono (AtMost-refl (units F (g p))) (units_sum F g parts)))

-- The total of values g p / 2^F over the parts is at most the value of the sum of the numbers g p.
pub units_sum' : (F : ℕ) (g : ℕ → ℕ) (parts : List ℕ) → AtMost (total_by (λ p. units F (g p)) parts) (units F (sum_by g parts))
units_sum' F g [] = omega arith
units_sum' F g (p ∷ parts) = rw sum_by-cons (AtMost-trans (plus-mono (AtMost-refl (units F (g p))) (units_sum' F g parts)) (units_plus' F (g p) (sum_by g parts)))
