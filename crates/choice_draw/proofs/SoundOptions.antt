-- What is decided by sound options: the ideal option of every number of the cell, or that none up to the room is ideal.
use Rattle.std.proofs.Common.{◌≡◌, ℕ, ◌+◌, ◌-◌, ◌^◌, ◌<◌, ◌≤◌, inl, inr, arith, sym, ap, subst, true, Option, Some, None, List, [], ◌∷◌, ⊎_elim}
use Rattle.std.proofs.lemmas.Bool.{leb-true, eqb-true, or_cases, cases_lt}
use Rattle.bz_model.specs.declared.cell.Cell.{Cell}
use Rattle.bz_model.specs.Fraction.{Fraction, AtMost, plus, times, units, one_in}
use Rattle.bz_model.specs.Spec.{Spec}
use Rattle.bz_model.specs.Object.{Object, Belongs}
use Rattle.bz_model.specs.Totals.{Above, Below, IsSample, total}
use Rattle.bz_model.specs.Ideal.{option_of, Before, Upto, IsIdealOption, IsGreatestOption}
use Rattle.bz_model.specs.Cell.{IsInCell}
use Rattle.bz_model.specs.Oracle.{Encloses}
use Rattle.bz_laws.proofs.Weights.{bound-pos}
use Rattle.bz_laws.proofs.Decide.{passes}
use Rattle.bz_laws.proofs.Options.{none_earlier, none_up_to}
use Rattle.choice_draw.specs.Decision.{Options, Choice, is_last, begins_after, is_reached, choice_of}
use Rattle.choice_draw.proofs.Choices.{choice-taken, choice-over}

-- options are sound for a node that has an object where their bounds enclose the node and its objects up to each option, and no object has an option below the first
pub record AreSound (s : Spec) (x : Fraction) (F e : ℕ) (o : Options) : Type 0 where
  pub positive : 0 < x.num
  pub object : Object
  pub belongs : Belongs s e object
  pub whole : Encloses s x F e o.whole
  pub reached : (i : ℕ) → o.first ≤ i → i < o.first + o.count → Below x (units F (o.upto_down i)) (Upto s e i)
  pub above : (i : ℕ) → o.first ≤ i → i < o.first + o.count → Above x (units F (o.upto_up i)) (Upto s e i)
  pub none_below : (q : Object) → Belongs s e q → o.first ≤ option_of q
  pub last : (i : ℕ) → o.last ≡ Some i → IsGreatestOption s e i
  pub room : (r : ℕ) → o.room ≡ Some r → Above x (units F (o.upto_up r)) (Upto s e r)

is_last-some : (last : Option ℕ) (i : ℕ) → is_last last i ≡ true → last ≡ Some i
is_last-some None i e = let none : ⊥ = cc in absurd none
is_last-some (Some j) i e = let same : i ≡ j = eqb-true i j e in ap Some (sym same)

-- no number lies before the end of an option that no object is up to
module _ (s : Spec) (x u : Fraction) (e j : ℕ) (above : (q : Object) → Belongs s e q → j < option_of q) where
  no_list : (gap : ℕ) (gap_pos : 0 < gap) (os : List Object) → IsSample (Upto s e j) os → AtMost (plus (times u (total x [])) (one_in gap gap_pos)) (total x os) → ⊥
  no_list gap gap_pos [] sample reached = omega (arith, reached.cross, u.positive)
  no_list gap gap_pos (q ∷ os) sample reached = let up = sample.each.0 in let over = above q up.0 in omega arith

  none_of_none : ¬ (Before s x u e j)
  none_of_none before = no_list before.gap before.gap_pos before.list before.sample (before.reached [] (record { distinct = tt; each = tt }))

module _ (s : Spec) (x u : Fraction) (F e : ℕ) (o : Options) (sound : AreSound s x F e o) (cell : Cell) (inside : IsInCell cell.k cell.b u) where
  -- the option before a reached one, where there is one, ends at or before each number of the cell
  not_first : (i : ℕ) → o.first < i → is_reached o cell i ≡ true → begins_after o cell (i - 1) ≡ true
  not_first i later reached = elim (or_cases _ _ reached) [
    | inl first ↦ let same : i ≡ o.first = eqb-true i o.first first in absurd (omega arith)
    | inr after ↦ after
  ]

  none_before_reached : (i : ℕ) → o.first ≤ i → i < o.first + o.count → is_reached o cell i ≡ true → (j : ℕ) → j < i → ¬ (Before s x u e j)
  none_before_reached i from below reached j less = ⊎_elim
      (λ later. none_earlier s x u cell.k cell.b F e (i - 1) o.whole.lo (o.upto_up (i - 1)) sound.whole.reached (sound.above (i - 1) (omega arith) (omega arith)) (leb-true _ _ (not_first i later reached)) inside j (omega arith))
      (λ first. none_of_none s x u e j (λ q m. let at_least = sound.none_below q m in omega arith))
      (cases_lt o.first i)

  -- a taken option is the ideal option of each number of the cell
  pub taken-ideal : (i : ℕ) → choice_of o cell ≡ Some (Choice.Take i) → IsIdealOption s x u e i
  taken-ideal i decided =
      let taken = choice-taken o cell i decided in
      record {
        none_before = none_before_reached i taken.least.from taken.least.below taken.reached;
        here = elim (or_cases _ _ taken.least.passing) [
          | inl is_the_last ↦ inr (sound.last i (is_last-some o.last i is_the_last))
          | inr ends ↦ inl (passes s x u cell.k cell.b F e i (o.upto_down i) o.whole.hi (bound-pos x F o.whole.hi (Belongs s e) sound.object sound.positive sound.belongs sound.whole.above) sound.whole.above (sound.reached i taken.least.from taken.least.below) (leb-true _ _ ends) inside)
        ];
      }

  -- where Over is decided, no option up to the room is ideal for a number of the cell
  pub over-not_ideal : (room : ℕ) → o.room ≡ Some room → cell.k < 2 ^ cell.b → choice_of o cell ≡ Some Choice.Over → (i : ℕ) → i ≤ room → ¬ (IsIdealOption s x u e i)
  over-not_ideal room is_room below decided =
      let over = choice-over o cell decided in
      let found : o.room ≡ Some over.room = over.here in
      let same : over.room ≡ room = cc in
      none_up_to s x u cell.k cell.b F e room o.whole.lo (o.upto_up room) below sound.positive sound.object sound.belongs sound.whole.reached (sound.room room is_room) (leb-true _ _ (subst (λ r. begins_after o cell r ≡ true) same over.after)) inside
