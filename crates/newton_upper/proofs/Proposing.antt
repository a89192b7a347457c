-- Proposals, one step after another.
use Rattle.std.proofs.Common.{◌≡◌, ℕ, zero, suc, ◌+◌, ◌^◌, ◌<◌, ◌≤◌, List, [], ◌∷◌, ◌++◌, map, Option, Some, None, refl, sym, ap, subst, ◌∙◌, arith, ⊎_elim}
use Rattle.std.specs.Prelude.{option_map, option_and_then}
use Rattle.std.proofs.lemmas.Bool.{cases_lt}
use Rattle.std.proofs.lemmas.Option.{slice_get_within}
use Rattle.class_system.proofs.Growth.{Each-more}
use Rattle.class_system.specs.Each.{Each}
use Rattle.rounded_map.specs.RoundedMap.{Setting, IsPostFixed}
use Rattle.newton_upper.specs.BaseRule.{proposal, proposals, fixed_proposal, proposed_base, base_of, IsTrial, HasNoUpper}
use Rattle.newton_upper.specs.Below.{or_else, those_below, first_below}
use Rattle.newton_upper.specs.Candidates.{swept_down, if_post_fixed, candidate_base}
use Rattle.newton_upper.specs.Newton.{newton_step, newton_at}
use Rattle.newton_upper.specs.declared.newton.Newton.{Newton}
use Rattle.newton_upper.specs.declared.trials.Trial.{Trial}
use Rattle.newton_upper.proofs.FixedTest.{passes}
use Rattle.newton_upper.proofs.ResultsBelow.{first-found, first-rest, those-rest}

-- A list with one more element.
pub map-push : {A B : Type 0} (f : A → B) (xs : List A) (x : A) → map f (xs ++ x ∷ []) ≡ map f xs ++ f x ∷ []
map-push f [] x = refl
map-push f (y ∷ xs) x = ap (λ (ys : List _). f y ∷ ys) (map-push f xs x)

-- If each item of a list has a property, and so has one more item, then each item has it after that
-- one is put at the end.
pub each-push : {X : Type 0} (P : X → Type 0) (xs ys : List X) (x : X) → ys ≡ xs ++ x ∷ [] → Each P xs → P x → Each P ys
each-push P xs ys x pushed each last = subst (Each P) (sym pushed) (Each-more P xs x each last)

-- Whatever the property, each item of an empty list has it.
pub each-none : {X : Type 0} (P : X → Type 0) (xs : List X) → xs ≡ [] → Each P xs
each-none P xs empty = subst (Each P) (sym empty) (record { at = λ i x is. absurd (omega (arith, slice_get_within [] i x is)) })

module _ (t : Setting) where
  pub at-start : (y : List ℕ) → y ≡ swept_down t (4 ^ 6) → newton_step t y ≡ newton_at t 0
  unfolding newton_at
  at-start y is = ap (newton_step t) is

  -- The step after one that has a result, and those after one that has none.
  pub at-next : (i more : ℕ) (y : List ℕ) (n : Newton) → more ≡ i + 1 → newton_step t y ≡ newton_at t i → newton_step t y ≡ Some n → newton_step t n.next ≡ newton_at t more
  unfolding newton_at
  at-next i more y n one here there =
      let next : more ≡ suc i = omega arith in
      sym (ap (newton_at t) next ∙ ap (option_and_then (λ (m : Newton). newton_step t m.next)) (sym here ∙ there))

  pub at-none : (i : ℕ) → newton_at t i ≡ None → (k : ℕ) → i ≤ k → newton_at t k ≡ None
  unfolding newton_at
  at-none i none zero later = let same : 0 ≡ i = omega arith in ap (newton_at t) same ∙ none
  at-none i none (suc k) later = ⊎_elim
      (λ below. let same : suc k ≡ i = omega arith in ap (newton_at t) same ∙ none)
      (λ within. ap (option_and_then (λ (m : Newton). newton_step t m.next)) (at-none i none k within))
      (cases_lt k i)

  pub proposal-is : (i : ℕ) (n : Newton) → newton_at t i ≡ Some n → proposal t i ≡ Some n.proposal
  unfolding proposal
  proposal-is i n there = ap (option_map (λ (m : Newton). m.proposal)) there

  proposal-none : (i : ℕ) → newton_at t i ≡ None → proposal t i ≡ None
  unfolding proposal
  proposal-none i none = ap (option_map (λ (m : Newton). m.proposal)) none

  pub fixed-is : (i : ℕ) (o r : Option (List ℕ)) → proposal t i ≡ o → if_post_fixed t o ≡ r → fixed_proposal t i ≡ r
  unfolding fixed_proposal
  fixed-is i o r there is = ap (if_post_fixed t) there ∙ is

  -- No candidate and no proposal is post-fixed.
  pub no-upper : (trials : List Trial) (i : ℕ) → candidate_base t ≡ None → first_below (fixed_proposal t) i ≡ None → map (λ (trial : Trial). trial.values) trials ≡ those_below (proposal t) i → Each (IsTrial t) trials → i ≤ 16 → ((k : ℕ) → i ≤ k → k < 16 → newton_at t k ≡ None) → HasNoUpper t trials
  unfolding base_of proposed_base proposals
  no-upper trials i none so_far in_order each few rest = record {
    no_base = ap (λ (o : Option (List ℕ)). or_else o (first_below (fixed_proposal t) 16)) none ∙ first-rest (fixed_proposal t) i 16 so_far (λ k later below. fixed-is k None None (proposal-none k (rest k later below)) refl) few;
    in_order = in_order ∙ sym (those-rest (proposal t) i 16 (λ k later below. proposal-none k (rest k later below)) few);
    each = each;
  }

  -- The base is the first post-fixed candidate or, where none is, the first post-fixed proposal.
  pub base-candidate : (v : List ℕ) → candidate_base t ≡ Some v → base_of t ≡ Some v
  unfolding base_of
  base-candidate v found = ap (λ (o : Option (List ℕ)). or_else o (proposed_base t)) found

  pub base-proposal : (i : ℕ) (n : Newton) → candidate_base t ≡ None → first_below (fixed_proposal t) i ≡ None → newton_at t i ≡ Some n → IsPostFixed t n.proposal → i < 16 → base_of t ≡ Some n.proposal
  unfolding base_of proposed_base
  base-proposal i n none so_far there fixed few =
      ap (λ (o : Option (List ℕ)). or_else o (first_below (fixed_proposal t) 16)) none
      ∙ first-found (fixed_proposal t) i 16 n.proposal so_far (fixed-is i (Some n.proposal) (Some n.proposal) (proposal-is i n there) (passes t n.proposal fixed)) few
