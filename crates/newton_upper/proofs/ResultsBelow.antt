-- Going through the numbers below n, one after another, and through steps that may have no result.
use Rattle.std.proofs.Common.{◌≡◌, ℕ, zero, suc, ◌+◌, ◌<◌, ◌≤◌, ◌⊎◌, List, [], ◌∷◌, ◌++◌, Option, Some, None, refl, sym, ap, ◌∙◌, arith, inl, inr, ⊎_elim}
use Rattle.std.specs.Prelude.{option_map, option_and_then}
use Rattle.std.proofs.lemmas.Bool.{cases_lt}
use Rattle.fixed_enclosure.specs.Rounded.{of_both, add_up}
use Rattle.rounded_map.specs.RoundedMap.{repeated}
use Rattle.newton_upper.specs.Below.{or_else, and_then_one, all_below, those_below, first_below, upper_sum_below}

-- Where each step of a list's values ends without one, so does the list.
without : {V : Type 0} (o : Option (List V)) (r : Option V) → r ≡ None → option_and_then (λ (us : List V). option_map (λ u. us ++ u ∷ []) r) o ≡ None
without None r none = refl
without (Some us) r none = ap (option_map (λ u. us ++ u ∷ [])) none

-- A number below suc m is below m, or m.
cases_suc : (n m : ℕ) → n < suc m → (n < m) ⊎ (n ≡ m)
cases_suc n m below = ⊎_elim inl (λ least. inr (omega arith)) (cases_lt n m)

next_is : (n m : ℕ) → m ≡ n + 1 → m ≡ suc n
next_is n m one = omega arith

module _ {V : Type 0} (g : ℕ → Option V) where
  -- One value more.
  pub all-more : (n m : ℕ) (vs ws : List V) (v : V) → m ≡ n + 1 → all_below g n ≡ Some vs → g n ≡ Some v → ws ≡ vs ++ v ∷ [] → all_below g m ≡ Some ws
  all-more n m vs ws v one so_far here pushed =
      ap (all_below g) (next_is n m one)
      ∙ ap (option_and_then (λ (us : List V). option_map (λ u. us ++ u ∷ []) (g n))) so_far
      ∙ ap (option_map (λ (u : V). vs ++ u ∷ [])) here
      ∙ ap (λ (us : List V). Some us) (sym pushed)

  -- A value that is missing.
  pub all-missing : (n m : ℕ) → g n ≡ None → n < m → all_below g m ≡ None
  all-missing n zero none below = absurd (omega arith)
  all-missing n (suc m) none below =
      elim (cases_suc n m below) [
        | inl less ↦ ap (option_and_then (λ (us : List V). option_map (λ u. us ++ u ∷ []) (g m))) (all-missing n m none less)
        | inr same ↦
            without (all_below g m) (g m) (ap g (sym same) ∙ none)
      ]

  -- None so far, and none here.
  pub first-more : (n m : ℕ) → m ≡ n + 1 → first_below g n ≡ None → g n ≡ None → first_below g m ≡ None
  first-more n m one so_far none = ap (first_below g) (next_is n m one) ∙ ap (λ (r : Option V). or_else r (g n)) so_far ∙ none

  -- The first one is found.
  pub first-found : (n m : ℕ) (v : V) → first_below g n ≡ None → g n ≡ Some v → n < m → first_below g m ≡ Some v
  first-found n zero v so_far here below = absurd (omega arith)
  first-found n (suc m) v so_far here below =
      elim (cases_suc n m below) [
        | inl less ↦ ap (λ (r : Option V). or_else r (g m)) (first-found n m v so_far here less)
        | inr same ↦ ap (λ (r : Option V). or_else r (g m)) (ap (first_below g) (sym same) ∙ so_far) ∙ ap g (sym same) ∙ here
      ]

  -- There is none from n on, below m.
  pub first-rest : (n m : ℕ) → first_below g n ≡ None → ((k : ℕ) → n ≤ k → k < m → g k ≡ None) → n ≤ m → first_below g m ≡ None
  first-rest n zero so_far none within = refl
  first-rest n (suc m) so_far none within =
      elim (cases_lt m n) [
        | inl above ↦ let same : n ≡ suc m = omega arith in ap (first_below g) (sym same) ∙ so_far
        | inr least ↦ ap (λ (r : Option V). or_else r (g m)) (first-rest n m so_far (λ k more below. none k more (omega arith)) least) ∙ none m least (omega arith)
      ]

  pub those-more : (n m : ℕ) (vs ws : List V) (v : V) → m ≡ n + 1 → vs ≡ those_below g n → g n ≡ Some v → ws ≡ vs ++ v ∷ [] → ws ≡ those_below g m
  those-more n m vs ws v one so_far here pushed =
      pushed ∙ ap (λ (us : List V). us ++ v ∷ []) so_far ∙ ap (λ (r : Option V). and_then_one r (those_below g n)) (sym here) ∙ ap (those_below g) (sym (next_is n m one))

  pub those-rest : (n m : ℕ) → ((k : ℕ) → n ≤ k → k < m → g k ≡ None) → n ≤ m → those_below g m ≡ those_below g n
  those-rest n zero none within = let same : 0 ≡ n = omega arith in ap (those_below g) same
  those-rest n (suc m) none within =
      elim (cases_lt m n) [
        | inl above ↦ let same : suc m ≡ n = omega arith in ap (those_below g) same
        | inr least ↦ ap (λ (r : Option V). and_then_one r (those_below g m)) (none m least (omega arith)) ∙ those-rest n m (λ k more below. none k more (omega arith)) least
      ]

-- One term more of a sum.
pub sum-more : (g : ℕ → Option ℕ) (n m : ℕ) (s next : Option ℕ) → m ≡ n + 1 → s ≡ upper_sum_below g n → next ≡ of_both add_up s (g n) → next ≡ upper_sum_below g m
sum-more g n m s next one so_far is = is ∙ ap (λ (r : Option ℕ). of_both add_up r (g n)) so_far ∙ ap (upper_sum_below g) (sym (next_is n m one))

module _ {V : Type 0} (f : V → Option V) (start : Option V) where
  -- One step more, and a step that has no result.
  pub steps-more : (n m : ℕ) (v w : V) → m ≡ n + 1 → repeated (option_and_then f) n start ≡ Some v → f v ≡ Some w → repeated (option_and_then f) m start ≡ Some w
  steps-more n m v w one so_far here = ap (λ (k : ℕ). repeated (option_and_then f) k start) (next_is n m one) ∙ ap (option_and_then f) so_far ∙ here

  pub steps-missing : (n m : ℕ) (v : V) → repeated (option_and_then f) n start ≡ Some v → f v ≡ None → n < m → repeated (option_and_then f) m start ≡ None
  steps-missing n zero v so_far none below = absurd (omega arith)
  steps-missing n (suc m) v so_far none below =
      elim (cases_suc n m below) [
        | inl less ↦ ap (option_and_then f) (steps-missing n m v so_far none less)
        | inr same ↦ ap (option_and_then f) (ap (λ (k : ℕ). repeated (option_and_then f) k start) (sym same) ∙ so_far) ∙ none
      ]

  pub steps-none : (n : ℕ) → start ≡ None → repeated (option_and_then f) n start ≡ None
  steps-none zero none = none
  steps-none (suc n) none = ap (option_and_then f) (steps-none n none)
