-- The least option that passes: it passes, it is one of those asked, and none before it passes.
use Rattle.std.proofs.Common.{◌≡◌, ℕ, zero, suc, ◌+◌, ◌<◌, ◌≤◌, Bool, true, false, Some, None, cond, refl, sym, ◌∙◌, subst, ap, arith, ⊎_elim}
use Rattle.std.proofs.lemmas.Bool.{cases_lt, cases_Bool}
use Rattle.choice_draw.specs.Decision.{least_passing}

-- what is known of the least number that passes, of n numbers from i on
pub record IsLeastPassing (passes : ℕ → Bool) (n i k : ℕ) : Type 0 where
  pub from : i ≤ k
  pub below : k < i + n
  pub passing : passes k ≡ true
  pub none_before : (j : ℕ) → i ≤ j → j < k → passes j ≡ false

-- a number from i on is i or one from the next on
from_or_later : (P : ℕ → Type 0) (i j : ℕ) → i ≤ j → P i → (suc i ≤ j → P j) → P j
from_or_later P i j h here later = ⊎_elim (λ more. later more) (λ no_more. let same : i ≡ j = omega arith in subst P same here) (cases_lt i j)

-- what is found is the least that passes
pub least_passing-found : (passes : ℕ → Bool) (n i k : ℕ) → least_passing passes n i ≡ Some k → IsLeastPassing passes n i k
least_passing-found passes zero i k e = let none : ⊥ = cc in absurd none
least_passing-found passes (suc n) i k e = ⊎_elim
    (λ yes. let first : Some i ≡ Some k = sym (ap (λ b. cond b (Some i) (least_passing passes n (suc i))) yes) ∙ e in
    let same : i ≡ k = cc in
    record { from = omega arith; below = omega arith; passing = subst (λ j. passes j ≡ true) same yes; none_before = λ j a b. let none : ⊥ = omega arith in absurd none })
    (λ no. let rest : least_passing passes n (suc i) ≡ Some k = sym (ap (λ b. cond b (Some i) (least_passing passes n (suc i))) no) ∙ e in
    let found : IsLeastPassing passes n (suc i) k = least_passing-found passes n (suc i) k rest in
    let later : suc i ≤ k = found.from in
    let within : k < suc i + n = found.below in
    record { from = omega arith; below = omega arith; passing = found.passing; none_before = λ j a b. from_or_later (λ m. passes m ≡ false) i j a no (λ more. found.none_before j more b) })
    (cases_Bool (passes i))

-- where nothing is found, none passes
pub least_passing-none : (passes : ℕ → Bool) (n i : ℕ) → least_passing passes n i ≡ None → (j : ℕ) → i ≤ j → j < i + n → passes j ≡ false
least_passing-none passes zero i e j a b = let none : ⊥ = omega arith in absurd none
least_passing-none passes (suc n) i e j a b = ⊎_elim
    (λ yes. let first : Some i ≡ None = sym (ap (λ t. cond t (Some i) (least_passing passes n (suc i))) yes) ∙ e in let none : ⊥ = cc in absurd none)
    (λ no. let rest : least_passing passes n (suc i) ≡ None = sym (ap (λ t. cond t (Some i) (least_passing passes n (suc i))) no) ∙ e in
    from_or_later (λ m. passes m ≡ false) i j a no (λ more. least_passing-none passes n (suc i) rest j more (omega arith)))
    (cases_Bool (passes i))

-- a number that passes, none before it passing, is what is found
pub least_passing-is : (passes : ℕ → Bool) (n i k : ℕ) → IsLeastPassing passes n i k → least_passing passes n i ≡ Some k
least_passing-is passes zero i k h = let none : ⊥ = omega (arith, h.from, h.below) in absurd none
least_passing-is passes (suc n) i k h = ⊎_elim
    (λ later. let skipped : passes i ≡ false = h.none_before i (omega arith) later in
    let rest : least_passing passes n (suc i) ≡ Some k = least_passing-is passes n (suc i) k (record { from = later; below = omega (arith, h.below); passing = h.passing; none_before = λ j a b. h.none_before j (omega arith) b }) in
    ap (λ b. cond b (Some i) (least_passing passes n (suc i))) skipped ∙ rest)
    (λ now. let same : i ≡ k = omega (arith, h.from) in
    let yes : passes i ≡ true = subst (λ j. passes j ≡ true) (sym same) h.passing in
    ap (λ b. cond b (Some i) (least_passing passes n (suc i))) yes ∙ ap Some same)
    (cases_lt i k)

-- where none passes, nothing is found
pub least_passing-is_none : (passes : ℕ → Bool) (n i : ℕ) → ((j : ℕ) → i ≤ j → j < i + n → passes j ≡ false) → least_passing passes n i ≡ None
least_passing-is_none passes zero i h = refl
least_passing-is_none passes (suc n) i h =
    ap (λ b. cond b (Some i) (least_passing passes n (suc i))) (h i (omega arith) (omega arith)) ∙ least_passing-is_none passes n (suc i) (λ j a b. h j (omega arith) (omega arith))
