-- Steps that follow one another, where each has a result.
use Rattle.std.proofs.Common.{◌≡◌, ℕ, ◌+◌, ◌^◌, ◌<◌, min, List, length, replicate, Option, Some, None, Result, Ok, Err, sym, ap, ◌∙◌, add-one}
use Rattle.std.specs.Prelude.{option_map, option_and_then, IfOk}
use Rattle.rounded_map.specs.RoundedMap.{Setting, repeated}
use Rattle.newton_upper.specs.Candidates.{swept_down, swept_dual, upper_values, dual_vector, widened, if_post_fixed, candidate, first_candidate, round_from, sweeps_after, round_base}
use Rattle.newton_upper.specs.Newton.{matrix_times, squared, sum_of_vectors, plus_times, raised_by, next_sums, newton_sums, newton_matrix, lower_gap, newton_from, step_sums, newton_step}
use Rattle.newton_upper.specs.declared.neumann_series.Sums.{Sums}
use Rattle.newton_upper.specs.declared.newton.Newton.{Newton}
use Rattle.newton_upper.proofs.ResultsBelow.{steps-none, steps-missing}

-- Where an answer is Ok, its value is the same as another.
pub answers : {V E : Type 0} (r : Result V E) (a b : V) → a ≡ b → IfOk r (λ o. o ≡ a) → IfOk r (λ o. o ≡ b)
answers (Ok o) a b same h = h ∙ same
answers (Err e) a b same h = h

module _ (t : Setting) (y : List ℕ) where
  pub dual-none : (n : ℕ) → upper_values t y ≡ None → None ≡ dual_vector t y n
  unfolding dual_vector
  dual-none n none = sym (ap (option_and_then (λ values. swept_dual t values n)) none)

  pub dual-some : (n : ℕ) (values items : List ℕ) → items ≡ values → upper_values t y ≡ Some values → swept_dual t items n ≡ dual_vector t y n
  unfolding dual_vector
  dual-some n values items same there = ap (λ vs. swept_dual t vs n) same ∙ sym (ap (option_and_then (λ vs. swept_dual t vs n)) there)

  pub round-none : (sweeps n : ℕ) → n ≡ min sweeps 256 → dual_vector t y n ≡ None → None ≡ round_from t y sweeps
  unfolding round_from
  round-none sweeps n is none = sym (ap (λ m. option_and_then (first_candidate t y) (dual_vector t y m)) (sym is) ∙ ap (option_and_then (first_candidate t y)) none)

  pub round-some : (sweeps n : ℕ) (dual items : List ℕ) → n ≡ min sweeps 256 → items ≡ dual → dual_vector t y n ≡ Some dual → first_candidate t y items ≡ round_from t y sweeps
  unfolding round_from
  round-some sweeps n dual items is same there =
      ap (first_candidate t y) same ∙ sym (ap (λ m. option_and_then (first_candidate t y) (dual_vector t y m)) (sym is) ∙ ap (option_and_then (first_candidate t y)) there)

  -- A candidate by its factor.
  pub candidate-is : (d : List ℕ) (j factor : ℕ) (o : Option (List ℕ)) → factor ≡ 4 ^ j → o ≡ if_post_fixed t (widened y d factor) → candidate t y d j ≡ o
  unfolding candidate
  candidate-is d j factor o same is = ap (λ k. if_post_fixed t (widened y d k)) (sym same) ∙ sym is

  -- A round by its vector and its sweeps.
  pub round-is : (r sweeps : ℕ) (o : Option (List ℕ)) → y ≡ swept_down t (sweeps_after (r + 1)) → sweeps ≡ sweeps_after (r + 1) → o ≡ round_from t y sweeps → round_base t r ≡ o
  unfolding round_base
  round-is r sweeps o swept same is =
      ap (λ n. round_from t (swept_down t (sweeps_after n)) (sweeps_after n)) (sym (add-one r))
      ∙ ap (λ v. round_from t v (sweeps_after (r + 1))) (sym swept) ∙ ap (round_from t y) (sym same) ∙ sym is

module _ (f : ℕ) (columns : List (List ℕ)) where
  pub plus-none : (v : List ℕ) → matrix_times f columns v ≡ None → None ≡ plus_times f columns v
  unfolding plus_times
  plus-none v none = sym (ap (option_and_then (sum_of_vectors v)) none)

  pub plus-some : (v product items : List ℕ) → items ≡ product → matrix_times f columns v ≡ Some product → sum_of_vectors v items ≡ plus_times f columns v
  unfolding plus_times
  plus-some v product items same there = ap (sum_of_vectors v) same ∙ sym (ap (option_and_then (sum_of_vectors v)) there)

  abbrev sums_with : (gap margin : List ℕ) → Sums
  sums_with gap margin = record { matrix = columns; gap = gap; margin = margin }

  pub raised-none : (gap margin : List ℕ) → plus_times f columns gap ≡ None → None ≡ raised_by f columns gap margin
  unfolding raised_by
  raised-none gap margin none = sym (ap (option_and_then (λ g. option_map (sums_with g) (plus_times f columns margin))) none)

  pub raised-half : (gap margin g : List ℕ) → plus_times f columns gap ≡ Some g → plus_times f columns margin ≡ None → None ≡ raised_by f columns gap margin
  unfolding raised_by
  raised-half gap margin g there none = sym (ap (option_and_then (λ g. option_map (sums_with g) (plus_times f columns margin))) there ∙ ap (option_map (sums_with g)) none)

  pub raised-some : (gap margin g h : List ℕ) → plus_times f columns gap ≡ Some g → plus_times f columns margin ≡ Some h → Some (sums_with g h) ≡ raised_by f columns gap margin
  unfolding raised_by
  raised-some gap margin g h there too = sym (ap (option_and_then (λ g. option_map (sums_with g) (plus_times f columns margin))) there ∙ ap (option_map (sums_with g)) too)

  pub sums-none : (gap margin : List ℕ) → raised_by f columns gap margin ≡ None → None ≡ newton_sums f columns gap margin
  unfolding newton_sums
  sums-none gap margin none = sym (steps-none (next_sums f) (raised_by f columns gap margin) 23 none)

  pub sums-missing : (gap margin : List ℕ) (k : ℕ) (s : Sums) → repeated (option_and_then (next_sums f)) k (raised_by f columns gap margin) ≡ Some s → next_sums f s ≡ None → k < 23 → None ≡ newton_sums f columns gap margin
  unfolding newton_sums
  sums-missing gap margin k s so_far none below = sym (steps-missing (next_sums f) (raised_by f columns gap margin) k 23 s so_far none below)

  pub sums-some : (gap margin : List ℕ) (k : ℕ) (s : Sums) → k ≡ 23 → repeated (option_and_then (next_sums f)) k (raised_by f columns gap margin) ≡ Some s → Some s ≡ newton_sums f columns gap margin
  unfolding newton_sums
  sums-some gap margin k s all so_far = sym so_far ∙ ap (λ n. repeated (option_and_then (next_sums f)) n (raised_by f columns gap margin)) all

module _ (f : ℕ) (s : Sums) where
  pub next-none : squared f s.matrix ≡ None → None ≡ next_sums f s
  unfolding next_sums
  next-none none = sym (ap (option_and_then (λ columns. raised_by f columns s.gap s.margin)) none)

  pub next-some : (columns : List (List ℕ)) (gap margin : List ℕ) → gap ≡ s.gap → margin ≡ s.margin → squared f s.matrix ≡ Some columns → raised_by f columns gap margin ≡ next_sums f s
  unfolding next_sums
  next-some columns gap margin same too there =
      ap (λ g. raised_by f columns g margin) same ∙ ap (raised_by f columns s.gap) too ∙ sym (ap (option_and_then (λ columns. raised_by f columns s.gap s.margin)) there)

module _ (y : List ℕ) (s : Sums) where
  abbrev step_with : (next proposal : List ℕ) → Newton
  step_with next proposal = record { next = next; proposal = proposal }

  pub from-none : (gap : List ℕ) → gap ≡ s.gap → sum_of_vectors y gap ≡ None → None ≡ newton_from y s
  unfolding newton_from
  from-none gap same none = sym (ap (λ g. option_and_then (λ next. option_map (step_with next) (sum_of_vectors next s.margin)) (sum_of_vectors y g)) (sym same)
      ∙ ap (option_and_then (λ next. option_map (step_with next) (sum_of_vectors next s.margin))) none)

  pub from-half : (gap next items margin : List ℕ) → gap ≡ s.gap → items ≡ next → margin ≡ s.margin → sum_of_vectors y gap ≡ Some next → sum_of_vectors items margin ≡ None → None ≡ newton_from y s
  unfolding newton_from
  from-half gap next items margin same is too there none = sym (ap (λ g. option_and_then (λ n. option_map (step_with n) (sum_of_vectors n s.margin)) (sum_of_vectors y g)) (sym same)
      ∙ ap (option_and_then (λ n. option_map (step_with n) (sum_of_vectors n s.margin))) there
      ∙ ap (option_map (step_with next)) (ap (sum_of_vectors next) (sym too) ∙ ap (λ n. sum_of_vectors n margin) (sym is) ∙ none))

  pub from-some : (gap next items margin proposal : List ℕ) → gap ≡ s.gap → items ≡ next → margin ≡ s.margin → sum_of_vectors y gap ≡ Some next → sum_of_vectors items margin ≡ Some proposal → Some (step_with next proposal) ≡ newton_from y s
  unfolding newton_from
  from-some gap next items margin proposal same is too there then = sym (ap (λ g. option_and_then (λ n. option_map (step_with n) (sum_of_vectors n s.margin)) (sum_of_vectors y g)) (sym same)
      ∙ ap (option_and_then (λ n. option_map (step_with n) (sum_of_vectors n s.margin))) there
      ∙ ap (option_map (step_with next)) (ap (sum_of_vectors next) (sym too) ∙ ap (λ n. sum_of_vectors n margin) (sym is) ∙ then))

module _ (t : Setting) (y : List ℕ) where
  pub step_sums-none : (values : List ℕ) → newton_matrix t values ≡ None → None ≡ step_sums t y values
  unfolding step_sums
  step_sums-none values none = sym (ap (option_and_then (λ columns. newton_sums t.bits columns (lower_gap t y) (replicate (length t.spec.bodies) 256))) none)

  pub step_sums-some : (values gap margin : List ℕ) (columns : List (List ℕ)) → gap ≡ lower_gap t y → margin ≡ replicate (length t.spec.bodies) 256 → newton_matrix t values ≡ Some columns → newton_sums t.bits columns gap margin ≡ step_sums t y values
  unfolding step_sums
  step_sums-some values gap margin columns same too there =
      ap (λ g. newton_sums t.bits columns g margin) same ∙ ap (newton_sums t.bits columns (lower_gap t y)) too
      ∙ sym (ap (option_and_then (λ columns. newton_sums t.bits columns (lower_gap t y) (replicate (length t.spec.bodies) 256))) there)

  pub step-none : upper_values t y ≡ None → None ≡ newton_step t y
  unfolding newton_step
  step-none none = sym (ap (λ o. option_and_then (newton_from y) (option_and_then (step_sums t y) o)) none)

  pub step-half : (values items : List ℕ) → items ≡ values → upper_values t y ≡ Some values → step_sums t y items ≡ None → None ≡ newton_step t y
  unfolding newton_step
  step-half values items same there none =
      sym (ap (λ o. option_and_then (newton_from y) (option_and_then (step_sums t y) o)) there ∙ ap (option_and_then (newton_from y)) (ap (step_sums t y) (sym same) ∙ none))

  pub step-some : (values items : List ℕ) (s : Sums) → items ≡ values → upper_values t y ≡ Some values → step_sums t y items ≡ Some s → newton_from y s ≡ newton_step t y
  unfolding newton_step
  step-some values items s same there then =
      sym (ap (λ o. option_and_then (newton_from y) (option_and_then (step_sums t y) o)) there ∙ ap (option_and_then (newton_from y)) (ap (step_sums t y) (sym same) ∙ then))
