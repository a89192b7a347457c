-- Candidates, as the code tries them.
use Rattle.std.proofs.Common.{◌≡◌, ◌≢◌, ℕ, ◌+◌, ◌^◌, ◌<◌, List, length, refl, sym, ap, subst, ◌∙◌, Option, Some, None, Result, Ok, Err}
use Rattle.std.specs.Prelude.{option_map, option_and_then, IfOk}
use Rattle.rounded_map.specs.RoundedMap.{Setting}
use Rattle.newton_upper.specs.Below.{first_below}
use Rattle.newton_upper.specs.Candidates.{dual_vector}
use Rattle.newton_upper.proofs.ResultsBelow.{first-more}
use Rattle.fast_lower.specs.Contraction.{one_unit_off}
use Rattle.fast_lower.specs.FastVector.{lowered, candidate_down, if_passes, passing_candidate, first_passing, weight_vector, passing_below, upper_vector, fast_vector}
use Rattle.fast_lower.specs.FastChecks.{PassesAll, TellsFastFault}
use Rattle.fast_lower.specs.declared.fast.FastFault.{FastFault}
use Rattle.fast_lower.specs.declared.fast.FastFault.TheVariants.{ZeroWeight, NotBelowBase, NotPreFixed, NotContracting, OutOfMemory}
use Rattle.fast_lower.proofs.Passing.{passes-all, fails-zero, fails-pre_fixed, fails-contracting, never-above, mapped-none, mapped-none', mapped-first}

module _ (t : Setting) (upper weights : List ℕ) (k : ℕ) (low ws us : List ℕ) (p : ℕ) (low_is : low ≡ lowered us weights p) (us_are : us ≡ upper) (p_is : p ≡ 2 ^ k) (ws_are : ws ≡ weights) where
  is-candidate : low ≡ candidate_down upper weights k
  unfolding candidate_down
  is-candidate = low_is ∙ ap (λ (vs : List ℕ). lowered vs weights p) us_are ∙ ap (lowered upper weights) p_is

  is-lowered : low ≡ lowered upper weights p
  is-lowered = low_is ∙ ap (λ (vs : List ℕ). lowered vs weights p) us_are

  at-candidate : (o : Option (List ℕ)) → if_passes t upper weights low ≡ o → passing_candidate t upper weights k ≡ o
  unfolding passing_candidate
  at-candidate o is = ap (if_passes t upper weights) (sym is-candidate) ∙ is

  -- It passes where all tests are passed.
  pub candidate-passes : (v : List ℕ) → v ≡ one_unit_off low → PassesAll t upper low ws → Some v ≡ option_map one_unit_off (passing_candidate t upper weights k)
  candidate-passes v is h =
      ap (λ (l : List ℕ). Some l) is ∙ sym (ap (option_map one_unit_off) (at-candidate (Some low) (passes-all t upper low weights (subst (λ vs. PassesAll t upper low vs) ws_are h))))

  -- And not where one fails.
  pub candidate-fails : (fault : FastFault) → length low ≡ length t.spec.bodies → length weights ≡ length t.spec.bodies → TellsFastFault t upper low ws fault → fault ≢ OutOfMemory → passing_candidate t upper weights k ≡ None
  candidate-fails fault lengths weight_lengths h other = at-candidate None (by-fault fault (subst (λ vs. TellsFastFault t upper low vs fault) ws_are h) other)
    where
      by-fault : (f : FastFault) → TellsFastFault t upper low weights f → f ≢ OutOfMemory → if_passes t upper weights low ≡ None
      by-fault (ZeroWeight c) told other = fails-zero t upper low weights lengths weight_lengths c.0 told
      by-fault (NotBelowBase c) told other = absurd (never-above upper weights low p c.0 is-lowered told)
      by-fault (NotPreFixed c) told other = fails-pre_fixed t upper low weights lengths weight_lengths c.0 told
      by-fault (NotContracting c) told other = fails-contracting t upper low weights lengths weight_lengths c.0 told
      by-fault OutOfMemory told other = absurd (other refl)

-- What is answered where there is none.
pub without-exact : {U V E P : Type 0} (f : U → V) (r : Result (Option V) E) (z : Option U) → IfOk r (λ o. (o ≡ None) × P) → (P → z ≡ None) → IfOk r (λ o. o ≡ option_map f z)
without-exact f (Ok o) z h none = h.0 ∙ mapped-none' f z (none h.1)
without-exact f (Err e) z h none = h

module _ (t : Setting) (upper weights : List ℕ) where
  -- The first candidate that passes is found, and none passes.
  pub first-is : (k : ℕ) (v : List ℕ) → first_below (passing_candidate t upper weights) k ≡ None → Some v ≡ option_map one_unit_off (passing_candidate t upper weights k) → k < t.bits → Some v ≡ option_map one_unit_off (first_passing t upper weights)
  unfolding first_passing
  first-is k v so_far is below = mapped-first one_unit_off (passing_candidate t upper weights) k t.bits v so_far is below

  pub first-on : (k m : ℕ) → m ≡ k + 1 → first_below (passing_candidate t upper weights) k ≡ None → None ≡ option_map one_unit_off (passing_candidate t upper weights k) → first_below (passing_candidate t upper weights) m ≡ None
  first-on k m one so_far none = first-more (passing_candidate t upper weights) k m one so_far (mapped-none one_unit_off (passing_candidate t upper weights k) none)

  pub none-is : (k : ℕ) → k ≡ t.bits → first_below (passing_candidate t upper weights) k ≡ None → None ≡ option_map one_unit_off (first_passing t upper weights)
  unfolding first_passing
  none-is k all so_far = mapped-none' one_unit_off (first_below (passing_candidate t upper weights) t.bits) (ap (first_below (passing_candidate t upper weights)) (sym all) ∙ so_far)

module _ (t : Setting) (base upper : List ℕ) (upper_is : upper ≡ upper_vector t base) where
  fast-of : (o : Option (List ℕ)) → dual_vector t upper (4 ^ 6) ≡ o → fast_vector t base ≡ option_map one_unit_off (option_and_then (first_passing t upper) o)
  unfolding fast_vector passing_below weight_vector
  fast-of o is = ap (λ (u : List ℕ). option_map one_unit_off (option_and_then (first_passing t u) (dual_vector t u (4 ^ 6)))) (sym upper_is) ∙ ap (λ (w : Option (List ℕ)). option_map one_unit_off (option_and_then (first_passing t upper) w)) is

  -- Without weights there is no fast vector.
  pub no-weights : (o : Option (List ℕ)) → o ≡ dual_vector t upper (4 ^ 6) → o ≡ None → None ≡ fast_vector t base
  no-weights o is none = sym (fast-of None (sym is ∙ none))

  pub with-weights : {E : Type 0} (o : Option (List ℕ)) (weights ws : List ℕ) (r : Result (Option (List ℕ)) E) → o ≡ dual_vector t upper (4 ^ 6) → o ≡ Some weights → ws ≡ weights → IfOk r (λ fast. fast ≡ option_map one_unit_off (first_passing t upper ws)) → IfOk r (λ fast. fast ≡ fast_vector t base)
  with-weights o weights ws (Ok fast) is some same h = h ∙ ap (λ (v : List ℕ). option_map one_unit_off (first_passing t upper v)) same ∙ sym (fast-of (Some weights) (sym is ∙ some))
  with-weights o weights ws (Err e) is some same h = h
