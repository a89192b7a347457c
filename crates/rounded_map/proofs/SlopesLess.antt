-- Derivatives that are less than the weights, one class after another.
use Rattle.std.proofs.Common.{◌≡◌, ℕ, suc, ◌<◌, List, [], ◌∷◌, length, map, arith, subst, ◌∙◌, Option, Result, Ok, Err}
use Rattle.std.specs.Prelude.{slice_index, OnOk, IfErr}
use Rattle.std.specs.List.{AllZip}
use Rattle.class_system.specs.NodeResults.{ranged_nodes}
use Rattle.class_system.specs.Sound.{IsSound}
use Rattle.class_system.specs.declared.ids.ClassId.{ClassId}
use Rattle.class_system.proofs.Results.{length-node_results, length-zip}
use Rattle.rounded_map.specs.RoundedMap.{Setting, value_at}
use Rattle.rounded_map.specs.Derivative.{derivative_up, derivatives_up}
use Rattle.rounded_map.specs.Contracting.{IsLess, body_slopes, AreContracting, IsFirstNotLess}

-- What holds at each place of two lists.
pub less-each : (us : List (Option ℕ)) (xs : List ℕ) → length us ≡ length xs → ((c : ℕ) → c < length xs → IsLess (value_at us c) (slice_index xs c)) → AllZip IsLess us xs
less-each [] [] same at = tt
less-each [] (x ∷ xs) same at = absurd (omega arith)
less-each (u ∷ us) [] same at = absurd (omega arith)
less-each (u ∷ us) (x ∷ xs) same at = (at 0 (omega arith), less-each us xs (omega arith) (λ c below. at (suc c) (omega arith)))

-- There is a derivative, or none, for each node.
pub length-derivatives : (t : Setting) → IsSound t.spec → (values : List (Option ℕ)) (along : List ℕ) → length (derivatives_up t values along) ≡ length t.spec.nodes
length-derivatives t sound values along = length-node_results (derivative_up t values along) [] (ranged_nodes t.spec) ∙ omega (arith, length-zip t.spec.nodes t.spec.ranges sound.ranges.lengths)

module _ (t : Setting) (values : List (Option ℕ)) (weights : List ℕ) (derivatives : List (Option ℕ)) (bodies : List ℕ) where
  same-slopes : derivatives ≡ derivatives_up t values weights → bodies ≡ t.spec.bodies → map (value_at derivatives) bodies ≡ body_slopes t values weights
  same-slopes are bodies_are i = map (value_at (are i)) (bodies_are i)

  -- The test's answers, as the code finds them.
  pub contracting-found : {V : Type 0} (r : Result V ClassId) → derivatives ≡ derivatives_up t values weights → bodies ≡ t.spec.bodies → OnOk r (AllZip IsLess (map (value_at derivatives) bodies) weights) → OnOk r (AreContracting t values weights)
  contracting-found (Ok u) are bodies_are h = record { each = subst (λ us. AllZip IsLess us weights) (same-slopes are bodies_are) h }
  contracting-found (Err e) are bodies_are h = h

  pub first-found : {V : Type 0} (r : Result V ClassId) → derivatives ≡ derivatives_up t values weights → bodies ≡ t.spec.bodies → IfErr r (λ class. IsFirstNotLess (map (value_at derivatives) bodies) weights class.0) → IfErr r (λ class. IsFirstNotLess (body_slopes t values weights) weights class.0)
  first-found (Ok u) are bodies_are h = h
  first-found (Err e) are bodies_are h = subst (λ us. IsFirstNotLess us weights e.0) (same-slopes are bodies_are) h
