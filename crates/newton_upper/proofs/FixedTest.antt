-- The test of a vector as a truth value, and values that are all there.
use Rattle.std.proofs.Common.{◌≡◌, ℕ, zero, suc, ◌<◌, true, false, cond, ◌&&◌, Bool, List, [], ◌∷◌, map, length, Option, Some, None, refl, sym, ap, subst, ◌∙◌, arith, leb}
use Rattle.std.specs.Prelude.{slice_index, option_map}
use Rattle.std.specs.List.{list_all}
use Rattle.std.proofs.lemmas.Bool.{leb-true, le-leb}
use Rattle.std.proofs.lemmas.List.{length-map}
use Rattle.std.proofs.lemmas.Slice.Zip.{AllZip-long}
use Rattle.fixed_enclosure.specs.UpperValues.{IsNoGreater, AreNoGreater}
use Rattle.rounded_map.specs.RoundedMap.{Setting, value_at, all_values, at_each, values_up, bodies_up, is_at_most, is_post_fixed, IsPostFixed, IsFirstAbove}
use Rattle.rounded_map.proofs.FixedTests.{fixed-by-test, test-of-fixed}
use Rattle.rounded_map.proofs.MapMonotone.{no_greater-at}
use Rattle.newton_upper.specs.Candidates.{if_post_fixed}

-- A vector that is post-fixed passes, and one with a fault doesn't.
pub passes : (t : Setting) (v : List ℕ) → IsPostFixed t v → if_post_fixed t (Some v) ≡ Some v
passes t v fixed = ap (λ b. cond b (Some v) None) (test-of-fixed t v fixed)

entry-copied : (v : List ℕ) (c : ℕ) → c < length v → value_at (map Some v) c ≡ Some (slice_index v c)
entry-copied [] c within = absurd (omega arith)
entry-copied (n ∷ v) zero within = refl
entry-copied (n ∷ v) (suc c) within = entry-copied v c (omega arith)

-- A vector with a first place at which the body's upper value is greater than its entry isn't
-- post-fixed.
pub unfixed : (t : Setting) (v : List ℕ) (place : ℕ) (got : Option ℕ) → IsFirstAbove (bodies_up t (values_up t v)) v place got → IsPostFixed t v → ⊥
unfixed t v place got fault fixed =
    let us = bodies_up t (values_up t v) in
    fault.above
    (subst (λ o. IsNoGreater o (Some (slice_index v place))) (sym fault.value)
    (subst (λ o. IsNoGreater (value_at us place) o) (entry-copied v place fault.within) (no_greater-at us (map Some v) place fixed.each)))

-- A vector with an entry for each class, one of which is less than its body's upper value, is
-- dropped by the test for post-fixed vectors.
pub fails : (t : Setting) (v : List ℕ) (place : ℕ) (got : Option ℕ) → length v ≡ length t.spec.bodies → IsFirstAbove (bodies_up t (values_up t v)) v place got → if_post_fixed t (Some v) ≡ None
fails t v place got lengths fault = decide (is_post_fixed t v) refl
  where
    decide : (b : Bool) → is_post_fixed t v ≡ b → cond b (Some v) None ≡ None
    decide true is = absurd (unfixed t v place got fault (fixed-by-test t v lengths is))
    decide false is = refl

-- Values that are all there, and values of which one is missing.
pub all-there : (vs : List ℕ) → all_values (map Some vs) ≡ Some vs
all-there [] = refl
all-there (v ∷ vs) = ap (option_map (λ ws. v ∷ ws)) (all-there vs)

-- If one of the values in a list is missing, the list of all values is missing.
pub one-missing : (vs : List (Option ℕ)) (place : ℕ) → place < length vs → value_at vs place ≡ None → all_values vs ≡ None
one-missing [] place within none = absurd (omega arith)
one-missing (None ∷ vs) place within none = refl
one-missing (Some v ∷ vs) zero within none = cc
one-missing (Some v ∷ vs) (suc place) within none = ap (option_map (λ ws. v ∷ ws)) (one-missing vs place (omega arith) none)
