-- The test of a vector as a truth value, and as a fact.
use Rattle.std.proofs.Common.{◌≡◌, ℕ, suc, true, false, ◌&&◌, Bool, List, [], ◌∷◌, map, length, Option, Some, None, refl, sym, subst, ◌∙◌, arith, leb}
use Rattle.std.specs.List.{list_all}
use Rattle.std.proofs.lemmas.Bool.{leb-true, le-leb}
use Rattle.std.proofs.lemmas.List.{length-map}
use Rattle.std.proofs.lemmas.Slice.Zip.{AllZip-long}
use Rattle.fixed_enclosure.specs.UpperValues.{IsNoGreater, AreNoGreater}
use Rattle.rounded_map.specs.RoundedMap.{Setting, value_at, at_each, values_up, bodies_up, is_at_most, is_post_fixed, IsPostFixed}

test-says : (us : List (Option ℕ)) (v : List ℕ) → length us ≡ length v → list_all (λ b. b) (at_each is_at_most us v) ≡ true → AreNoGreater us (map Some v)
test-says [] [] e h = tt
test-says [] (n ∷ v) e h = let none : ⊥ = omega arith in absurd none
test-says (u ∷ us) [] e h = let none : ⊥ = omega arith in absurd none
test-says (None ∷ us) (n ∷ v) e h = let none : ⊥ = cc in absurd none
test-says (Some u ∷ us) (n ∷ v) e h =
    let first : leb u n ≡ true = elim (leb u n) as (λ b. (b && list_all (λ c. c) (at_each is_at_most us v)) ≡ true → b ≡ true) [ true ↦ λ _. refl | false ↦ λ no. no ] h in
    let rest : list_all (λ c. c) (at_each is_at_most us v) ≡ true = elim (leb u n) as (λ b. (b && list_all (λ c. c) (at_each is_at_most us v)) ≡ true → list_all (λ c. c) (at_each is_at_most us v) ≡ true) [ true ↦ λ yes. yes | false ↦ λ no. cc ] h in
    (leb-true u n first, test-says us v (omega arith) rest)

test-holds : (us : List (Option ℕ)) (v : List ℕ) → AreNoGreater us (map Some v) → list_all (λ b. b) (at_each is_at_most us v) ≡ true
test-holds [] [] p = refl
test-holds [] (n ∷ v) p = absurd p
test-holds (u ∷ us) [] p = absurd p
test-holds (None ∷ us) (n ∷ v) p = absurd p.0
test-holds (Some u ∷ us) (n ∷ v) p = subst (λ b. (b && list_all (λ c. c) (at_each is_at_most us v)) ≡ true) (sym (le-leb u n p.0)) (test-holds us v p.1)

-- A vector with an entry for each class that passes the test is post-fixed.
pub fixed-by-test : (t : Setting) (v : List ℕ) → length v ≡ length t.spec.bodies → is_post_fixed t v ≡ true → IsPostFixed t v
fixed-by-test t v lengths h = record { each = test-says (bodies_up t (values_up t v)) v (length-map t.spec.bodies (value_at (values_up t v)) ∙ sym lengths) h }

-- A post-fixed vector passes the test.
pub test-of-fixed : (t : Setting) (v : List ℕ) → IsPostFixed t v → is_post_fixed t v ≡ true
test-of-fixed t v fixed = test-holds (bodies_up t (values_up t v)) v fixed.each

-- A post-fixed vector has an entry for each class.
pub length-fixed : (t : Setting) (v : List ℕ) → IsPostFixed t v → length v ≡ length t.spec.bodies
length-fixed t v fixed =
    sym (length-map v Some) ∙ AllZip-long IsNoGreater (bodies_up t (values_up t v)) (map Some v) fixed.each ∙ length-map t.spec.bodies (value_at (values_up t v))
