-- A base is post-fixed, and its entries have 64 bits.
use Rattle.std.proofs.Common.{◌≡◌, ℕ, zero, suc, ◌^◌, min, max, arith, true, false, cond, leb, Bool, List, [], ◌∷◌, ◌++◌, map, replicate, length, length-append, Option, Some, None, refl, sym, subst, ◌∙◌}
use Rattle.std.specs.Prelude.{IfSome, nat_le, option_map, option_and_then, slice_index, ◌&&◌}
use Rattle.std.specs.List.{AllByRecursion, list_all}
use Rattle.std.proofs.lemmas.Bool.{leb-true}
use Rattle.std.proofs.lemmas.List.{length-map, length-replicate}
use Rattle.bz_laws.proofs.Samples.{AllByRecursion-append}
use Rattle.fixed_enclosure.specs.Rounded.{greatest, if_fits}
use Rattle.fixed_enclosure.specs.UpperValues.{AreNoGreater}
use Rattle.rounded_map.specs.RoundedMap.{Setting, value_at, at_each, repeated, values_down, values_up, bodies_down, bodies_up, sweep_down, is_at_most, is_post_fixed, IsPostFixed}
use Rattle.rounded_map.proofs.Bounding.{length-at_each}
use Rattle.newton_upper.specs.BaseRule.{proposal, fixed_proposal, proposed_base, base_of}
use Rattle.newton_upper.specs.Below.{or_else, all_below, first_below}
use Rattle.newton_upper.specs.Candidates.{swept_down, upper_values, dual_vector, widened_entry, widened, if_post_fixed, candidate_count, candidate, first_candidate, round_from, sweeps_after, round_base, candidate_base}
use Rattle.newton_upper.specs.Newton.{sum_entry, sum_of_vectors, newton_from, step_sums, newton_step, newton_at}
use Rattle.certificate.specs.Ranges.{IsSmall}

-- where there is a value
or-else : {V : Type 0} (P : V → Type 0) (a b : Option V) → IfSome a P → IfSome b P → IfSome (or_else a b) P
or-else P None b h k = k
or-else P (Some v) b h k = h

first-is : {V : Type 0} (P : V → Type 0) (g : ℕ → Option V) → ((k : ℕ) → IfSome (g k) P) → (n : ℕ) → IfSome (first_below g n) P
first-is P g h zero = tt
first-is P g h (suc n) = or-else P (first_below g n) (g n) (first-is P g h n) (h n)

then-is : {V W : Type 0} (o : Option V) (f : V → Option W) (P : V → Type 0) (Q : W → Type 0) → ((v : V) → P v → IfSome (f v) Q) → IfSome o P → IfSome (option_and_then f o) Q
then-is None f P Q h k = tt
then-is (Some v) f P Q h k = h v k

if-any : {V : Type 0} (o : Option V) → IfSome o (λ v. Unit {0})
if-any None = tt
if-any (Some v) = tt

-- numbers that fit
fits-small : (n : ℕ) → IfSome (if_fits n) IsSmall
fits-small n = by (nat_le n greatest) refl
  where
    by : (b : Bool) → nat_le n greatest ≡ b → IfSome (cond b (Some n) None) IsSmall
    by true e = let h = leb-true n greatest e in omega (arith, h)
    by false e = tt

-- A vector has an entry for each class, of 64 bits.
record IsVector (n : ℕ) (v : List ℕ) : Type 0 where
  pub count : length v ≡ n
  pub small : AllByRecursion IsSmall v

below-more : (n : ℕ) (o : Option (List ℕ)) (r : Option ℕ) → IfSome o (IsVector n) → IfSome r IsSmall → IfSome (option_and_then (λ vs. option_map (λ v. vs ++ v ∷ []) r) o) (IsVector (suc n))
below-more n None r h k = tt
below-more n (Some vs) None h k = tt
below-more n (Some vs) (Some v) h k = record { count = let c = h.count in omega (arith, c, length-append vs (v ∷ [])); small = AllByRecursion-append IsSmall vs (v ∷ []) h.small (k, tt) }

below-small : (g : ℕ → Option ℕ) → ((k : ℕ) → IfSome (g k) IsSmall) → (n : ℕ) → IfSome (all_below g n) (IsVector n)
below-small g h zero = record { count = refl; small = tt }
below-small g h (suc n) = below-more n (all_below g n) (g n) (below-small g h n) (h n)

widened-small : (y d : List ℕ) (factor : ℕ) → IfSome (widened y d factor) (IsVector (length y))
unfolding widened
widened-small y d factor = below-small (widened_entry y d factor) (λ k. fits-small _) (length y)

sum-small : (v w : List ℕ) → IfSome (sum_of_vectors v w) (IsVector (length v))
unfolding sum_of_vectors
sum-small v w = below-small (sum_entry v w) (λ k. fits-small _) (length v)

-- a vector that passes the test is post-fixed
test-says : (us : List (Option ℕ)) (v : List ℕ) → length us ≡ length v → list_all (λ b. b) (at_each is_at_most us v) ≡ true → AreNoGreater us (map Some v)
test-says [] [] e h = tt
test-says [] (n ∷ v) e h = let none : ⊥ = omega arith in absurd none
test-says (u ∷ us) [] e h = let none : ⊥ = omega arith in absurd none
test-says (None ∷ us) (n ∷ v) e h = let none : ⊥ = cc in absurd none
test-says (Some u ∷ us) (n ∷ v) e h =
    let first : leb u n ≡ true = elim (leb u n) as (λ b. (b && list_all (λ c. c) (at_each is_at_most us v)) ≡ true → b ≡ true) [ true ↦ λ _. refl | false ↦ λ no. no ] h in
    let rest : list_all (λ c. c) (at_each is_at_most us v) ≡ true = elim (leb u n) as (λ b. (b && list_all (λ c. c) (at_each is_at_most us v)) ≡ true → list_all (λ c. c) (at_each is_at_most us v) ≡ true) [ true ↦ λ yes. yes | false ↦ λ no. cc ] h in
    (leb-true u n first, test-says us v (omega arith) rest)

module _ (t : Setting) where
  -- A base is a vector that is post-fixed.
  pub record IsBase (v : List ℕ) : Type 0 where
    pub post_fixed : IsPostFixed t v
    pub small : AllByRecursion IsSmall v

  abbrev classes : ℕ
  classes = length t.spec.bodies

  fixed : (o : Option (List ℕ)) → IfSome o (IsVector classes) → IfSome (if_post_fixed t o) IsBase
  fixed None h = tt
  fixed (Some v) h = by (is_post_fixed t v) refl
    where
      by : (b : Bool) → is_post_fixed t v ≡ b → IfSome (cond b (Some v) None) IsBase
      by true e = record { post_fixed = record { each = test-says (bodies_up t (values_up t v)) v (length-map t.spec.bodies (value_at (values_up t v)) ∙ sym h.count) e }; small = h.small }
      by false e = tt

  -- lower sweeps keep the number of entries
  length-swept : (n : ℕ) → length (swept_down t n) ≡ classes
  unfolding swept_down
  length-swept zero = length-replicate classes 0
  length-swept (suc n) =
      let v = repeated (sweep_down t) n (replicate classes 0) in
      let before : length v ≡ classes = length-swept n in
      length-at_each max v (bodies_down t (values_down t v)) (length-map t.spec.bodies (slice_index (values_down t v)) ∙ sym before) ∙ before

  candidate-is : (n j : ℕ) (d : List ℕ) → IfSome (candidate t (swept_down t n) d j) IsBase
  unfolding candidate
  candidate-is n j d = fixed (widened (swept_down t n) d (4 ^ j)) (subst (λ k. IfSome (widened (swept_down t n) d (4 ^ j)) (IsVector k)) (length-swept n) (widened-small (swept_down t n) d (4 ^ j)))

  first-candidate-is : (n : ℕ) (d : List ℕ) → IfSome (first_candidate t (swept_down t n) d) IsBase
  unfolding first_candidate
  first-candidate-is n d = first-is IsBase (candidate t (swept_down t n) d) (λ j. candidate-is n j d) (candidate_count t.bits)

  round-is : (r : ℕ) → IfSome (round_base t r) IsBase
  unfolding round_base round_from
  round-is r =
      let n = sweeps_after (suc r) in
      then-is (dual_vector t (swept_down t n) (min n 256)) (first_candidate t (swept_down t n)) (λ d. Unit {0}) IsBase (λ d any. first-candidate-is n d) (if-any (dual_vector t (swept_down t n) (min n 256)))

  -- the vectors of a Newton step from a vector
  with-proposal : {N : Type 0} (next : List ℕ) (make : List ℕ → N) (Q : N → Type 0) (o : Option (List ℕ)) → ((p : List ℕ) → IsVector (length next) p → Q (make p)) → IfSome o (IsVector (length next)) → IfSome (option_map make o) Q
  with-proposal next make Q None on h = tt
  with-proposal next make Q (Some p) on h = on p h

  from-is : {N : Type 0} (o : Option N) (make : List ℕ → List ℕ → N) (Q : N → Type 0) (y gap margin : List ℕ) → o ≡ option_and_then (λ next. option_map (make next) (sum_of_vectors next margin)) (sum_of_vectors y gap) → ((next p : List ℕ) → IsVector (length y) next → IsVector (length next) p → Q (make next p)) → IfSome o Q
  from-is o make Q y gap margin is on =
      subst (λ r. IfSome r Q) (sym is)
      (then-is (sum_of_vectors y gap) (λ next. option_map (make next) (sum_of_vectors next margin)) (IsVector (length y)) Q (λ next k. with-proposal next (make next) Q (sum_of_vectors next margin) (λ p h. on next p k h) (sum-small next margin)) (sum-small y gap))

  step-is : (y : List ℕ) → length y ≡ classes → IfSome (newton_step t y) (λ n. (length n.next ≡ classes) × IsVector classes n.proposal)
  unfolding newton_step newton_from
  step-is y same =
      then-is (option_and_then (step_sums t y) (upper_values t y)) (newton_from y) (λ s. Unit {0}) (λ n. (length n.next ≡ classes) × IsVector classes n.proposal)
      (λ s any. from-is (newton_from y s) (λ next p. record { next = next; proposal = p }) (λ n. (length n.next ≡ classes) × IsVector classes n.proposal) y s.gap s.margin refl
      (λ next p h k. let all : length next ≡ classes = h.count ∙ same in (all, subst (λ m. IsVector m p) all k)))
      (if-any (option_and_then (step_sums t y) (upper_values t y)))

  newton-is : (i : ℕ) → IfSome (newton_at t i) (λ n. (length n.next ≡ classes) × IsVector classes n.proposal)
  unfolding newton_at
  newton-is zero = step-is (swept_down t (4 ^ 6)) (length-swept (4 ^ 6))
  newton-is (suc i) = then-is (newton_at t i) (λ n. newton_step t n.next) (λ n. (length n.next ≡ classes) × IsVector classes n.proposal) (λ n. (length n.next ≡ classes) × IsVector classes n.proposal) (λ n k. step-is n.next k.0) (newton-is i)

  proposed : {N : Type 0} (o : Option N) (get : N → List ℕ) (P : N → Type 0) → IfSome o P → ((n : N) → P n → IsVector classes (get n)) → IfSome (option_map get o) (IsVector classes)
  proposed None get P h on = tt
  proposed (Some n) get P h on = on n h

  proposal-is : (i : ℕ) → IfSome (fixed_proposal t i) IsBase
  unfolding fixed_proposal proposal
  proposal-is i = fixed (proposal t i) (proposed (newton_at t i) (λ n. n.proposal) (λ n. (length n.next ≡ classes) × IsVector classes n.proposal) (newton-is i) (λ n k. k.1))

  any-base : IfSome (base_of t) IsBase
  unfolding base_of candidate_base proposed_base
  any-base = or-else IsBase (candidate_base t) (proposed_base t) (first-is IsBase (round_base t) round-is 6) (first-is IsBase (fixed_proposal t) proposal-is 16)

  -- a base that there is
  pub is-base : (base : List ℕ) → base_of t ≡ Some base → IsBase base
  is-base base e = subst (λ o. IfSome o IsBase) e any-base
