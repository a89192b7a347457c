-- Which candidates pass, from what the test of a vector tells.
use Rattle.std.proofs.Common.{◌≡◌, ℕ, zero, suc, ◌-◌, ◌*◌, ◌<◌, ◌≤◌, true, false, cond, ◌&&◌, Bool, List, [], ◌∷◌, length, Option, Some, None, refl, sym, ap, subst, ◌∙◌, arith, leb}
use Rattle.std.specs.Prelude.{slice_index, option_map}
use Rattle.std.specs.List.{list_all, AllZip}
use Rattle.std.proofs.lemmas.Bool.{le-leb, lt-leb}
use Rattle.std.proofs.lemmas.List.{length-map}
use Rattle.fixed_enclosure.specs.UpperValues.{AreAtMost}
use Rattle.rounded_map.specs.RoundedMap.{Setting, value_at, at_each, values_down, values_up, bodies_down}
use Rattle.rounded_map.specs.Contracting.{IsLess, body_slopes}
use Rattle.newton_upper.specs.Below.{first_below}
use Rattle.newton_upper.proofs.ResultsBelow.{first-found}
use Rattle.fast_lower.specs.Contraction.{is_pre_fixed, is_less, is_contracting}
use Rattle.fast_lower.specs.FastVector.{lowered, if_passes}
use Rattle.fast_lower.specs.FastChecks.{IsFirst, IsZeroAt, PassesAll, IsNotBelow, IsNotPreFixed, IsNotContracting}

both-false : (b : Bool) → (b && false) ≡ false
both-false true = refl
both-false false = refl

-- The test of a vector and its image, and of slopes and weights.
most-holds : (xs ys : List ℕ) → AreAtMost xs ys → list_all (λ b. b) (at_each (λ x y. leb x y) xs ys) ≡ true
most-holds [] [] p = refl
most-holds [] (y ∷ ys) p = absurd p
most-holds (x ∷ xs) [] p = absurd p
most-holds (x ∷ xs) (y ∷ ys) p = subst (λ b. (b && list_all (λ c. c) (at_each (λ v w. leb v w) xs ys)) ≡ true) (sym (le-leb x y p.0)) (most-holds xs ys p.1)

most-fails : (xs ys : List ℕ) (c : ℕ) → length ys ≡ length xs → c < length xs → slice_index ys c < slice_index xs c → list_all (λ b. b) (at_each (λ x y. leb x y) xs ys) ≡ false
most-fails [] ys c same within above = absurd (omega arith)
most-fails (x ∷ xs) [] c same within above = absurd (omega arith)
most-fails (x ∷ xs) (y ∷ ys) zero same within above = subst (λ b. (b && list_all (λ c. c) (at_each (λ v w. leb v w) xs ys)) ≡ false) (sym (lt-leb x y above)) refl
most-fails (x ∷ xs) (y ∷ ys) (suc c) same within above =
    subst (λ b. (leb x y && b) ≡ false) (sym (most-fails xs ys c (omega arith) (omega arith) above)) (both-false (leb x y))

less-holds : (us : List (Option ℕ)) (ws : List ℕ) → AllZip IsLess us ws → list_all (λ b. b) (at_each is_less us ws) ≡ true
less-holds [] [] p = refl
less-holds [] (w ∷ ws) p = absurd p
less-holds (u ∷ us) [] p = absurd p
less-holds (None ∷ us) (w ∷ ws) p = absurd p.0
less-holds (Some v ∷ us) (w ∷ ws) p = subst (λ b. (b && list_all (λ c. c) (at_each is_less us ws)) ≡ true) (sym (le-leb (suc v) w p.0)) (less-holds us ws p.1)

not-less : (u : Option ℕ) (w : ℕ) → ¬ IsLess u w → is_less u w ≡ false
not-less None w n = refl
not-less (Some v) w n = lt-leb (suc v) w (omega (arith, n))

less-fails : (us : List (Option ℕ)) (ws : List ℕ) (c : ℕ) → length us ≡ length ws → c < length ws → ¬ IsLess (value_at us c) (slice_index ws c) → list_all (λ b. b) (at_each is_less us ws) ≡ false
less-fails us [] c same within n = absurd (omega arith)
less-fails [] (w ∷ ws) c same within n = absurd (omega arith)
less-fails (u ∷ us) (w ∷ ws) zero same within n = subst (λ b. (b && list_all (λ c. c) (at_each is_less us ws)) ≡ false) (sym (not-less u w n)) refl
less-fails (u ∷ us) (w ∷ ws) (suc c) same within n =
    subst (λ b. (is_less u w && b) ≡ false) (sym (less-fails us ws c (omega arith) (omega arith) n)) (both-false (is_less u w))

never-less : (u : Option ℕ) (w : ℕ) → w ≡ 0 → ¬ IsLess u w
never-less None w none = λ h. h
never-less (Some v) w none = λ h. omega arith

second-false : (b : Bool) → cond b false false ≡ false
second-false true = refl
second-false false = refl

lowered-most : (us ws : List ℕ) (f c : ℕ) → slice_index (at_each (λ u v. u - f * v) us ws) c ≤ slice_index us c
lowered-most [] ws f c = omega arith
lowered-most (u ∷ us) [] f c = omega arith
lowered-most (u ∷ us) (w ∷ ws) f zero = omega arith
lowered-most (u ∷ us) (w ∷ ws) f (suc c) = lowered-most us ws f c

module _ (t : Setting) (upper low weights : List ℕ) where
  -- A vector that passes all tests is a candidate that passes.
  pub passes-all : PassesAll t upper low weights → if_passes t upper weights low ≡ Some low
  unfolding if_passes
  passes-all h =
      let a = most-holds low (bodies_down t (values_down t low)) h.low_vector.pre_fixed.each in
      let b = less-holds (body_slopes t (values_up t upper) weights) weights h.contracting.each in
      ap (λ (p : Bool). cond (cond p (is_contracting t upper weights) false) (Some low) None) a ∙ ap (λ (p : Bool). cond p (Some low) None) b

  module _ (lengths : length low ≡ length t.spec.bodies) (weight_lengths : length weights ≡ length t.spec.bodies) where
    image-length : length (bodies_down t (values_down t low)) ≡ length low
    image-length = length-map t.spec.bodies (slice_index (values_down t low)) ∙ sym lengths

    slopes-length : length (body_slopes t (values_up t upper) weights) ≡ length weights
    slopes-length = length-map t.spec.bodies _ ∙ sym weight_lengths

    not-pre_fixed : is_pre_fixed t low ≡ false → if_passes t upper weights low ≡ None
    unfolding if_passes
    not-pre_fixed is = ap (λ (p : Bool). cond (cond p (is_contracting t upper weights) false) (Some low) None) is

    not-contracting : is_contracting t upper weights ≡ false → if_passes t upper weights low ≡ None
    unfolding if_passes
    not-contracting is = ap (λ (p : Bool). cond (cond (is_pre_fixed t low) p false) (Some low) None) is ∙ ap (λ (p : Bool). cond p (Some low) None) (second-false (is_pre_fixed t low))

    pub fails-zero : (c : ℕ) → IsFirst (IsZeroAt weights) (length weights) c → if_passes t upper weights low ≡ None
    fails-zero c h = not-contracting (less-fails (body_slopes t (values_up t upper) weights) weights c slopes-length h.within (never-less (value_at (body_slopes t (values_up t upper) weights) c) (slice_index weights c) h.here))

    pub fails-pre_fixed : (c : ℕ) → IsNotPreFixed t upper low weights c → if_passes t upper weights low ≡ None
    fails-pre_fixed c h = not-pre_fixed (most-fails low (bodies_down t (values_down t low)) c image-length h.first.within h.first.here)

    pub fails-contracting : (c : ℕ) → IsNotContracting t upper low weights c → if_passes t upper weights low ≡ None
    fails-contracting c h = not-contracting (less-fails (body_slopes t (values_up t upper) weights) weights c slopes-length h.first.within h.first.not_less)

-- No entry of a candidate is above the upper vector's.
pub never-above : (upper weights low : List ℕ) (f c : ℕ) → low ≡ lowered upper weights f → IsNotBelow upper low weights c → ⊥
unfolding lowered
never-above upper weights low f c is h =
    let most = lowered-most upper weights f c in
    let same : slice_index low c ≡ slice_index (at_each (λ u v. u - f * v) upper weights) c = ap (λ vs. slice_index vs c) is in
    let above = h.first.here in
    omega arith

-- A value of which an operation makes none, and one of which it makes one.
pub mapped-none : {V W : Type 0} (f : V → W) (o : Option V) → None ≡ option_map f o → o ≡ None
mapped-none f None is = refl
mapped-none f (Some v) is = absurd (cc)

-- An operation on an optional value that is missing gives none.
pub mapped-none' : {V W : Type 0} (f : V → W) (o : Option V) → o ≡ None → None ≡ option_map f o
mapped-none' f None is = refl
mapped-none' f (Some v) is = absurd (cc)

-- If g has no value below k and has one at k, where k < n, its first value below n is the one at k,
-- also after an operation f.
pub mapped-first : {V : Type 0} {W : Type 0} (f : V → W) (g : ℕ → Option V) (k n : ℕ) (w : W) → first_below g k ≡ None → Some w ≡ option_map f (g k) → k < n → Some w ≡ option_map f (first_below g n)
mapped-first {V = V} f g k n w so_far is below = go (g k) refl is
  where
    go : (o : Option V) → g k ≡ o → Some w ≡ option_map f o → Some w ≡ option_map f (first_below g n)
    go None here none = absurd (cc)
    go (Some v) here same = same ∙ sym (ap (option_map f) (first-found g k n v so_far here below))
