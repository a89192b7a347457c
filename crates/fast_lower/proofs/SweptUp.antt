-- Upper sweeps from a base, one after another.
use Rattle.std.proofs.Common.{◌≡◌, ℕ, ◌+◌, ◌<◌, List, length, refl, sym, ap, subst, ◌∙◌, add-one, Option}
use Rattle.bz_model.specs.Spec.{Spec}
use Rattle.rounded_map.specs.RoundedMap.{Setting, setting, sweep_up, bodies_up, values_up, IsPostFixed, IsFirstAbove}
use Rattle.rounded_map.proofs.MapMonotone.{sweeps_up-post_fixed}
use Rattle.newton_upper.proofs.FixedTest.{unfixed}
use Rattle.rounded_map.proofs.FixedTests.{length-fixed}
use Rattle.fast_lower.specs.FastVector.{swept_up}

-- After no upper sweeps from a base the vector is the base itself.
pub swept-none : (t : Setting) (v : List ℕ) → v ≡ swept_up t v 0
unfolding swept_up
swept-none t v = refl

-- One more upper sweep of the vector after n upper sweeps from a base gives the one after n + 1.
pub swept-more : (t : Setting) (v now next : List ℕ) (n m : ℕ) → m ≡ n + 1 → now ≡ swept_up t v n → next ≡ sweep_up t now → next ≡ swept_up t v m
unfolding swept_up
swept-more t v now next n m one so_far is = is ∙ ap (sweep_up t) so_far ∙ ap (λ (k : ℕ). swept_up t v k) (sym (one ∙ add-one n))

pub swept-fixed : (t : Setting) (v : List ℕ) (n : ℕ) → 0 < t.bits → IsPostFixed t v → IsPostFixed t (swept_up t v n)
unfolding swept_up
swept-fixed t v n bits fixed = sweeps_up-post_fixed t n v bits fixed

-- The upper vector, where the code's system is the specification.
module _ (s founded : Spec) (num den F : ℕ) (same : s ≡ founded) (base : List ℕ) where
  pub upper-is : (whole new old items : List ℕ) (n m : ℕ) → whole ≡ new → new ≡ swept_up (setting s num den F) old n → old ≡ items → items ≡ base → n ≡ m → whole ≡ swept_up (setting founded num den F) base m
  upper-is whole new old items n m whole_is new_is old_is items_are count =
      whole_is ∙ new_is ∙ ap (λ (v : List ℕ). swept_up (setting s num den F) v n) (old_is ∙ items_are) ∙ ap (λ (r : Spec). swept_up (setting r num den F) base n) same ∙ ap (swept_up (setting founded num den F) base) count

  pub whole-fixed : (whole : List ℕ) (m : ℕ) → 0 < F → IsPostFixed (setting founded num den F) base → whole ≡ swept_up (setting founded num den F) base m → IsPostFixed (setting founded num den F) whole
  whole-fixed whole m bits fixed is = subst (λ v. IsPostFixed (setting founded num den F) v) (sym is) (swept-fixed (setting founded num den F) base m bits fixed)

  pub whole-length : (whole : List ℕ) (m : ℕ) → 0 < F → IsPostFixed (setting founded num den F) base → whole ≡ swept_up (setting founded num den F) base m → length whole ≡ length founded.bodies
  whole-length whole m bits fixed is = length-fixed (setting founded num den F) whole (whole-fixed whole m bits fixed is)

  pub no-fault : (whole : List ℕ) (m place : ℕ) (got : Option ℕ) → 0 < F → IsPostFixed (setting founded num den F) base → whole ≡ swept_up (setting founded num den F) base m → IsFirstAbove (bodies_up (setting founded num den F) (values_up (setting founded num den F) whole)) whole place got → ⊥
  no-fault whole m place got bits fixed is fault = unfixed (setting founded num den F) whole place got fault (whole-fixed whole m bits fixed is)
