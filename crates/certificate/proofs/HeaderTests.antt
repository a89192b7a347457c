-- The tests of the lines before the base.
use Rattle.std.proofs.Common.{◌≡◌, ◌≢◌, ℕ, ◌+◌, ◌-◌, arith, inl, inr, List, [], ◌∷◌, ◌++◌, refl, sym, ◌∙◌, ap}
use Rattle.bz_model.specs.Spec.{Spec}
use Rattle.class_system.specs.Views.{spec_mode}
use Rattle.certificate.specs.declared.certificate.Header.{Header}
use Rattle.certificate.specs.declared.reason.Reason.TheVariants as reason
use Rattle.certificate.specs.declared.reason.Verdict.{Verdict}
use Rattle.certificate.specs.declared.reason.Verdict.TheVariants.{Valid, Invalid}
use Rattle.certificate.specs.Checks.{check, header_checks, digest_checks, digest_count, HasFraction, HasWindow}
use Rattle.certificate.specs.Verdicts.{Check, FirstFails}
use Rattle.certificate.proofs.Chains.{passes-then, fails-first}

-- the tests of the fraction bits and the window
abbrev pub limit_checks : (F : ℕ) → Header → List Check
limit_checks F h = check (HasFraction F h) (4 + digest_count h.digest) reason.Fraction ∷ check (HasWindow h) (5 + digest_count h.digest) reason.Window ∷ []

-- If the fraction bits are not those demanded, the tests of the limits tell so at the line two
-- before the base.
pub fraction-fails : (F : ℕ) (h : Header) (line at : ℕ) → line ≡ 6 + digest_count h.digest → at ≡ line - 2 → ¬ (HasFraction F h) → FirstFails (limit_checks F h) (Invalid at reason.Fraction)
fraction-fails F h line at is there never = inr (never, ap (λ n. Invalid n reason.Fraction) (let z : at ≡ 4 + digest_count h.digest = omega arith in z))

-- If the fraction bits are those demanded but the window is none, the tests of the limits tell so
-- at the line before the base.
pub window-fails : (F : ℕ) (h : Header) (line at : ℕ) → line ≡ 6 + digest_count h.digest → at ≡ line - 1 → HasFraction F h → ¬ (HasWindow h) → FirstFails (limit_checks F h) (Invalid at reason.Window)
window-fails F h line at is there ok never = inl (ok, inr (never, ap (λ n. Invalid n reason.Window) (let z : at ≡ 5 + digest_count h.digest = omega arith in z)))

-- Where the fraction bits are those demanded and the window is one of sizes up to 1000000, the
-- tests of the limits pass.
pub limits-pass : (F : ℕ) (h : Header) → HasFraction F h → HasWindow h → FirstFails (limit_checks F h) Valid
limits-pass F h ok there = inl (ok, inl (there, refl))

-- If the mode isn't that of the specification, the tests of the header tell so at line 2.
pub mode-fails : (s : Spec) (F : ℕ) (h : Header) → spec_mode h.mode ≢ s.mode → FirstFails (header_checks s F h) (Invalid 2 reason.Mode)
mode-fails s F h never = inr (never, refl)

-- If the mode is that of the specification and the digest's test fails, the tests of the header
-- tell at line 3 that it is of another specification.
pub digest-fails : (s : Spec) (F : ℕ) (h : Header) → spec_mode h.mode ≡ s.mode → FirstFails (digest_checks s h.digest) (Invalid 3 reason.Spec) → FirstFails (header_checks s F h) (Invalid 3 reason.Spec)
digest-fails s F h mode never = inl (mode, fails-first (digest_checks s h.digest) (limit_checks F h) (Invalid 3 reason.Spec) never (λ e. let none : ⊥ = cc in none))

-- If the mode is that of the specification and the digest's test passes, the header's tests have
-- the verdict of the limits' tests.
pub header-rest : (s : Spec) (F : ℕ) (h : Header) (v : Verdict) → spec_mode h.mode ≡ s.mode → FirstFails (digest_checks s h.digest) Valid → FirstFails (limit_checks F h) v → FirstFails (header_checks s F h) v
header-rest s F h v mode ok rest = inl (mode, passes-then (digest_checks s h.digest) (limit_checks F h) v ok rest)

-- what the window's test says where the tests pass
window-at : (F : ℕ) (h : Header) → FirstFails (limit_checks F h) Valid → HasWindow h
window-at F h (inl (ok, inl (there, is))) = there
window-at F h (inl (ok, inr (never, is))) = let none : ⊥ = cc in absurd none
window-at F h (inr (never, is)) = let none : ⊥ = cc in absurd none

behind : (first more : List Check) → FirstFails (first ++ more) Valid → FirstFails more Valid
behind [] more h = h
behind (c ∷ cs) more (inl p) = behind cs more p.1
behind (c ∷ cs) more (inr q) = let none : ⊥ = (let e = q.1 in cc) in absurd none

-- Where all tests of a header pass, its window is one of sizes up to 1000000.
pub header-window : (s : Spec) (F : ℕ) (h : Header) → FirstFails (header_checks s F h) Valid → HasWindow h
header-window s F h (inl p) = window-at F h (behind (digest_checks s h.digest) (limit_checks F h) p.1)
header-window s F h (inr q) = let none : ⊥ = (let e = q.1 in cc) in absurd none
