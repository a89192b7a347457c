-- The loop that divides by 2, by 3, and so on.
use Rattle.std.proofs.Common.{◌≡◌, ℕ, zero, suc, ◌+◌, ◌-◌, ◌≤◌, [], ◌∷◌, length, arith, refl, ap, sym, subst}
use Rattle.std.specs.Prelude.{max}
use Rattle.bz_model.specs.Fraction.{times, ratio}
use Rattle.chance_law.specs.declared.scaled.Scaled.{Scaled}
use Rattle.chance_law.specs.Scaled.{value, IsRoundedDown, IsRoundedUp}
use Rattle.chance_law.specs.Factors.{Factor, over_two_to}
use Rattle.chance_law.specs.Chance.{LeadsDown, LeadsUp}
use Rattle.chance_law.proofs.Come.{leads-down, leads-up}
use Rattle.chance_law.proofs.FewFactors.{length-over}

-- One division more.
pub one-more-down : (x s t u : Scaled) (d : ℕ) → 2 ≤ d → LeadsDown x s (over_two_to (d - 1)) t → IsRoundedDown (times (value t) (ratio 1 d)) u → LeadsDown x s (over_two_to (d + 1 - 1)) u
one-more-down x s t u zero two h r = absurd (omega arith)
one-more-down x s t u (suc zero) two h r = absurd (omega arith)
one-more-down x s t u (suc (suc k)) two h r =
    let before : suc (suc k) - 1 ≡ suc k = omega arith in
    let after : suc (suc k) + 1 - 1 ≡ suc (suc k) = omega arith in
    let P : ℕ → Type 0 = λ n. LeadsDown x s (over_two_to n) t in
    let Q : ℕ → Type 0 = λ n. LeadsDown x s (over_two_to n) u in
    subst Q (sym after) (leads-down x (over_two_to (suc k)) (Factor.Over (suc (suc k)) ∷ []) s t u (subst P before h) (u, r, refl))

-- Where dividing by each of 2 to d - 1, rounded up, leads from s to t, and t / d is rounded up to
-- u, dividing by each of 2 to d leads to u.
pub one-more-up : (x s t u : Scaled) (d : ℕ) → 2 ≤ d → LeadsUp x s (over_two_to (d - 1)) t → IsRoundedUp (times (value t) (ratio 1 d)) u → LeadsUp x s (over_two_to (d + 1 - 1)) u
one-more-up x s t u zero two h r = absurd (omega arith)
one-more-up x s t u (suc zero) two h r = absurd (omega arith)
one-more-up x s t u (suc (suc k)) two h r =
    let before : suc (suc k) - 1 ≡ suc k = omega arith in
    let after : suc (suc k) + 1 - 1 ≡ suc (suc k) = omega arith in
    let P : ℕ → Type 0 = λ n. LeadsUp x s (over_two_to n) t in
    let Q : ℕ → Type 0 = λ n. LeadsUp x s (over_two_to n) u in
    subst Q (sym after) (leads-up x (over_two_to (suc k)) (Factor.Over (suc (suc k)) ∷ []) s t u (subst P before h) (u, r, refl))

-- With one division more, one factor more.
pub one-longer : (d : ℕ) → 2 ≤ d → length (over_two_to (d + 1 - 1)) ≡ length (over_two_to (d - 1)) + 1
one-longer d two = let a = length-over (d + 1 - 1) in let b = length-over (d - 1) in omega arith

-- Where the loop ends all divisions are done.
pub all-divided : (d k : ℕ) → 2 ≤ d → d ≤ max 2 (k + 1) → k + 1 ≤ d → over_two_to (d - 1) ≡ over_two_to k
all-divided d zero two upto from = let e : d - 1 ≡ suc zero = omega arith in ap over_two_to e
all-divided d (suc k) two upto from = let e : d - 1 ≡ suc k = omega arith in ap over_two_to e
