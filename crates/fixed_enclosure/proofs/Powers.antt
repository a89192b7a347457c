-- The rounded sequence is on its side of the sums of powers.
use Rattle.std.proofs.Common.{◌≡◌, ℕ, zero, suc, ◌+◌, ◌-◌, ◌*◌, ◌/◌, ◌^◌, ◌<◌, ◌≤◌, Bool, true, false, nat_lt, Some, if◌then◌else◌, arith, refl, sym, subst, ap, pow_pos, pow-add, two-mul, ltb-true, ltb-false}
use Rattle.std.proofs.Math.Nat.{mul-le-mul_left, mul-le-mul_right, le_of_mul-le-mul_right, div-mul-le_self, pow-zero, pow-succ', le_trans, le_refl}
use Rattle.std.proofs.lemmas.Nat.{le-div, mul-le}
use Rattle.fixed_enclosure.specs.Rounded.{greatest, saturated, if_fits, quotient_up, seq_down, seq_up}
use Rattle.fixed_enclosure.specs.Enclosure.{sum_of_powers, IsReachedByPowers, IsAboveAllPowers}
use Rattle.fixed_enclosure.proofs.Quotients.{quotient_up-above, saturated-le, guarded, if_fits-same}

square : (f : ℕ) → 2 ^ (2 * f) ≡ 2 ^ f * 2 ^ f
square f = rw (two-mul, pow-add) refl

-- One divided by less than one is at least one, so a unit can be taken off.
pub one_part : (f a : ℕ) → a < 2 ^ f → 1 ≤ 2 ^ (2 * f) / (2 ^ f - a)
one_part f a h = le-div 1 (2 ^ (2 * f)) (2 ^ f - a) (omega arith) (let wide : 2 ^ f * 1 ≤ 2 ^ f * 2 ^ f = mul-le-mul_left (2 ^ f) (pow_pos f) in omega (arith, square f, wide))

-- The closed form of the sum of powers: D is the number of units in 1, k what is left of it beside a, e and p the powers of D and a.
closed_step : (D a k e p s : ℕ) → D ≡ a + k → s * k + D * p ≡ D * e → (D * e + a * s) * k + D * (a * p) ≡ D * (D * e)
closed_step D a k e p s d h = let m : a * (s * k + D * p) ≡ a * (D * e) = ap (λ x. a * x) h in let g : D * (D * e) ≡ (a + k) * (D * e) = ap (λ x. x * (D * e)) d in omega (arith, m, g)

pub closed : (f a k n : ℕ) → 2 ^ f ≡ a + k → sum_of_powers f a n * k + 2 ^ f * a ^ n ≡ 2 ^ f * (2 ^ f) ^ n
closed f a k zero d = rw (pow-zero (2 ^ f), pow-zero a) (omega arith)
closed f a k (suc n) d =
    let s = sum_of_powers f a n in
    subst (λ e. (e + a * s) * k + 2 ^ f * a ^ suc n ≡ 2 ^ f * e) (sym (pow-succ' (2 ^ f) n))
    (subst (λ p. (2 ^ f * (2 ^ f) ^ n + a * s) * k + 2 ^ f * p ≡ 2 ^ f * (2 ^ f * (2 ^ f) ^ n)) (sym (pow-succ' a n))
    (closed_step (2 ^ f) a k ((2 ^ f) ^ n) (a ^ n) s d (closed f a k n d)))

above_step : (D k e p s v : ℕ) → 0 < k → s * k + D * p ≡ D * e → D * D ≤ v * k → s * D ≤ v * e
above_step D k e p s v pos h enough =
    let part : s * k ≤ D * e = omega arith in
    le_of_mul-le-mul_right {k = k} (omega (arith, mul-le-mul_right e enough, mul-le-mul_right D part)) pos

-- A value v with 1 ≤ v * (1 - a) is at least each sum of powers.
pub above_all : (f a v : ℕ) → a < 2 ^ f → 2 ^ f * 2 ^ f ≤ v * (2 ^ f - a) → IsAboveAllPowers f a v
above_all f a v h enough = record { above = λ n. above_step (2 ^ f) (2 ^ f - a) ((2 ^ f) ^ n) (a ^ n) (sum_of_powers f a n) v (omega arith) (closed f a (2 ^ f - a) n (omega arith)) enough }

-- Below 1, the quotient rounded up is at least each sum of powers.
pub above_quotient : (f a v : ℕ) → a < 2 ^ f → if_fits (quotient_up (2 ^ (2 * f)) (2 ^ f - a)) ≡ Some v → IsAboveAllPowers f a v
above_quotient f a v below e =
    let same : quotient_up (2 ^ (2 * f)) (2 ^ f - a) ≡ v = if_fits-same (quotient_up (2 ^ (2 * f)) (2 ^ f - a)) v e in
    let enough : 2 ^ (2 * f) ≤ quotient_up (2 ^ (2 * f)) (2 ^ f - a) * (2 ^ f - a) = quotient_up-above (2 ^ (2 * f)) (2 ^ f - a) (omega arith) in
    above_all f a v below (subst (λ s. s ≤ v * (2 ^ f - a)) (square f) (subst (λ q. 2 ^ (2 * f) ≤ q * (2 ^ f - a)) same enough))

-- The upper sequence is at least each sum of powers.
pub seq_up-above : (f a v : ℕ) → seq_up f a ≡ Some v → IsAboveAllPowers f a v
seq_up-above f a v e =
    let g = guarded (nat_lt a (2 ^ f)) (if_fits (quotient_up (2 ^ (2 * f)) (2 ^ f - a))) e in
    above_quotient f a v (ltb-true a (2 ^ f) g.0) g.1

-- The powers of a / D fall at least as fast as a / (a + m * k).
fall_step : (a k m p q : ℕ) → p * (a + m * k) ≤ q * a → (a * p) * (a + suc m * k) ≤ ((a + k) * q) * a
fall_step a k m p q h = omega (arith, mul-le-mul_left (a + k) h)

powers_fall : (f a k m : ℕ) → 2 ^ f ≡ a + k → a ^ m * (a + m * k) ≤ (2 ^ f) ^ m * a
powers_fall f a k zero d = rw (pow-zero (2 ^ f), pow-zero a) (omega arith)
powers_fall f a k (suc m) d =
    subst (λ e. a ^ suc m * (a + suc m * k) ≤ e * a) (sym (pow-succ' (2 ^ f) m))
    (subst (λ p. p * (a + suc m * k) ≤ 2 ^ f * (2 ^ f) ^ m * a) (sym (pow-succ' a m))
    (subst (λ D. (a * a ^ m) * (a + suc m * k) ≤ (D * (2 ^ f) ^ m) * a) (sym d)
    (fall_step a k m (a ^ m) ((2 ^ f) ^ m) (powers_fall f a k m d))))

small_step : (a k p q D : ℕ) → 0 < a → p * (a + a * (D * D) * k) ≤ q * a → p * (D * D) * k ≤ q
small_step a k p q D pos h = le_of_mul-le-mul_right {k = a} (omega (arith, h)) pos

less_one : (g x t : ℕ) → g * t ≤ x + t → (g - 1) * t ≤ x
less_one zero x t h = omega arith
less_one (suc g) x t h = let e : g ≡ suc g - 1 = omega arith in subst (λ d. d * t ≤ x) e (omega arith)

reached_step : (D k e p s g : ℕ) → 0 < k → s * k + D * p ≡ D * e → p * (D * D) * k ≤ e → g * k ≤ D * D → (g - 1) * e ≤ s * D
reached_step D zero e p s g pos h small part = absurd (omega arith)
reached_step D (suc k) e p s g pos h small part =
    let whole : D * (s * suc k + D * p) ≡ D * (D * e) = ap (λ x. D * x) h in
    less_one g (s * D) e (le_of_mul-le-mul_right {k = suc k} (omega (arith, whole, small, mul-le-mul_right e part)) pos)

-- Below 1, one unit less than the quotient is reached by a * 2^(2f) powers.
pub reached_below : (f a : ℕ) → 0 < a → a < 2 ^ f → IsReachedByPowers f a (2 ^ (2 * f) / (2 ^ f - a) - 1)
reached_below f a pos below =
    let k = 2 ^ f - a in
    let n = a * (2 ^ f * 2 ^ f) in
    let part : 2 ^ (2 * f) / k * k ≤ 2 ^ f * 2 ^ f = subst (λ s. 2 ^ (2 * f) / k * k ≤ s) (square f) (div-mul-le_self (2 ^ (2 * f)) k) in
    let small = small_step a k (a ^ n) ((2 ^ f) ^ n) (2 ^ f) pos (powers_fall f a k n (omega arith)) in
    record { count = n; reached = reached_step (2 ^ f) k ((2 ^ f) ^ n) (a ^ n) (sum_of_powers f a n) (2 ^ (2 * f) / k) (omega arith) (closed f a k n (omega arith)) small part }

-- From 1 on, n powers are at least n.
pub powers_grow : (f a n : ℕ) → 2 ^ f ≤ a → n * (2 ^ f) ^ n ≤ sum_of_powers f a n
powers_grow f a zero h = omega arith
powers_grow f a (suc n) h =
    let p : (2 ^ f) ^ suc n ≡ 2 ^ f * (2 ^ f) ^ n = pow-succ' (2 ^ f) n in
    let m : 2 ^ f * (n * (2 ^ f) ^ n) ≤ a * sum_of_powers f a n = mul-le (2 ^ f) (n * (2 ^ f) ^ n) a (sum_of_powers f a n) h (powers_grow f a n h) in
    subst (λ e. suc n * e ≤ e + a * sum_of_powers f a n) (sym p) (omega (arith, m))

-- From 1 on, each number is reached.
pub reached_from_one : (f a v n : ℕ) → 2 ^ f ≤ a → v ≤ n → IsReachedByPowers f a v
reached_from_one f a v n h within =
    let some : v * (2 ^ f) ^ n ≤ n * (2 ^ f) ^ n = mul-le-mul_right ((2 ^ f) ^ n) within in
    let one : sum_of_powers f a n * 1 ≤ sum_of_powers f a n * 2 ^ f = mul-le-mul_left (sum_of_powers f a n) (pow_pos f) in
    record { count = n; reached = omega (arith, some, powers_grow f a n h, one) }

-- A lesser value is reached where a greater one is.
pub reached-less : (f a v w : ℕ) → v ≤ w → IsReachedByPowers f a w → IsReachedByPowers f a v
reached-less f a v w h r = record { count = r.count; reached = le_trans (mul-le-mul_right ((2 ^ f) ^ r.count) h) r.reached }

by_test : (b : Bool) (P : ℕ → Type 0) {x y : ℕ} → (b ≡ true → P x) → (b ≡ false → P y) → P (if b then x else y)
by_test true P h k = h refl
by_test false P h k = k refl

-- The lower sequence is reached by finitely many powers.
pub seq_down-reached : (f a : ℕ) → IsReachedByPowers f a (seq_down f a)
seq_down-reached f zero = record { count = 1; reached = omega (arith, pow-succ' (2 ^ f) 0, pow-zero (2 ^ f)) }
seq_down-reached f (suc a) =
    by_test (nat_lt (suc a) (2 ^ f)) (λ v. IsReachedByPowers f (suc a) v)
    (λ t. reached-less f (suc a) (saturated (2 ^ (2 * f) / (2 ^ f - suc a) - 1)) (2 ^ (2 * f) / (2 ^ f - suc a) - 1) (saturated-le (2 ^ (2 * f) / (2 ^ f - suc a) - 1)) (reached_below f (suc a) (omega arith) (ltb-true (suc a) (2 ^ f) t)))
    (λ t. reached_from_one f (suc a) greatest greatest (ltb-false (suc a) (2 ^ f) t) (le_refl greatest))
