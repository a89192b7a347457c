-- The three series as the rules of rounding sum them: from low on, the terms before it left out.
use Rattle.std.proofs.Common.{◌≡◌, ℕ, zero, suc, ◌+◌, ◌-◌, ◌*◌, ◌/◌, ◌^◌, ◌<◌, ◌≤◌, List, drop, sum, arith, subst, pow_pos}
use Rattle.std.proofs.Math.Nat.{div-mul-le_self, mul-le-mul_right}
use Rattle.std.proofs.lemmas.List.Sums.{sum_by-cons}
use Rattle.bz_model.specs.Fraction.{Fraction, AtMost, times, whole, units, power, sum_from}
use Rattle.fixed_enclosure.specs.Rounded.{Side, quotient_up}
use Rattle.series_bounds.specs.Series.{Kind, carried, term, terms_from, log_rest}
use Rattle.series_bounds.specs.ExactSums.{first_term, exact}
use Rattle.series_bounds.proofs.Terms.{Encloses, end, next, carried-up, carried-down, term-up, enclosed, terms-up, terms-down}
use Rattle.series_bounds.proofs.Fractions.{AtMost-trans, AtMost-refl, plus-mono, times-mono, times-assoc, times-assoc', times-plus, times-plus', zero-least, plus-right, units-mono, units-plus}
use Rattle.fixed_enclosure.proofs.Quotients.{quotient_up-above}
use Rattle.series_bounds.proofs.Tails.{set-rest, cyc-rest, seq-above, geometric_up}

-- fewer terms
pub sum_from-mono : (e : ℕ → Fraction) (j : ℕ) {m n : ℕ} → m ≤ n → AtMost (sum_from e j m) (sum_from e j n)
sum_from-mono e j {m} {n} h = go j m n h
  where
    go : (j m n : ℕ) → m ≤ n → AtMost (sum_from e j m) (sum_from e j n)
    go j zero n h = zero-least _
    go j (suc m) zero h = absurd (omega arith)
    go j (suc m) (suc n) h = plus-mono (AtMost-refl (e j)) (go (suc j) m n (omega arith))

-- what is left from a later term on is less
pub sum_from-later : (e : ℕ → Fraction) (d j l n : ℕ) → l ≡ j + d → AtMost (sum_from e l n) (sum_from e j (n + d))
sum_from-later e zero j l n eq = subst (λ i. AtMost (sum_from e i n) (sum_from e j (n + 0))) here (sum_from-mono e j (omega arith))
  where
    here : j ≡ l
    here = omega arith
sum_from-later e (suc d) j l n eq =
    AtMost-trans (sum_from-later e d (suc j) l n (omega arith))
    (AtMost-trans (plus-right (e j) (sum_from e (suc j) (n + d))) (subst (λ m. AtMost (sum_from e j (suc (n + d))) (sum_from e j m)) same (AtMost-refl _)))
  where
    same : suc (n + d) ≡ n + suc d
    same = omega arith

-- a list that encloses still does with its first terms left out, and with more left out than it has
pub enclosed-drop : (f : ℕ) {e : ℕ → Fraction} {rest j : ℕ} {ts : List ℕ} (d l : ℕ) → l ≡ j + d → Encloses f e rest j ts → Encloses f e rest l (drop d ts)
enclosed-drop f {e} {rest} {j} {ts} zero l eq h = subst (λ i. Encloses f e rest i ts) here h
  where
    here : j ≡ l
    here = omega arith
enclosed-drop f {e} (suc d) l eq (end {j = j} h) = end (λ n. AtMost-trans (sum_from-later e (suc d) j l n eq) (h (n + suc d)))
enclosed-drop f (suc d) l eq (next t h) = enclosed-drop f d l (omega arith) h

-- the upper exponential from low on
pub set-above : (F a low : ℕ) → a ≤ 16 * 2 ^ F → (n : ℕ) → AtMost (sum_from (exact Kind.Set (units F a)) low n) (units F (sum (drop low (terms_from Side.Up Kind.Set F a 128 0 (2 ^ F))) + 2 * carried Side.Up Kind.Set F a 128))
set-above F a low h = enclosed F (enclosed-drop F low low (omega arith) (terms-up Kind.Set F a (2 * carried Side.Up Kind.Set F a 128) 128 0 128 (omega arith) (omega arith) (set-rest F a 128 h (omega arith))))

-- the upper logarithm from low on, summed up to any term J
pub cyc-above : (F a low J : ℕ) → a < 2 ^ F → 1 ≤ low → (n : ℕ) → AtMost (sum_from (exact Kind.Cyc (units F a)) low n) (units F (sum (drop low (terms_from Side.Up Kind.Cyc F a (suc J) 0 (2 ^ F))) + log_rest F a J))
cyc-above F a zero J h p = absurd (omega arith)
cyc-above F a (suc low) J h p = enclosed F (enclosed-drop F low (suc low) (omega arith) (terms-up Kind.Cyc F a (log_rest F a J) J 1 (suc J) (omega arith) (omega arith) (cyc-rest F a J h)))

-- the sum of rounded-up terms is at least that of as many exact ones
terms-sum-up : (kind : Kind) (F a n j t : ℕ) → first_term kind ≤ j → t ≤ n → AtMost (sum_from (exact kind (units F a)) j t) (units F (sum (terms_from Side.Up kind F a n j (carried Side.Up kind F a j))))
terms-sum-up kind F a n j zero h le = zero-least _
terms-sum-up kind F a zero j (suc t) h le = absurd (omega arith)
terms-sum-up kind F a (suc n) j (suc t) h le =
    let c = term Side.Up kind j (carried Side.Up kind F a j) in
    let ts = terms_from Side.Up kind F a n (suc j) (carried Side.Up kind F a (suc j)) in
    AtMost-trans (plus-mono (term-up kind F a j h) (terms-sum-up kind F a n (suc j) t (omega arith) (omega arith)))
    (AtMost-trans (units-plus F c (sum ts)) (units-mono F (omega (arith, sum_by-cons (λ x. x) c ts))))

-- the upper sum of the first n terms, those before low left out
pub partial-above : (kind : Kind) (F a low n t : ℕ) → first_term kind ≤ low → t ≤ n - low → AtMost (sum_from (exact kind (units F a)) low t) (units F (sum (drop low (terms_from Side.Up kind F a n 0 (2 ^ F)))))
partial-above kind F a low n t h le = go low n 0 low (omega arith) h le
  where
    go : (low n j l : ℕ) → l ≡ j + low → first_term kind ≤ l → t ≤ n - low → AtMost (sum_from (exact kind (units F a)) l t) (units F (sum (drop low (terms_from Side.Up kind F a n j (carried Side.Up kind F a j)))))
    go zero n j l eq h le =
        let here : l ≡ j = omega arith in
        let back : j ≡ l = omega arith in
        subst (λ i. AtMost (sum_from (exact kind (units F a)) i t) (units F (sum (terms_from Side.Up kind F a n j (carried Side.Up kind F a j))))) back (terms-sum-up kind F a n j t (omega arith) (omega arith))
    go (suc low) zero j l eq h le =
        let no_term : 0 ≡ t = omega arith in
        subst (λ i. AtMost (sum_from (exact kind (units F a)) l i) (units F 0)) no_term (zero-least _)
    go (suc low) (suc n) j l eq h le = go low n (suc j) l (omega arith) h (omega arith)

-- the lower sum of the first n terms, those before low left out
pub partial-below : (kind : Kind) (F a low n t : ℕ) → n ≤ t + low → AtMost (units F (sum (drop low (terms_from Side.Down kind F a n 0 (2 ^ F))))) (sum_from (exact kind (units F a)) low t)
partial-below kind F a low n t le = go low n 0 low (omega arith) le
  where
    go : (low n j l : ℕ) → l ≡ j + low → n ≤ t + low → AtMost (units F (sum (drop low (terms_from Side.Down kind F a n j (carried Side.Down kind F a j))))) (sum_from (exact kind (units F a)) l t)
    go zero n j l eq le = let here : j ≡ l = omega arith in subst (λ i. AtMost (units F (sum (terms_from Side.Down kind F a n j (carried Side.Down kind F a j)))) (sum_from (exact kind (units F a)) i t)) here (AtMost-trans (terms-down kind F a n j) (sum_from-mono (exact kind (units F a)) j (omega arith)))
    go (suc low) zero j l eq le = omega arith
    go (suc low) (suc n) j l eq le = go low n (suc j) l (omega arith) (omega arith)

-- powers multiply
pub power-add : (a : Fraction) (i j l : ℕ) → l ≡ i + j → AtMost (power a l) (times (power a i) (power a j))
power-add a zero j l eq = let here : j ≡ l = omega arith in subst (λ k. AtMost (power a k) (times (power a 0) (power a j))) here (omega arith)
power-add a (suc i) j zero eq = absurd (omega arith)
power-add a (suc i) j (suc l) eq = AtMost-trans (times-mono (AtMost-refl a) (power-add a i j l (omega arith))) (times-assoc' a (power a i) (power a j))

pub power-add' : (a : Fraction) (i j l : ℕ) → l ≡ i + j → AtMost (times (power a i) (power a j)) (power a l)
power-add' a zero j l eq = let here : j ≡ l = omega arith in subst (λ k. AtMost (times (power a 0) (power a j)) (power a k)) here (omega arith)
power-add' a (suc i) j zero eq = absurd (omega arith)
power-add' a (suc i) j (suc l) eq = AtMost-trans (times-assoc a (power a i) (power a j)) (times-mono (AtMost-refl a) (power-add' a i j l (omega arith)))

one_before : (a b c : Fraction) → AtMost a (times b c) → AtMost (times (whole 1) a) (times b (times (whole 1) c))
one_before a b c h = AtMost-trans (times-mono (AtMost-refl (whole 1)) h) (swap b c)
  where
    swap : (b c : Fraction) → AtMost (times (whole 1) (times b c)) (times b (times (whole 1) c))
    swap b c = omega arith

one_before' : (a b c : Fraction) → AtMost (times b c) a → AtMost (times b (times (whole 1) c)) (times (whole 1) a)
one_before' a b c h = AtMost-trans (swap b c) (times-mono (AtMost-refl (whole 1)) h)
  where
    swap : (b c : Fraction) → AtMost (times b (times (whole 1) c)) (times (whole 1) (times b c))
    swap b c = omega arith

-- the powers from i on are the power i times the powers
pub seq-shift : (a : Fraction) (i j l n : ℕ) → l ≡ i + j → AtMost (sum_from (exact Kind.Seq a) l n) (times (power a i) (sum_from (exact Kind.Seq a) j n))
seq-shift a i j l zero eq = zero-least _
seq-shift a i j l (suc n) eq = AtMost-trans (plus-mono (one_before (power a l) (power a i) (power a j) (power-add a i j l eq)) (seq-shift a i (suc j) (suc l) n (omega arith))) (times-plus' (power a i) (exact Kind.Seq a j) (sum_from (exact Kind.Seq a) (suc j) n))

pub seq-shift' : (a : Fraction) (i j l n : ℕ) → l ≡ i + j → AtMost (times (power a i) (sum_from (exact Kind.Seq a) j n)) (sum_from (exact Kind.Seq a) l n)
seq-shift' a i j l zero eq = omega arith
seq-shift' a i j l (suc n) eq = AtMost-trans (times-plus (power a i) (exact Kind.Seq a j) (sum_from (exact Kind.Seq a) (suc j) n)) (plus-mono (one_before' (power a l) (power a i) (power a j) (power-add' a i j l eq)) (seq-shift' a i (suc j) (suc l) n (omega arith)))

-- the product of two values, rounded
pub product-up : (F x y : ℕ) → AtMost (times (units F x) (units F y)) (units F (quotient_up (x * y) (2 ^ F)))
product-up F x y = record { cross = go (2 ^ F) (quotient_up (x * y) (2 ^ F)) (quotient_up-above (x * y) (2 ^ F) (pow_pos F)) }
  where
    go : (D z : ℕ) → x * y ≤ z * D → (x * y) * D ≤ z * (D * D)
    go D z h = omega (arith, mul-le-mul_right D h)

-- The number x * y / 2^F, rounded down, is as a value at most the product of the values x / 2^F and
-- y / 2^F.
pub product-down : (F x y : ℕ) → AtMost (units F (x * y / 2 ^ F)) (times (units F x) (units F y))
product-down F x y = record { cross = go (2 ^ F) (x * y / 2 ^ F) (div-mul-le_self (x * y) (2 ^ F)) }
  where
    go : (D z : ℕ) → z * D ≤ x * y → z * (D * D) ≤ (x * y) * D
    go D z h = omega (arith, mul-le-mul_right D h)

-- the upper sequence from low on
pub seq-above-low : (F a low : ℕ) → a < 2 ^ F → (n : ℕ) → AtMost (sum_from (exact Kind.Seq (units F a)) low n) (units F (quotient_up (carried Side.Up Kind.Seq F a low * geometric_up F a) (2 ^ F)))
seq-above-low F a low h n =
    AtMost-trans (seq-shift (units F a) low 0 low n (omega arith))
    (AtMost-trans (times-mono (up (power (units F a) low) (carried-up Kind.Seq F a low)) (seq-above F a h n)) (product-up F (carried Side.Up Kind.Seq F a low) (geometric_up F a)))
  where
    up : {b : Fraction} (p : Fraction) → AtMost (times (whole 1) p) b → AtMost p b
    up p k = AtMost-trans (one p) k
      where
        one : (p : Fraction) → AtMost p (times (whole 1) p)
        one p = omega arith

-- what is reached by the powers is, times the power of low, reached by the powers from low on
pub seq-reached-low : (F a low n s : ℕ) → AtMost (units F s) (sum_from (exact Kind.Seq (units F a)) 0 n) → AtMost (units F (carried Side.Down Kind.Seq F a low * s / 2 ^ F)) (sum_from (exact Kind.Seq (units F a)) low n)
seq-reached-low F a low n s h =
    AtMost-trans (product-down F (carried Side.Down Kind.Seq F a low) s)
    (AtMost-trans (times-mono (down (power (units F a) low) (carried-down Kind.Seq F a low)) h) (seq-shift' (units F a) low 0 low n (omega arith)))
  where
    down : {b : Fraction} (p : Fraction) → AtMost b (times (whole 1) p) → AtMost b p
    down p k = AtMost-trans k (one p)
      where
        one : (p : Fraction) → AtMost (times (whole 1) p) p
        one p = omega arith
