-- One step of a running sum over the terms of a series, and where it may end.
use Rattle.std.proofs.Common.{◌≡◌, ℕ, zero, suc, ◌+◌, ◌-◌, ◌*◌, ◌/◌, ◌^◌, ◌<◌, ◌≤◌, ◌∷◌, replicate, Option, Some, None, refl, sym, ◌∙◌, ap, subst, arith, ⊎_elim}
use Rattle.std.proofs.Math.Nat.{mul-le-mul_right, lt-div-mul-add, zero-div, pow-le-pow_right}
use Rattle.std.proofs.lemmas.Bool.{cases_lt}
use Rattle.fixed_enclosure.specs.Rounded.{greatest, saturated, Side, quotient_up}
use Rattle.fixed_enclosure.proofs.Quotients.{quotient_up-above, quotient_up-least}
use Rattle.series_bounds.specs.Series.{Kind, divisor, carried_on, carried, term, terms_from}
use Rattle.series_bounds.specs.Running.{kept, run_down, up_to, run_up, IsFlat, summed_up, summed_down, carried_up}
use Rattle.series_bounds.proofs.Running.{kept-before, down-step, down-past-before, down-past-after, down-all, down-full, down-zeros, up-step, up-past, up-over, up-same, up_to-within}
use Rattle.series_bounds.proofs.Monotone.{divisor_pos}

-- The number of units in 1 has at most 57 bits.
pub one_bits : (f : ℕ) → f ≤ 56 → 2 ^ f ≤ 2 ^ 56
one_bits f h = pow-le-pow_right (omega arith) h

-- The lower value from low to i is the sum that runs over its terms.
pub lower-starts : (kind : Kind) (f a low i c : ℕ) → c ≡ 2 ^ f → summed_down kind f a low i ≡ run_down low 0 0 (terms_from Side.Down kind f a (suc i - 0) 0 c)
unfolding summed_down
lower-starts kind f a low i c e =
    let all : suc i ≡ suc i - 0 = omega arith in
    sym (down-all low low 0 (terms_from Side.Down kind f a (suc i) 0 (2 ^ f)) (omega arith))
    ∙ ap (λ n. run_down low 0 0 (terms_from Side.Down kind f a n 0 (2 ^ f))) all
    ∙ ap (λ q. run_down low 0 0 (terms_from Side.Down kind f a (suc i - 0) 0 q)) (sym e)

-- So is the upper one.
pub upper-starts : (kind : Kind) (f a most low i c : ℕ) → c ≡ 2 ^ f → summed_up kind f a most low i ≡ run_up most low 0 0 (terms_from Side.Up kind f a (suc i - 0) 0 c)
unfolding summed_up
upper-starts kind f a most low i c e =
    let all : suc i ≡ suc i - 0 = omega arith in
    ap (λ n. run_up most low 0 0 (terms_from Side.Up kind f a n 0 (2 ^ f))) all
    ∙ ap (λ q. run_up most low 0 0 (terms_from Side.Up kind f a (suc i - 0) 0 q)) (sym e)

lower-head : (kind : Kind) (f a low i j s c : ℕ) → j ≤ i → run_down low j s (terms_from Side.Down kind f a (suc i - j) j c) ≡ run_down low j s (terms_from Side.Down kind f a (suc (i - j)) j c)
lower-head kind f a low i j s c h = let e : suc i - j ≡ suc (i - j) = omega arith in ap (λ n. run_down low j s (terms_from Side.Down kind f a n j c)) e

-- A step of a lower sum, over a term t that fits.
pub lower-step : (kind : Kind) (f a low i j s c w t k : ℕ) → j ≤ i → w ≡ run_down low j s (terms_from Side.Down kind f a (suc i - j) j c) → t ≡ term Side.Down kind j c → t ≤ greatest → k ≡ kept low j t → w ≡ run_down low (suc j) (saturated (s + k)) (terms_from Side.Down kind f a (i - j) (suc j) (carried_on Side.Down kind f a j c))
lower-step kind f a low i j s c w t k h run t_is fit k_is =
    let small : term Side.Down kind j c ≤ greatest = omega arith in
    let step = down-step low j s (term Side.Down kind j c) (terms_from Side.Down kind f a (i - j) (suc j) (carried_on Side.Down kind f a j c)) small in
    let same : kept low j (term Side.Down kind j c) ≡ k = ap (kept low j) (sym t_is) ∙ sym k_is in
    run ∙ lower-head kind f a low i j s c h ∙ step ∙ ap (λ q. run_down low (suc j) (saturated (s + q)) (terms_from Side.Down kind f a (i - j) (suc j) (carried_on Side.Down kind f a j c))) same

-- The next place of the loop.
pub lower-next : (kind : Kind) (f a low i j s c w t k s' c' : ℕ) → j < i → w ≡ run_down low j s (terms_from Side.Down kind f a (suc i - j) j c) → t ≡ term Side.Down kind j c → t ≤ greatest → k ≡ kept low j t → s' ≡ saturated (s + k) → c' ≡ carried_on Side.Down kind f a j c → w ≡ run_down low (j + 1) s' (terms_from Side.Down kind f a (suc i - (j + 1)) (j + 1) c')
lower-next kind f a low i j s c w t k s' c' h run t_is fit k_is s_is c_is =
    let one : suc j ≡ j + 1 = omega arith in
    let left : i - j ≡ suc i - (j + 1) = omega arith in
    let step = lower-step kind f a low i j s c w t k (omega arith) run t_is fit k_is in
    step ∙ ap (λ q. run_down low (suc j) q (terms_from Side.Down kind f a (i - j) (suc j) (carried_on Side.Down kind f a j c))) (sym s_is)
    ∙ ap (λ q. run_down low (suc j) s' (terms_from Side.Down kind f a (i - j) (suc j) q)) (sym c_is)
    ∙ ap (λ q. run_down low (suc j) s' (terms_from Side.Down kind f a q (suc j) c')) left
    ∙ ap (λ q. run_down low q s' (terms_from Side.Down kind f a (suc i - (j + 1)) q c')) one

-- A term that doesn't fit.
pub lower-past-before : (kind : Kind) (f a low i j s c w t : ℕ) → j ≤ i → w ≡ run_down low j s (terms_from Side.Down kind f a (suc i - j) j c) → t ≡ term Side.Down kind j c → greatest < t → j < low → w ≡ 0
lower-past-before kind f a low i j s c w t h run t_is past before =
    let big : greatest < term Side.Down kind j c = omega arith in
    run ∙ lower-head kind f a low i j s c h ∙ down-past-before low j s (term Side.Down kind j c) (terms_from Side.Down kind f a (i - j) (suc j) (carried_on Side.Down kind f a j c)) big before

-- Where a term of number low or later doesn't fit, the lower sum to the last term is the greatest
-- number.
pub lower-past-after : (kind : Kind) (f a low i j s c w t : ℕ) → j ≤ i → w ≡ run_down low j s (terms_from Side.Down kind f a (suc i - j) j c) → t ≡ term Side.Down kind j c → greatest < t → low ≤ j → w ≡ greatest
lower-past-after kind f a low i j s c w t h run t_is past after =
    let big : greatest < term Side.Down kind j c = omega arith in
    run ∙ lower-head kind f a low i j s c h ∙ down-past-after low j s (term Side.Down kind j c) (terms_from Side.Down kind f a (i - j) (suc j) (carried_on Side.Down kind f a j c)) big after

-- Nothing is carried on from 0.
zero_carried : (kind : Kind) (f a j : ℕ) → carried_on Side.Down kind f a j 0 ≡ 0
zero_carried kind f a j = nothing (divisor kind (suc j) * 2 ^ f)
  where
    nothing : (d : ℕ) → 0 * a / d ≡ 0
    nothing d = let z : 0 * a ≡ 0 = omega arith in ap (λ n. n / d) z ∙ zero_over d
      where
        zero_over : (d : ℕ) → 0 / d ≡ 0
        zero_over d = rw zero-div refl

zero_term : (kind : Kind) (j : ℕ) → term Side.Down kind j 0 ≡ 0
zero_term Kind.Seq j = refl
zero_term Kind.Set j = refl
zero_term Kind.Cyc zero = refl
zero_term Kind.Cyc (suc j) = rw zero-div refl

-- Where 0 is carried to term j, the n lower terms from term j on are all 0.
pub zero_terms : (kind : Kind) (f a n j : ℕ) → terms_from Side.Down kind f a n j 0 ≡ replicate n 0
zero_terms kind f a zero j = refl
zero_terms kind f a (suc n) j =
    ap (λ t. t ∷ terms_from Side.Down kind f a n (suc j) (carried_on Side.Down kind f a j 0)) (zero_term kind j)
    ∙ ap (λ c. 0 ∷ terms_from Side.Down kind f a n (suc j) c) (zero_carried kind f a j)
    ∙ ap (λ ts. 0 ∷ ts) (zero_terms kind f a n (suc j))

-- A lower sum may end at its last term, at a term of 0, and where it is full.
pub lower-last : (kind : Kind) (f a low i j s c w t k s' : ℕ) → j ≤ i → w ≡ run_down low j s (terms_from Side.Down kind f a (suc i - j) j c) → t ≡ term Side.Down kind j c → t ≤ greatest → k ≡ kept low j t → s' ≡ saturated (s + k) → i ≤ j → s' ≡ w
lower-last kind f a low i j s c w t k s' h run t_is fit k_is s_is end =
    let step = lower-step kind f a low i j s c w t k h run t_is fit k_is in
    let none_left : i - j ≡ 0 = omega arith in
    s_is ∙ sym (step ∙ ap (λ n. run_down low (suc j) (saturated (s + k)) (terms_from Side.Down kind f a n (suc j) (carried_on Side.Down kind f a j c))) none_left)

-- Where 0 is carried to a term, the lower sum with this term is already the lower sum to the last
-- term.
pub lower-zero : (kind : Kind) (f a low i j s c w t k s' : ℕ) → j ≤ i → w ≡ run_down low j s (terms_from Side.Down kind f a (suc i - j) j c) → t ≡ term Side.Down kind j c → t ≤ greatest → k ≡ kept low j t → s' ≡ saturated (s + k) → c ≡ 0 → s' ≡ w
lower-zero kind f a low i j s c w t k s' h run t_is fit k_is s_is nothing =
    let step = lower-step kind f a low i j s c w t k h run t_is fit k_is in
    let carried_is : carried_on Side.Down kind f a j c ≡ 0 = ap (λ q. carried_on Side.Down kind f a j q) nothing ∙ zero_carried kind f a j in
    let zeros = ap (λ q. terms_from Side.Down kind f a (i - j) (suc j) q) carried_is ∙ zero_terms kind f a (i - j) (suc j) in
    s_is ∙ sym (step ∙ ap (λ ts. run_down low (suc j) (saturated (s + k)) ts) zeros ∙ down-zeros low (suc j) (saturated (s + k)) (i - j) (within (s + k)))
  where
    within : (n : ℕ) → saturated n ≤ greatest
    within n = omega arith

-- Where a fitting term j brings the lower sum to the greatest number, the sum to the last term is
-- that too, if it was 0 before the term in case j is at most low.
pub lower-full : (kind : Kind) (f a low i j s c w t k s' : ℕ) → j ≤ i → w ≡ run_down low j s (terms_from Side.Down kind f a (suc i - j) j c) → t ≡ term Side.Down kind j c → t ≤ greatest → k ≡ kept low j t → s' ≡ saturated (s + k) → (j ≤ low → s ≡ 0) → s' ≡ greatest → s' ≡ w
lower-full kind f a low i j s c w t k s' h run t_is fit k_is s_is start full = ⊎_elim
    (λ before. absurd (not_full before))
    (λ after. let step = lower-step kind f a low i j s c w t k h run t_is fit k_is in
    let all : saturated (s + k) ≡ greatest = sym s_is ∙ full in
    s_is ∙ sym (step ∙ down-full low (suc j) (saturated (s + k)) (terms_from Side.Down kind f a (i - j) (suc j) (carried_on Side.Down kind f a j c)) (omega arith) all))
    (cases_lt j low)
  where
    not_full : j < low → ⊥
    not_full before = let none_yet : s ≡ 0 = start (omega arith) in let none_kept : k ≡ 0 = k_is ∙ kept-before low j t before in omega arith

-- Before low nothing is summed.
pub none_summed : (low j s t k s' : ℕ) → k ≡ kept low j t → s' ≡ saturated (s + k) → (j ≤ low → s ≡ 0) → j + 1 ≤ low → s' ≡ 0
none_summed low j s t k s' k_is s_is start h = let none_yet : s ≡ 0 = start (omega arith) in let none_kept : k ≡ 0 = k_is ∙ kept-before low j t (omega arith) in omega arith

under : (c j : ℕ) → 0 < j → c / j ≤ greatest → c < 2 ^ 64 * j
under c j p h = let l : c < c / j * j + j = lt-div-mul-add p in let m : c / j * j ≤ greatest * j = mul-le-mul_right j h in omega (arith, l, m)

-- A number carried to a term that fits has at most 85 bits, from term 1 on.
pub carried_bits-down : (kind : Kind) (j c t : ℕ) → j ≤ 1000000 → (j ≡ 0 → c < 2 ^ 85) → t ≡ term Side.Down kind j c → t ≤ greatest → c < 2 ^ 85
carried_bits-down Kind.Seq j c t h first t_is fit = omega arith
carried_bits-down Kind.Set j c t h first t_is fit = omega arith
carried_bits-down Kind.Cyc zero c t h first t_is fit = first refl
carried_bits-down Kind.Cyc (suc j) c t h first t_is fit = let u : c < 2 ^ 64 * suc j = under c (suc j) (omega arith) (omega arith) in omega (arith, u)

-- Up to term 1000000, where the upper term is at most the greatest number, the number carried to it
-- is below 2^85, if at term 0 it is.
pub carried_bits-up : (kind : Kind) (j c t : ℕ) → j ≤ 1000000 → (j ≡ 0 → c < 2 ^ 85) → t ≡ term Side.Up kind j c → t ≤ greatest → c < 2 ^ 85
carried_bits-up Kind.Seq j c t h first t_is fit = omega arith
carried_bits-up Kind.Set j c t h first t_is fit = omega arith
carried_bits-up Kind.Cyc zero c t h first t_is fit = first refl
carried_bits-up Kind.Cyc (suc j) c t h first t_is fit =
    let above : c ≤ quotient_up c (suc j) * suc j = quotient_up-above c (suc j) (omega arith) in
    let few : quotient_up c (suc j) * suc j ≤ greatest * suc j = mul-le-mul_right (suc j) (omega arith) in
    omega (arith, above, few)

upper-head : (kind : Kind) (f a most low i j s c : ℕ) → j ≤ i → run_up most low j s (terms_from Side.Up kind f a (suc i - j) j c) ≡ run_up most low j s (terms_from Side.Up kind f a (suc (i - j)) j c)
upper-head kind f a most low i j s c h = let e : suc i - j ≡ suc (i - j) = omega arith in ap (λ n. run_up most low j s (terms_from Side.Up kind f a n j c)) e

-- A step of an upper sum, over a term t that fits.
pub upper-step : (kind : Kind) (f a most low i j s c : ℕ) (w : Option ℕ) (t k s' : ℕ) → j ≤ i → w ≡ run_up most low j s (terms_from Side.Up kind f a (suc i - j) j c) → t ≡ term Side.Up kind j c → t ≤ greatest → k ≡ kept low j t → s' ≡ s + k → w ≡ run_up most low (suc j) s' (terms_from Side.Up kind f a (i - j) (suc j) (carried_on Side.Up kind f a j c))
upper-step kind f a most low i j s c w t k s' h run t_is fit k_is s_is =
    let small : term Side.Up kind j c ≤ greatest = omega arith in
    let step = up-step most low j s (term Side.Up kind j c) (terms_from Side.Up kind f a (i - j) (suc j) (carried_on Side.Up kind f a j c)) small in
    let same : s + kept low j (term Side.Up kind j c) ≡ s' = ap (λ q. s + kept low j q) (sym t_is) ∙ ap (λ q. s + q) (sym k_is) ∙ sym s_is in
    run ∙ upper-head kind f a most low i j s c h ∙ step ∙ ap (λ q. run_up most low (suc j) q (terms_from Side.Up kind f a (i - j) (suc j) (carried_on Side.Up kind f a j c))) same

-- The next place of the loop.
pub upper-next : (kind : Kind) (f a most low i j s c : ℕ) (w : Option ℕ) (t k s' c' : ℕ) → j < i → w ≡ run_up most low j s (terms_from Side.Up kind f a (suc i - j) j c) → t ≡ term Side.Up kind j c → t ≤ greatest → k ≡ kept low j t → s' ≡ s + k → c' ≡ carried_on Side.Up kind f a j c → w ≡ run_up most low (j + 1) s' (terms_from Side.Up kind f a (suc i - (j + 1)) (j + 1) c')
upper-next kind f a most low i j s c w t k s' c' h run t_is fit k_is s_is c_is =
    let one : suc j ≡ j + 1 = omega arith in
    let left : i - j ≡ suc i - (j + 1) = omega arith in
    upper-step kind f a most low i j s c w t k s' (omega arith) run t_is fit k_is s_is
    ∙ ap (λ q. run_up most low (suc j) s' (terms_from Side.Up kind f a (i - j) (suc j) q)) (sym c_is)
    ∙ ap (λ q. run_up most low (suc j) s' (terms_from Side.Up kind f a q (suc j) c')) left
    ∙ ap (λ q. run_up most low q s' (terms_from Side.Up kind f a (suc i - (j + 1)) q c')) one

-- An upper sum ends at a term that doesn't fit,
pub upper-past : (kind : Kind) (f a most low i j s c : ℕ) (w : Option ℕ) (t : ℕ) → j ≤ i → w ≡ run_up most low j s (terms_from Side.Up kind f a (suc i - j) j c) → t ≡ term Side.Up kind j c → greatest < t → w ≡ None
upper-past kind f a most low i j s c w t h run t_is past =
    let big : greatest < term Side.Up kind j c = omega arith in
    run ∙ upper-head kind f a most low i j s c h ∙ up-past most low j s (term Side.Up kind j c) (terms_from Side.Up kind f a (i - j) (suc j) (carried_on Side.Up kind f a j c)) big

-- where it passes the bound,
pub upper-over : (kind : Kind) (f a most low i j s c : ℕ) (w : Option ℕ) (t k s' : ℕ) → j ≤ i → w ≡ run_up most low j s (terms_from Side.Up kind f a (suc i - j) j c) → t ≡ term Side.Up kind j c → t ≤ greatest → k ≡ kept low j t → s' ≡ s + k → most < s' → w ≡ None
upper-over kind f a most low i j s c w t k s' h run t_is fit k_is s_is over =
    upper-step kind f a most low i j s c w t k s' h run t_is fit k_is s_is ∙ up-over most low (suc j) s' (terms_from Side.Up kind f a (i - j) (suc j) (carried_on Side.Up kind f a j c)) over

-- at its last term,
pub upper-last : (kind : Kind) (f a most low i j s c : ℕ) (w : Option ℕ) (t k s' : ℕ) → j ≤ i → w ≡ run_up most low j s (terms_from Side.Up kind f a (suc i - j) j c) → t ≡ term Side.Up kind j c → t ≤ greatest → k ≡ kept low j t → s' ≡ s + k → s' ≤ most → i ≤ j → Some s' ≡ w
upper-last kind f a most low i j s c w t k s' h run t_is fit k_is s_is small end =
    let none_left : i - j ≡ 0 = omega arith in
    sym (upper-step kind f a most low i j s c w t k s' h run t_is fit k_is s_is ∙ ap (λ n. run_up most low (suc j) s' (terms_from Side.Up kind f a n (suc j) (carried_on Side.Up kind f a j c))) none_left ∙ up_to-within most s' small)

-- and where all later terms are known.
flat-carried : (kind : Kind) (f a j c : ℕ) → IsFlat kind f a j c → carried_on Side.Up kind f a j c ≡ c
flat-carried kind f a j c flat = go (divisor kind (suc j) * 2 ^ f) c (divisor_pos f kind j) flat.small flat.kept_up flat.low_argument
  where
    go : (d c : ℕ) → 0 < d → c ≤ 1 → c ≤ a → a ≤ d → quotient_up (c * a) d ≡ c
    go d zero p small up low = let l : quotient_up (0 * a) d ≤ 0 = quotient_up-least (0 * a) d 0 p (omega arith) in omega arith
    go d (suc zero) p small up low = one (quotient_up (1 * a) d) (quotient_up-least (1 * a) d 1 p (omega arith)) (quotient_up-above (1 * a) d p)
      where
        one : (q : ℕ) → q ≤ 1 → 1 * a ≤ q * d → q ≡ 1
        one zero h k = absurd (omega arith)
        one (suc zero) h k = refl
        one (suc (suc q)) h k = absurd (omega arith)
    go d (suc (suc c)) p small up low = absurd (omega arith)

flat-term : (kind : Kind) (f a j c : ℕ) → IsFlat kind f a j c → term Side.Up kind (suc j) c ≡ c
flat-term Kind.Seq f a j c flat = refl
flat-term Kind.Set f a j c flat = refl
flat-term Kind.Cyc f a j c flat = go c flat.small
  where
    go : (c : ℕ) → c ≤ 1 → quotient_up c (suc j) ≡ c
    go zero small = let l : quotient_up 0 (suc j) ≤ 0 = quotient_up-least 0 (suc j) 0 (omega arith) (omega arith) in omega arith
    go (suc zero) small = one (quotient_up 1 (suc j)) (quotient_up-least 1 (suc j) 1 (omega arith) (omega arith)) (quotient_up-above 1 (suc j) (omega arith))
      where
        one : (q : ℕ) → q ≤ 1 → 1 ≤ q * suc j → q ≡ 1
        one zero h k = absurd (omega arith)
        one (suc zero) h k = refl
        one (suc (suc q)) h k = absurd (omega arith)
    go (suc (suc c)) small = absurd (omega arith)

flat-later : (kind : Kind) (f a j c : ℕ) → IsFlat kind f a j c → IsFlat kind f a (suc j) c
flat-later Kind.Seq f a j c flat = record { small = flat.small; kept_up = flat.kept_up; low_argument = flat.low_argument }
flat-later Kind.Set f a j c flat = record { small = flat.small; kept_up = flat.kept_up; low_argument = let l = flat.low_argument in omega arith }
flat-later Kind.Cyc f a j c flat = record { small = flat.small; kept_up = flat.kept_up; low_argument = flat.low_argument }

flat-terms : (kind : Kind) (f a n j c : ℕ) → IsFlat kind f a j c → terms_from Side.Up kind f a n (suc j) c ≡ replicate n c
flat-terms kind f a zero j c flat = refl
flat-terms kind f a (suc n) j c flat =
    ap (λ t. t ∷ terms_from Side.Up kind f a n (suc (suc j)) (carried_on Side.Up kind f a (suc j) c)) (flat-term kind f a j c flat)
    ∙ ap (λ q. c ∷ terms_from Side.Up kind f a n (suc (suc j)) q) (flat-carried kind f a (suc j) c (flat-later kind f a j c flat))
    ∙ ap (λ ts. c ∷ ts) (flat-terms kind f a n (suc j) c (flat-later kind f a j c flat))

-- Where each later upper term is c, the upper sum to term i is the sum so far plus c for each later
-- term from low on, where that is within the bound.
pub upper-flat : (kind : Kind) (f a most low i j s c : ℕ) (w : Option ℕ) (t k s' : ℕ) → j ≤ i → w ≡ run_up most low j s (terms_from Side.Up kind f a (suc i - j) j c) → t ≡ term Side.Up kind j c → t ≤ greatest → k ≡ kept low j t → s' ≡ s + k → IsFlat kind f a j c → w ≡ up_to most (s' + c * ((i - j) - (low - (j + 1))))
upper-flat kind f a most low i j s c w t k s' h run t_is fit k_is s_is flat =
    let one : suc j ≡ j + 1 = omega arith in
    let small : c ≤ 1 = flat.small in
    upper-step kind f a most low i j s c w t k s' h run t_is fit k_is s_is
    ∙ ap (λ q. run_up most low (suc j) s' (terms_from Side.Up kind f a (i - j) (suc j) q)) (flat-carried kind f a j c flat)
    ∙ ap (λ ts. run_up most low (suc j) s' ts) (flat-terms kind f a (i - j) j c flat)
    ∙ up-same most low (suc j) s' (i - j) c (omega arith)
    ∙ ap (λ q. up_to most (s' + c * ((i - j) - (low - q)))) one

-- From there on the same number is carried.
pub carried-flat : (kind : Kind) (f a d j l c : ℕ) → l ≡ j + d → c ≡ carried Side.Up kind f a j → IsFlat kind f a j c → (c ≡ carried Side.Up kind f a l) × IsFlat kind f a l c
carried-flat kind f a zero j l c e is flat = let same : j ≡ l = omega arith in subst (λ q. (c ≡ carried Side.Up kind f a q) × IsFlat kind f a q c) same (is, flat)
carried-flat kind f a (suc d) j zero c e is flat = absurd (omega arith)
carried-flat kind f a (suc d) j (suc l) c e is flat =
    let before = carried-flat kind f a d j l c (omega arith) is flat in
    (sym (ap (λ q. carried_on Side.Up kind f a l q) (sym before.0) ∙ flat-carried kind f a l c before.1), flat-later kind f a l c before.1)

-- Where all later upper terms are the number c carried to term j, the number c is carried to each
-- later term j + d too.
pub carried_up-later : (kind : Kind) (f a d j l c : ℕ) → l ≡ j + d → c ≡ carried_up kind f a j → IsFlat kind f a j c → c ≡ carried_up kind f a l
unfolding carried_up
carried_up-later kind f a d j l c e is flat = (carried-flat kind f a d j l c e is flat).0

-- The number carried to term 0, rounded up, is 2^f.
pub carried_up-starts : (kind : Kind) (f a c : ℕ) → c ≡ 2 ^ f → c ≡ carried_up kind f a 0
unfolding carried_up
carried_up-starts kind f a c e = e

-- The number carried to the next term.
pub carried-next : (kind : Kind) (f a j c c' : ℕ) → c ≡ carried_up kind f a j → c' ≡ carried_on Side.Up kind f a j c → c' ≡ carried_up kind f a (j + 1)
unfolding carried_up
carried-next kind f a j c c' is on = let one : suc j ≡ j + 1 = omega arith in on ∙ ap (λ q. carried_on Side.Up kind f a j q) is ∙ ap (λ q. carried Side.Up kind f a q) one
