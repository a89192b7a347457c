-- The upper logarithm is monotone, though the number of terms that it sums depends on its argument.
-- Where a lesser argument sums fewer terms, its rest is one unit at most, and the greater argument has a further
-- term of one unit at least.
use Rattle.std.proofs.Common.{◌≡◌, ℕ, zero, suc, ◌+◌, ◌-◌, ◌*◌, ◌^◌, ◌<◌, ◌≤◌, ◌⊎◌, Bool, true, false, ◌&&◌, List, ◌∷◌, ◌++◌, length, drop, None, cond, refl, sym, ◌∙◌, subst, ap, arith, leb, inl, inr, ⊎_elim}
use Rattle.std.specs.Prelude.{sum}
use Rattle.std.specs.List.{list_all}
use Rattle.std.proofs.Math.Nat.{mul-le-mul_right, mul-pos, le_trans, le_refl, pow-le-pow_right}
use Rattle.std.proofs.lemmas.Nat.{pow_pos, mul-le}
use Rattle.std.proofs.lemmas.List.{drop-append-le}
use Rattle.std.proofs.lemmas.List.Sums.{sum_by-append, sum_by-cons}
use Rattle.std.proofs.lemmas.List.Folds.{list_all-append}
use Rattle.std.proofs.lemmas.Bool.{cases_lt, le-leb, lt-leb}
use Rattle.fixed_enclosure.specs.UpperValues.{IsNoGreater}
use Rattle.fixed_enclosure.specs.Rounded.{fits, if_fits, quotient_up, Side}
use Rattle.series_bounds.specs.Series.{Kind, carried_on, carried, term, terms_from, terms, sum_up, end_from, log_end, cyc_end, log_rest, cyc_up_to, from_up, log_up}
use Rattle.fixed_enclosure.proofs.Quotients.{quotient_up-above, quotient_up-least, quotient_up-monotone}
use Rattle.fixed_enclosure.proofs.Monotone.{no_greater_trans, if_fits-monotone}
use Rattle.series_bounds.proofs.Monotone.{divisor_pos, carried_on-monotone, carried-monotone, terms-monotone, sum_up-monotone}

-- The last term lies between the first and the greatest number that it may have.
pub end_from-above : (f a n j p : ℕ) → j ≤ end_from Side.Up f a n j p
end_from-above f a zero j p = le_refl j
end_from-above f a (suc n) j p = elim (leb p 1) as (λ t. j ≤ cond t j (end_from Side.Up f a n (suc j) (carried_on Side.Up Kind.Cyc f a j p))) [
  | true ↦ le_refl j
  | false ↦ le_trans (omega arith) (end_from-above f a n (suc j) (carried_on Side.Up Kind.Cyc f a j p))
]

pub end_from-below : (f a n j p : ℕ) → end_from Side.Up f a n j p ≤ j + n
end_from-below f a zero j p = omega arith
end_from-below f a (suc n) j p = elim (leb p 1) as (λ t. cond t j (end_from Side.Up f a n (suc j) (carried_on Side.Up Kind.Cyc f a j p)) ≤ j + suc n) [
  | true ↦ omega arith
  | false ↦ le_trans (end_from-below f a n (suc j) (carried_on Side.Up Kind.Cyc f a j p)) (omega arith)
]

-- A greater argument ends no sooner.
pub end_from-monotone : (f a b n j p q : ℕ) → a ≤ b → p ≤ q → end_from Side.Up f a n j p ≤ end_from Side.Up f b n j q
end_from-monotone f a b zero j p q h k = le_refl j
end_from-monotone f a b (suc n) j p q h k = ⊎_elim
    (λ past. subst (λ t. end_from Side.Up f a (suc n) j p ≤ cond t j (end_from Side.Up f b n (suc j) (carried_on Side.Up Kind.Cyc f b j q))) (sym (lt-leb q 1 past))
    (elim (leb p 1) as (λ t. cond t j (end_from Side.Up f a n (suc j) (carried_on Side.Up Kind.Cyc f a j p)) ≤ end_from Side.Up f b n (suc j) (carried_on Side.Up Kind.Cyc f b j q)) [
      | true ↦ le_trans (omega arith) (end_from-above f b n (suc j) (carried_on Side.Up Kind.Cyc f b j q))
      | false ↦ end_from-monotone f a b n (suc j) (carried_on Side.Up Kind.Cyc f a j p) (carried_on Side.Up Kind.Cyc f b j q) h (carried_on-monotone Kind.Cyc f a b j p q h k)
    ]))
    (λ within. subst (λ t. end_from Side.Up f a (suc n) j p ≤ cond t j (end_from Side.Up f b n (suc j) (carried_on Side.Up Kind.Cyc f b j q))) (sym (le-leb q 1 within))
    (subst (λ t. cond t j (end_from Side.Up f a n (suc j) (carried_on Side.Up Kind.Cyc f a j p)) ≤ j) (sym (le-leb p 1 (le_trans k within))) (le_refl j)))
    (cases_lt 1 q)

pub log_end-monotone : (f a b : ℕ) → a ≤ b → log_end Side.Up f a ≤ log_end Side.Up f b
log_end-monotone f a b h = end_from-monotone f a b 4095 1 a b h h

-- The rest after j terms is monotone.
pub log_rest-monotone : (f a b j : ℕ) → a ≤ b → b < 2 ^ f → log_rest f a j ≤ log_rest f b j
log_rest-monotone f a b j h below = quotient_up-monotone (carried Side.Up Kind.Cyc f a (suc j) * 2 ^ f) (carried Side.Up Kind.Cyc f b (suc j) * 2 ^ f) (suc j * (2 ^ f - a)) (suc j * (2 ^ f - b))
    (let first : 0 < suc j = omega arith in let gap : 0 < 2 ^ f - b = omega arith in mul-pos first gap)
    (mul-le (suc j) (2 ^ f - b) (suc j) (2 ^ f - a) (le_refl (suc j)) (omega arith))
    (mul-le-mul_right (2 ^ f) (carried-monotone Kind.Cyc f a b (suc j) h))

-- With one number of terms the upper logarithm is monotone.
pub cyc_up_to-monotone : (f a b low j : ℕ) → a ≤ b → b < 2 ^ f → IsNoGreater (cyc_up_to f a low j) (cyc_up_to f b low j)
cyc_up_to-monotone f a b low j h below = sum_up-monotone low (terms Side.Up Kind.Cyc f a (suc j)) (terms Side.Up Kind.Cyc f b (suc j)) (log_rest f a j) (log_rest f b j) (terms-monotone Kind.Cyc f a b (suc j) h) (log_rest-monotone f a b j h below)

pub quotient_up-pos : (n d : ℕ) → 0 < n → 0 < d → 0 < quotient_up n d
quotient_up-pos n d n_pos d_pos =
    let above : n ≤ quotient_up n d * d = quotient_up-above n d d_pos in
    ⊎_elim (λ pos. pos)
    (λ none. let zero_q : quotient_up n d ≡ 0 = omega arith in let nothing : n ≤ 0 * d = subst (λ q. n ≤ q * d) zero_q above in omega arith)
    (cases_lt 0 (quotient_up n d))

-- The power 1 is the number itself.
pub carried-one : (f a : ℕ) → carried Side.Up Kind.Cyc f a 1 ≡ a
carried-one f a =
    let f_pos : 0 < 2 ^ f = pow_pos f in
    let low : carried Side.Up Kind.Cyc f a 1 ≤ a = quotient_up-least (2 ^ f * a) (1 * 2 ^ f) a (omega arith) (omega arith) in
    let high : 2 ^ f * a ≤ carried Side.Up Kind.Cyc f a 1 * (1 * 2 ^ f) = quotient_up-above (2 ^ f * a) (1 * 2 ^ f) (omega arith) in
    ⊎_elim
    (λ less. let more : suc (carried Side.Up Kind.Cyc f a 1) * 2 ^ f ≤ a * 2 ^ f = mul-le-mul_right (2 ^ f) less in
    let none : ⊥ = omega arith in absurd none)
    (λ above. omega arith)
    (cases_lt (carried Side.Up Kind.Cyc f a 1) a)

-- Where the sum ends before the greatest number of terms, the last power is at most one unit.
pub end_from-ends : (f a n j p : ℕ) → p ≡ carried Side.Up Kind.Cyc f a j → end_from Side.Up f a n j p < j + n → carried Side.Up Kind.Cyc f a (end_from Side.Up f a n j p) ≤ 1
end_from-ends f a zero j p e h = omega arith
end_from-ends f a (suc n) j p e h = ⊎_elim
    (λ past. let same : end_from Side.Up f a (suc n) j p ≡ end_from Side.Up f a n (suc j) (carried_on Side.Up Kind.Cyc f a j p) = ap (λ t. cond t j (end_from Side.Up f a n (suc j) (carried_on Side.Up Kind.Cyc f a j p))) (lt-leb p 1 past) in
    subst (λ k. carried Side.Up Kind.Cyc f a k ≤ 1) (sym same) (end_from-ends f a n (suc j) (carried_on Side.Up Kind.Cyc f a j p) (ap (λ c. carried_on Side.Up Kind.Cyc f a j c) e) (omega arith)))
    (λ within. let same : end_from Side.Up f a (suc n) j p ≡ j = ap (λ t. cond t j (end_from Side.Up f a n (suc j) (carried_on Side.Up Kind.Cyc f a j p))) (le-leb p 1 within) in
    subst (λ k. carried Side.Up Kind.Cyc f a k ≤ 1) (sym same) (subst (λ c. c ≤ 1) e within))
    (cases_lt 1 p)

-- And then the argument is at most one half, or one unit.
pub end_from-half : (f a n j p : ℕ) → end_from Side.Up f a n j p < j + n → (p ≤ 1) ⊎ (2 * a ≤ 2 ^ f)
end_from-half f a zero j p h = let none : ⊥ = omega arith in absurd none
end_from-half f a (suc n) j p h = ⊎_elim
    (λ past. let same : end_from Side.Up f a (suc n) j p ≡ end_from Side.Up f a n (suc j) (carried_on Side.Up Kind.Cyc f a j p) = ap (λ t. cond t j (end_from Side.Up f a n (suc j) (carried_on Side.Up Kind.Cyc f a j p))) (lt-leb p 1 past) in
    ⊎_elim
    (λ small. let unit : 0 < 1 * 2 ^ f = divisor_pos f Kind.Cyc j in
    let above : p * a ≤ quotient_up (p * a) (1 * 2 ^ f) * (1 * 2 ^ f) = quotient_up-above (p * a) (1 * 2 ^ f) unit in
    let one : quotient_up (p * a) (1 * 2 ^ f) * (1 * 2 ^ f) ≤ 1 * (1 * 2 ^ f) = mul-le-mul_right (1 * 2 ^ f) small in
    let two : 2 * a ≤ p * a = mul-le-mul_right a past in
    inr (omega arith))
    (λ half. inr half)
    (end_from-half f a n (suc j) (carried_on Side.Up Kind.Cyc f a j p) (omega arith)))
    (λ within. inl within)
    (cases_lt 1 p)

-- From then on every power is at most one unit.
pub carried-stays : (f a j k : ℕ) → a ≤ 2 ^ f → carried Side.Up Kind.Cyc f a j ≤ 1 → carried Side.Up Kind.Cyc f a (k + j) ≤ 1
carried-stays f a j zero h c = subst (λ i. carried Side.Up Kind.Cyc f a i ≤ 1) (omega arith) c
carried-stays f a j (suc k) h c =
    let before : carried Side.Up Kind.Cyc f a (k + j) ≤ 1 = carried-stays f a j k h c in
    let product : carried Side.Up Kind.Cyc f a (k + j) * a ≤ 1 * a = mul-le-mul_right a before in
    let next : quotient_up (carried Side.Up Kind.Cyc f a (k + j) * a) (1 * 2 ^ f) ≤ 1 = quotient_up-least (carried Side.Up Kind.Cyc f a (k + j) * a) (1 * 2 ^ f) 1 (divisor_pos f Kind.Cyc j) (omega arith) in
    let place : suc (k + j) ≡ suc k + j = omega arith in
    subst (λ i. carried Side.Up Kind.Cyc f a i ≤ 1) place next

-- The rest of a sum that ended before the greatest number of terms is at most one unit.
pub log_rest-unit : (f a j : ℕ) → 0 < f → 1 ≤ j → 2 * a ≤ 2 ^ f → carried Side.Up Kind.Cyc f a (suc j) ≤ 1 → log_rest f a j ≤ 1
log_rest-unit f a j bits first half small =
    let f_pos : 0 < 2 ^ f = pow_pos f in
    let power : carried Side.Up Kind.Cyc f a (suc j) * 2 ^ f ≤ 1 * 2 ^ f = mul-le-mul_right (2 ^ f) small in
    let wide : 2 * (2 ^ f - a) ≤ suc j * (2 ^ f - a) = mul-le 2 (2 ^ f - a) (suc j) (2 ^ f - a) (omega arith) (le_refl (2 ^ f - a)) in
    quotient_up-least (carried Side.Up Kind.Cyc f a (suc j) * 2 ^ f) (suc j * (2 ^ f - a)) 1 (omega arith) (omega arith)

-- The powers of a number that isn't 0 aren't 0.
pub carried_on-pos : (f b j c : ℕ) → 0 < b → 0 < c → 0 < carried_on Side.Up Kind.Cyc f b j c
carried_on-pos f b j c b_pos c_pos = quotient_up-pos (c * b) (1 * 2 ^ f) (mul-pos c_pos b_pos) (divisor_pos f Kind.Cyc j)

pub length-terms_from : (f a n j c : ℕ) → length (terms_from Side.Up Kind.Cyc f a n j c) ≡ n
length-terms_from f a zero j c = refl
length-terms_from f a (suc n) j c = ap suc (length-terms_from f a n (suc j) (carried_on Side.Up Kind.Cyc f a j c))

-- A longer list of terms goes on, after the shorter one, with a term that isn't 0.
pub record GoesOn (shorter longer : List ℕ) : Type 0 where
  pub next : ℕ
  pub others : List ℕ
  pub split : longer ≡ shorter ++ next ∷ others
  pub positive : 0 < next

pub terms_from-go_on : (f b n m k j c : ℕ) → k ≡ n + suc m → 0 < j + n → 0 < b → 0 < c → GoesOn (terms_from Side.Up Kind.Cyc f b n j c) (terms_from Side.Up Kind.Cyc f b k j c)
terms_from-go_on f b n m zero j c e p b_pos c_pos = let none : ⊥ = omega arith in absurd none
terms_from-go_on f b zero m (suc k) zero c e p b_pos c_pos = let none : ⊥ = omega arith in absurd none
terms_from-go_on f b zero m (suc k) (suc j) c e p b_pos c_pos = record {
  next = quotient_up c (suc j);
  others = terms_from Side.Up Kind.Cyc f b k (suc (suc j)) (carried_on Side.Up Kind.Cyc f b (suc j) c);
  split = refl;
  positive = quotient_up-pos c (suc j) c_pos (omega arith);
}
terms_from-go_on f b (suc n) m (suc k) j c e p b_pos c_pos =
    let rest : GoesOn (terms_from Side.Up Kind.Cyc f b n (suc j) (carried_on Side.Up Kind.Cyc f b j c)) (terms_from Side.Up Kind.Cyc f b k (suc j) (carried_on Side.Up Kind.Cyc f b j c)) = terms_from-go_on f b n m k (suc j) (carried_on Side.Up Kind.Cyc f b j c) (omega arith) (omega arith) b_pos (carried_on-pos f b j c b_pos c_pos) in
    record { next = rest.next; others = rest.others; split = ap (λ ts. term Side.Up Kind.Cyc j c ∷ ts) rest.split; positive = rest.positive }

-- A sum with a further term of one unit at least is no less than the sum with a rest of one unit at most.
pub sum_up-longer : (low : ℕ) (xs : List ℕ) (z : ℕ) (zs : List ℕ) (r s : ℕ) → low ≤ length xs → r ≤ 1 → 0 < z → IsNoGreater (sum_up low xs r) (sum_up low (xs ++ z ∷ zs) s)
sum_up-longer low xs z zs r s within small pos = ⊎_elim
    (λ fit. subst (λ b. IsNoGreater (sum_up low xs r) (cond b (if_fits (sum (drop low (xs ++ z ∷ zs)) + s)) None)) (sym fit)
    (let first_fit : list_all fits xs ≡ true = front_true (list_all fits xs) (list_all fits (z ∷ zs)) (sym (list_all-append fits xs (z ∷ zs)) ∙ fit) in
    subst (λ b. IsNoGreater (cond b (if_fits (sum (drop low xs) + r)) None) (if_fits (sum (drop low (xs ++ z ∷ zs)) + s))) (sym first_fit)
    (let whole : sum (drop low (xs ++ z ∷ zs)) ≡ sum (drop low xs) + sum (z ∷ zs) = ap sum (drop-append-le low xs (z ∷ zs) within) ∙ sum_by-append (λ x. x) (drop low xs) (z ∷ zs) in
    let further : sum (z ∷ zs) ≡ z + sum zs = sum_by-cons (λ x. x) z zs in
    if_fits-monotone (sum (drop low xs) + r) (sum (drop low (xs ++ z ∷ zs)) + s) (omega arith))))
    (λ past. subst (λ b. IsNoGreater (sum_up low xs r) (cond b (if_fits (sum (drop low (xs ++ z ∷ zs)) + s)) None)) (sym past) tt)
    (true_or_false (list_all fits (xs ++ z ∷ zs)))
  where
    true_or_false : (b : Bool) → (b ≡ true) ⊎ (b ≡ false)
    true_or_false true = inl refl
    true_or_false false = inr refl

    front_true : (a b : Bool) → (a && b) ≡ true → a ≡ true
    front_true true b e = refl
    front_true false b e = e

-- Where the greater argument sums more terms.
pub cyc_up_to-longer : (f a b low j k : ℕ) → 0 < f → a ≤ b → 0 < b → 1 ≤ j → low ≤ suc j → j < k → 2 * a ≤ 2 ^ f → carried Side.Up Kind.Cyc f a (suc j) ≤ 1 → IsNoGreater (cyc_up_to f a low j) (cyc_up_to f b low k)
cyc_up_to-longer f a b low j k bits h b_pos first within more half small =
    let on : GoesOn (terms Side.Up Kind.Cyc f b (suc j)) (terms Side.Up Kind.Cyc f b (suc k)) = terms_from-go_on f b (suc j) (k - suc j) (suc k) 0 (2 ^ f) (omega arith) (omega arith) b_pos (pow_pos f) in
    let len : length (terms Side.Up Kind.Cyc f b (suc j)) ≡ suc j = length-terms_from f b (suc j) 0 (2 ^ f) in
    no_greater_trans (cyc_up_to f a low j) (sum_up low (terms Side.Up Kind.Cyc f b (suc j)) (log_rest f a j)) (cyc_up_to f b low k)
    (sum_up-monotone low (terms Side.Up Kind.Cyc f a (suc j)) (terms Side.Up Kind.Cyc f b (suc j)) (log_rest f a j) (log_rest f a j) (terms-monotone Kind.Cyc f a b (suc j) h) (le_refl (log_rest f a j)))
    (subst (λ ts. IsNoGreater (sum_up low (terms Side.Up Kind.Cyc f b (suc j)) (log_rest f a j)) (sum_up low ts (log_rest f b k))) (sym on.split)
    (sum_up-longer low (terms Side.Up Kind.Cyc f b (suc j)) on.next on.others (log_rest f a j) (log_rest f b k) (omega arith) (log_rest-unit f a j bits first half small) on.positive))

-- A sum that ended before the greatest number of terms: its argument is at most one half, and its later powers are at most one unit.
pub early-half : (f a : ℕ) → 0 < f → log_end Side.Up f a < 4096 → 2 * a ≤ 2 ^ f
early-half f a bits early = ⊎_elim
    (λ unit. let two : 2 ^ 1 ≤ 2 ^ f = pow-le-pow_right (omega arith) bits in omega arith)
    (λ half. half)
    (end_from-half f a 4095 1 a early)

pub early-power : (f a j : ℕ) → 2 * a ≤ 2 ^ f → log_end Side.Up f a < 4096 → log_end Side.Up f a ≤ j → carried Side.Up Kind.Cyc f a j ≤ 1
early-power f a j half early later =
    let last : carried Side.Up Kind.Cyc f a (log_end Side.Up f a) ≤ 1 = end_from-ends f a 4095 1 a (sym (carried-one f a)) early in
    let stays : carried Side.Up Kind.Cyc f a ((j - log_end Side.Up f a) + log_end Side.Up f a) ≤ 1 = carried-stays f a (log_end Side.Up f a) (j - log_end Side.Up f a) (omega arith) last in
    let place : (j - log_end Side.Up f a) + log_end Side.Up f a ≡ j = omega arith in
    subst (λ i. carried Side.Up Kind.Cyc f a i ≤ 1) place stays

-- The upper logarithm from low parts on, at the numbers of terms that belong to its arguments.
pub cyc_ends-monotone : (f a b low : ℕ) → 0 < f → a ≤ b → b < 2 ^ f → IsNoGreater (cyc_up_to f a low (cyc_end Side.Up f a low)) (cyc_up_to f b low (cyc_end Side.Up f b low))
cyc_ends-monotone f a b low bits h below =
    let ends : log_end Side.Up f a ≤ log_end Side.Up f b = log_end-monotone f a b h in
    let first : 1 ≤ log_end Side.Up f a = end_from-above f a 4095 1 a in
    let last : log_end Side.Up f b ≤ 1 + 4095 = end_from-below f b 4095 1 b in
    ⊎_elim
    (λ more. let early : log_end Side.Up f a < 4096 = omega arith in
    let half : 2 * a ≤ 2 ^ f = early-half f a bits early in
    cyc_up_to-longer f a b low (cyc_end Side.Up f a low) (cyc_end Side.Up f b low) bits h
    (not_zero f a b low h more) (omega arith) (omega arith) more half
    (early-power f a (suc (cyc_end Side.Up f a low)) half early (omega arith)))
    (λ no_more. let same : cyc_end Side.Up f a low ≡ cyc_end Side.Up f b low = omega arith in
    subst (λ k. IsNoGreater (cyc_up_to f a low (cyc_end Side.Up f a low)) (cyc_up_to f b low k)) same (cyc_up_to-monotone f a b low (cyc_end Side.Up f a low) h below))
    (cases_lt (cyc_end Side.Up f a low) (cyc_end Side.Up f b low))
  where
    not_zero : (f a b low : ℕ) → a ≤ b → cyc_end Side.Up f a low < cyc_end Side.Up f b low → 0 < b
    not_zero f a b low h more = ⊎_elim
        (λ pos. pos)
        (λ none. let same : a ≡ b = omega arith in let ends : cyc_end Side.Up f a low ≡ cyc_end Side.Up f b low = ap (λ c. cyc_end Side.Up f c low) same in let no : ⊥ = omega arith in absurd no)
        (cases_lt 0 b)

-- The logarithm from low parts on.
pub cyc_from_up-monotone : (f a b low : ℕ) → 0 < f → a ≤ b → IsNoGreater (from_up Kind.Cyc f a low) (from_up Kind.Cyc f b low)
cyc_from_up-monotone f a b low bits h = ⊎_elim
    (λ below. subst (λ t. IsNoGreater (from_up Kind.Cyc f a low) (cond t (cyc_up_to f b low (cyc_end Side.Up f b low)) None)) (sym (le-leb (suc b) (2 ^ f) below))
    (let a_below : suc a ≤ 2 ^ f = omega arith in
    subst (λ t. IsNoGreater (cond t (cyc_up_to f a low (cyc_end Side.Up f a low)) None) (cyc_up_to f b low (cyc_end Side.Up f b low))) (sym (le-leb (suc a) (2 ^ f) a_below))
    (cyc_ends-monotone f a b low bits h below)))
    (λ past. subst (λ t. IsNoGreater (from_up Kind.Cyc f a low) (cond t (cyc_up_to f b low (cyc_end Side.Up f b low)) None)) (sym (lt-leb (suc b) (2 ^ f) (omega arith))) tt)
    (cases_lt b (2 ^ f))

-- With at least one fraction bit, where a is at most b, the upper logarithm of 1 / (1 - a) is no
-- greater than that of 1 / (1 - b).
pub log_up-monotone : (f a b : ℕ) → 0 < f → a ≤ b → IsNoGreater (log_up f a) (log_up f b)
log_up-monotone f a b bits h = cyc_from_up-monotone f a b 1 bits h
