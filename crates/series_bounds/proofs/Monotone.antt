-- Upper operations are monotone: where one has a value, it has one for arguments that are no greater, and that is no greater.
use Rattle.std.proofs.Common.{◌≡◌, ℕ, zero, suc, ◌+◌, ◌*◌, ◌^◌, ◌<◌, ◌≤◌, ◌⊎◌, min, Bool, true, false, ◌&&◌, List, [], ◌∷◌, drop, Some, None, cond, refl, sym, subst, arith, ltb, leb, inl, inr, ⊎_elim}
use Rattle.std.specs.Prelude.{sum}
use Rattle.std.specs.List.{fold, list_all}
use Rattle.std.proofs.Math.Nat.{mul-pos, le_trans, le_refl}
use Rattle.std.proofs.lemmas.Nat.{pow_pos, mul-le}
use Rattle.std.proofs.lemmas.Bool.{cases_lt, le-leb, lt-leb, leb-true}
use Rattle.fixed_enclosure.specs.UpperValues.{IsNoGreater, AreAtMost}
use Rattle.fixed_enclosure.specs.Rounded.{greatest, fits, if_fits, Side, mul_up, seq_up}
use Rattle.series_bounds.specs.Series.{Kind, divisor, carried_on, carried, term, terms_from, terms, sum_up, sum_capped, range_up, part_up, from_up, exp_up}
use Rattle.fixed_enclosure.proofs.Quotients.{quotient_up-monotone}
use Rattle.fixed_enclosure.proofs.Monotone.{if_fits-monotone, mul_up-monotone, seq_up-monotone, and_then-below}

-- What the number carried to a term after term 0 is divided by is positive.
pub divisor_pos : (f : ℕ) (kind : Kind) (j : ℕ) → 0 < divisor kind (suc j) * 2 ^ f
divisor_pos f Kind.Seq j = mul-pos (omega arith) (pow_pos f)
divisor_pos f Kind.Set j = mul-pos (omega arith) (pow_pos f)
divisor_pos f Kind.Cyc j = mul-pos (omega arith) (pow_pos f)

-- Where a is at most b and c is at most d, what one step carries on from c at a, rounded up, is at
-- most what it carries on from d at b.
pub carried_on-monotone : (kind : Kind) (f a b j c d : ℕ) → a ≤ b → c ≤ d → carried_on Side.Up kind f a j c ≤ carried_on Side.Up kind f b j d
carried_on-monotone kind f a b j c d p q = quotient_up-monotone (c * a) (d * b) (divisor kind (suc j) * 2 ^ f) (divisor kind (suc j) * 2 ^ f) (divisor_pos f kind j) (le_refl (divisor kind (suc j) * 2 ^ f)) (mul-le c a d b q p)

-- Where a is at most b, the number carried to term j at a, rounded up, is at most the one at b.
pub carried-monotone : (kind : Kind) (f a b j : ℕ) → a ≤ b → carried Side.Up kind f a j ≤ carried Side.Up kind f b j
carried-monotone kind f a b zero p = le_refl (2 ^ f)
carried-monotone kind f a b (suc j) p = carried_on-monotone kind f a b j (carried Side.Up kind f a j) (carried Side.Up kind f b j) p (carried-monotone kind f a b j p)

pub term-monotone : (kind : Kind) (j c d : ℕ) → c ≤ d → term Side.Up kind j c ≤ term Side.Up kind j d
term-monotone Kind.Seq j c d q = q
term-monotone Kind.Set j c d q = q
term-monotone Kind.Cyc zero c d q = le_refl 0
term-monotone Kind.Cyc (suc j) c d q = quotient_up-monotone c d (suc j) (suc j) (omega arith) (le_refl (suc j)) q

pub terms_from-monotone : (kind : Kind) (f a b n j c d : ℕ) → a ≤ b → c ≤ d → AreAtMost (terms_from Side.Up kind f a n j c) (terms_from Side.Up kind f b n j d)
terms_from-monotone kind f a b zero j c d p q = tt
terms_from-monotone kind f a b (suc n) j c d p q = (term-monotone kind j c d q, terms_from-monotone kind f a b n (suc j) (carried_on Side.Up kind f a j c) (carried_on Side.Up kind f b j d) p (carried_on-monotone kind f a b j c d p q))

-- Where a is at most b, each of the first n upper terms at a is at most the same term at b.
pub terms-monotone : (kind : Kind) (f a b n : ℕ) → a ≤ b → AreAtMost (terms Side.Up kind f a n) (terms Side.Up kind f b n)
terms-monotone kind f a b n p = terms_from-monotone kind f a b n 0 (2 ^ f) (2 ^ f) p (le_refl (2 ^ f))

pub drop-at_most : (n : ℕ) (xs ys : List ℕ) → AreAtMost xs ys → AreAtMost (drop n xs) (drop n ys)
drop-at_most zero xs ys p = p
drop-at_most (suc n) [] [] p = tt
drop-at_most (suc n) [] (y ∷ ys) p = absurd p
drop-at_most (suc n) (x ∷ xs) [] p = absurd p
drop-at_most (suc n) (x ∷ xs) (y ∷ ys) p = drop-at_most n xs ys p.1

fold-at_most : (xs ys : List ℕ) (a b : ℕ) → a ≤ b → AreAtMost xs ys → fold (λ s x. s + x) a xs ≤ fold (λ s x. s + x) b ys
fold-at_most [] [] a b h p = h
fold-at_most [] (y ∷ ys) a b h p = absurd p
fold-at_most (x ∷ xs) [] a b h p = absurd p
fold-at_most (x ∷ xs) (y ∷ ys) a b h p = let x_le : x ≤ y = p.0 in fold-at_most xs ys (a + x) (b + y) (omega arith) p.1

pub sum-at_most : (xs ys : List ℕ) → AreAtMost xs ys → sum xs ≤ sum ys
sum-at_most xs ys p = fold-at_most xs ys 0 0 (le_refl 0) p

-- Where all of the greater numbers fit, all of the lesser do.
pub fit-at_most : (xs ys : List ℕ) → AreAtMost xs ys → list_all fits ys ≡ true → list_all fits xs ≡ true
fit-at_most [] [] p e = e
fit-at_most [] (y ∷ ys) p e = absurd p
fit-at_most (x ∷ xs) [] p e = absurd p
fit-at_most (x ∷ xs) (y ∷ ys) p e =
    let x_le : x ≤ y = p.0 in
    let y_fits : leb y greatest ≡ true = elim (leb y greatest) as (λ b. (b && list_all fits ys) ≡ true → b ≡ true) [ true ↦ λ _. refl | false ↦ λ h. h ] e in
    let rest_fits : list_all fits ys ≡ true = elim (leb y greatest) as (λ b. (b && list_all fits ys) ≡ true → list_all fits ys ≡ true) [ true ↦ λ h. h | false ↦ λ h. cc ] e in
    let x_fits : leb x greatest ≡ true = le-leb x greatest (le_trans x_le (leb-true y greatest y_fits)) in
    subst (λ b. (b && list_all fits xs) ≡ true) (sym x_fits) (fit-at_most xs ys p.1 rest_fits)

-- The value of a test, with what it says.
bool_cases : (b : Bool) → (b ≡ true) ⊎ (b ≡ false)
bool_cases true = inl refl
bool_cases false = inr refl

-- Where xs is at most ys place by place, and r is at most s, the upper sum of xs from low on with
-- rest r is no greater than that of ys with s.
pub sum_up-monotone : (low : ℕ) (xs ys : List ℕ) (r s : ℕ) → AreAtMost xs ys → r ≤ s → IsNoGreater (sum_up low xs r) (sum_up low ys s)
sum_up-monotone low xs ys r s p q = ⊎_elim
    (λ fit. subst (λ b. IsNoGreater (sum_up low xs r) (cond b (if_fits (sum (drop low ys) + s)) None)) (sym fit)
    (subst (λ b. IsNoGreater (cond b (if_fits (sum (drop low xs) + r)) None) (if_fits (sum (drop low ys) + s))) (sym (fit-at_most xs ys p fit))
    (let sums : sum (drop low xs) ≤ sum (drop low ys) = sum-at_most (drop low xs) (drop low ys) (drop-at_most low xs ys p) in if_fits-monotone (sum (drop low xs) + r) (sum (drop low ys) + s) (omega arith))))
    (λ past. subst (λ b. IsNoGreater (sum_up low xs r) (cond b (if_fits (sum (drop low ys) + s)) None)) (sym past) tt)
    (bool_cases (list_all fits ys))

-- Where a is at most b, the upper value from low to i parts at a is no greater than that at b.
pub range_up-monotone : (kind : Kind) (f a b low i : ℕ) → a ≤ b → IsNoGreater (range_up kind f a low i) (range_up kind f b low i)
range_up-monotone kind f a b low i p = elim (ltb i low) as (λ t. IsNoGreater (cond t (Some 0) (sum_up low (terms Side.Up kind f a (suc i)) 0)) (cond t (Some 0) (sum_up low (terms Side.Up kind f b (suc i)) 0))) [
  | true ↦ le_refl 0
  | false ↦ sum_up-monotone low (terms Side.Up kind f a (suc i)) (terms Side.Up kind f b (suc i)) 0 0 (terms-monotone kind f a b (suc i) p) (le_refl 0)
]

pub min-monotone : (a b c d : ℕ) → a ≤ c → b ≤ d → min a b ≤ min c d
min-monotone a b c d p q = omega arith

pub sum_capped-monotone : (low : ℕ) (xs ys : List ℕ) (r s : ℕ) → AreAtMost xs ys → r ≤ s → sum_capped low xs r ≤ sum_capped low ys s
sum_capped-monotone low xs ys r s p q = ⊎_elim
    (λ fit. subst (λ b. sum_capped low xs r ≤ cond b (min (sum (drop low ys)) s) s) (sym fit)
    (subst (λ b. cond b (min (sum (drop low xs)) r) r ≤ min (sum (drop low ys)) s) (sym (fit-at_most xs ys p fit))
    (min-monotone (sum (drop low xs)) r (sum (drop low ys)) s (sum-at_most (drop low xs) (drop low ys) (drop-at_most low xs ys p)) q)))
    (λ past. subst (λ b. sum_capped low xs r ≤ cond b (min (sum (drop low ys)) s) s) (sym past)
    (elim (list_all fits xs) as (λ b. cond b (min (sum (drop low xs)) r) r ≤ s) [ true ↦ omega arith | false ↦ q ]))
    (bool_cases (list_all fits ys))

-- The value up to i parts, with a cap, is monotone in the part and in the cap.
pub part_up-monotone : (kind : Kind) (f a b low i r s : ℕ) → a ≤ b → r ≤ s → part_up kind f a low i r ≤ part_up kind f b low i s
part_up-monotone kind f a b low i r s p q = elim (ltb i low) as (λ t. cond t 0 (sum_capped low (terms Side.Up kind f a (suc i)) r) ≤ cond t 0 (sum_capped low (terms Side.Up kind f b (suc i)) s)) [
  | true ↦ le_refl 0
  | false ↦ sum_capped-monotone low (terms Side.Up kind f a (suc i)) (terms Side.Up kind f b (suc i)) r s (terms-monotone kind f a b (suc i) p) q
]

-- The sequence from low parts on.
pub seq_from_up-monotone : (f a b low : ℕ) → a ≤ b → IsNoGreater (from_up Kind.Seq f a low) (from_up Kind.Seq f b low)
seq_from_up-monotone f a b zero p = seq_up-monotone f a b p
seq_from_up-monotone f a b (suc low) p = and_then-below (mul_up f (carried Side.Up Kind.Seq f a (suc low))) (mul_up f (carried Side.Up Kind.Seq f b (suc low)))
    (λ c d q. mul_up-monotone f (carried Side.Up Kind.Seq f a (suc low)) c (carried Side.Up Kind.Seq f b (suc low)) d (carried-monotone Kind.Seq f a b (suc low) p) q)
    (seq_up f a) (seq_up f b) (seq_up-monotone f a b p)

-- The exponential from low parts on.
pub set_from_up-monotone : (f a b low : ℕ) → a ≤ b → IsNoGreater (from_up Kind.Set f a low) (from_up Kind.Set f b low)
set_from_up-monotone f a b low p = ⊎_elim
    (λ past. subst (λ t. IsNoGreater (from_up Kind.Set f a low) (cond t (sum_up low (terms Side.Up Kind.Set f b 128) (2 * carried Side.Up Kind.Set f b 128)) None)) (sym (lt-leb b (16 * 2 ^ f) past)) tt)
    (λ within. subst (λ t. IsNoGreater (from_up Kind.Set f a low) (cond t (sum_up low (terms Side.Up Kind.Set f b 128) (2 * carried Side.Up Kind.Set f b 128)) None)) (sym (le-leb b (16 * 2 ^ f) within))
    (subst (λ t. IsNoGreater (cond t (sum_up low (terms Side.Up Kind.Set f a 128) (2 * carried Side.Up Kind.Set f a 128)) None) (sum_up low (terms Side.Up Kind.Set f b 128) (2 * carried Side.Up Kind.Set f b 128))) (sym (le-leb a (16 * 2 ^ f) (le_trans p within)))
    (let rests : carried Side.Up Kind.Set f a 128 ≤ carried Side.Up Kind.Set f b 128 = carried-monotone Kind.Set f a b 128 p in
    sum_up-monotone low (terms Side.Up Kind.Set f a 128) (terms Side.Up Kind.Set f b 128) (2 * carried Side.Up Kind.Set f a 128) (2 * carried Side.Up Kind.Set f b 128) (terms-monotone Kind.Set f a b 128 p)
    (mul-le 2 (carried Side.Up Kind.Set f a 128) 2 (carried Side.Up Kind.Set f b 128) (le_refl 2) rests))))
    (cases_lt (16 * 2 ^ f) b)

-- Where a is at most b, the upper exponential at a is no greater than that at b.
pub exp_up-monotone : (f a b : ℕ) → a ≤ b → IsNoGreater (exp_up f a) (exp_up f b)
exp_up-monotone f a b p = set_from_up-monotone f a b 0 p
