-- The number at the front of a text is one.
use Rattle.std.proofs.Common.{◌≡◌, ℕ, zero, suc, ◌-◌, ◌^◌, ◌<◌, ◌≤◌, List, [], ◌∷◌, ◌++◌, length, take, drop, get_or, arith, refl, sym, ◌∙◌, ap, subst, decimal, take_all}
use Rattle.std.specs.Str.Parse.{AllDigits, digits_value}
use Rattle.std.proofs.lemmas.Fmt.{decimal_is_IsNumeral, decimal_injective, decimal-digits_value, first_decimal, decimal_digit}
use Rattle.std.proofs.lemmas.Str.Parse.{IsNumeralModel, tells_digits}
use Rattle.std.proofs.lemmas.List.{take-append-drop, length-drop}
use Rattle.bz_model.specs.Number.{IsNumber, number_value}
use Rattle.certificate.specs.Patterns.{HasNoDigit, BeginsNumber}

head-same : (a b : ℕ) (xs ys : List ℕ) → a ∷ xs ≡ b ∷ ys → (a ≡ b) × (xs ≡ ys)
head-same a b xs ys e = (cc, cc)

-- numbers that end where their digits do
digits-same : (xs ys r q : List ℕ) → AllDigits 10 xs → AllDigits 10 ys → HasNoDigit r → HasNoDigit q → xs ++ r ≡ ys ++ q → (xs ≡ ys) × (r ≡ q)
digits-same [] [] r q h k m n e = (refl, e)
digits-same [] (y ∷ ys) [] q h k m n e = absurd (cc)
digits-same [] (y ∷ ys) (b ∷ r) q h k m n e =
    let same : b ≡ y = (head-same b y r (ys ++ q) e).0 in
    absurd (m (subst (λ z. (48 ≤ z) × (z ≤ 57)) (sym same) (tells_digits.parts y ys k).0))
digits-same (x ∷ xs) [] r [] h k m n e = absurd (cc)
digits-same (x ∷ xs) [] r (b ∷ q) h k m n e =
    let same : x ≡ b = (head-same x b (xs ++ r) q e).0 in
    absurd (n (subst (λ z. (48 ≤ z) × (z ≤ 57)) same (tells_digits.parts x xs h).0))
digits-same (x ∷ xs) (y ∷ ys) r q h k m n e =
    let p = head-same x y (xs ++ r) (ys ++ q) e in
    let t = digits-same xs ys r q h.1 k.1 m n p.1 in
    let same : x ∷ xs ≡ y ∷ ys = cc (p.0, t.0) in
    (same, t.1)

-- The decimal text of a number below 2^64 has only digits.
pub digits-in : (n : ℕ) → n < 2 ^ 64 → AllDigits 10 (decimal n)
digits-in n h = (decimal_is_IsNumeral n h).0.1

-- A text begins with at most one number, and what follows it is determined too.
pub one-number : (text : List ℕ) (n m : ℕ) (r q : List ℕ) → BeginsNumber text n r → BeginsNumber text m q → (n ≡ m) × (r ≡ q)
one-number text n m r q a b =
    let t = digits-same (decimal n) (decimal m) r q (digits-in n a.small) (digits-in m b.small) a.apart b.apart (sym a.split ∙ b.split) in
    (decimal_injective n m a.small b.small t.0, t.1)

by_digits : IsNumeralModel (AllDigits 10) (digits_value 10)
by_digits = record { to = λ ds h. h; from = λ ds h. h; same = λ ds h. refl }

-- a text of digits is that of its value
decimal-of : (ds : List ℕ) (n : ℕ) → IsNumber ds → number_value ds ≡ n → n < 2 ^ 64 → decimal n ≡ ds
decimal-of ds n h v small = ap decimal (sym v) ∙ decimal-digits_value by_digits ds h.digits.1 h.digits.0 h.plain (subst (λ z. z < 2 ^ 64) (sym v) small)

-- a number's own digits are a number
number-of : (n : ℕ) → n < 2 ^ 64 → IsNumber (decimal n)
number-of n h = record { digits = (decimal_is_IsNumeral n h).0; plain = λ e. plain n h e }
  where
    plain : (n : ℕ) → n < 2 ^ 64 → get_or (decimal n) 0 0 ≡ 48 → length (decimal n) ≡ 1
    plain zero h e = ap length (decimal_digit 0 (omega arith))
    plain (suc n) h e = absurd (let f = first_decimal (suc n) (omega arith) h in omega arith)

ends-here : (text : List ℕ) (count : ℕ) → (count < length text → ¬ ((48 ≤ get_or text count 0) × (get_or text count 0 ≤ 57))) → HasNoDigit (drop count text)
ends-here [] zero h = tt
ends-here [] (suc count) h = tt
ends-here (b ∷ text) zero h = h (omega arith)
ends-here (b ∷ text) (suc count) h = ends-here text count (λ lt. h (omega arith))

-- Taking as many items as are left after the first count of a text gives all that is left.
pub rest-of : (text : List ℕ) (count : ℕ) → take (length text - count) (drop count text) ≡ drop count text
rest-of text count = take_all (length text - count) (drop count text) (omega (arith, length-drop count text))

-- If the first count bytes of a text are a number n below 2^64 and no digit comes next, the text
-- begins with the number n, and what stands behind it follows.
pub found-number : (text : List ℕ) (count n : ℕ) → (count < length text → ¬ ((48 ≤ get_or text count 0) × (get_or text count 0 ≤ 57))) → IsNumber (take count text) → number_value (take count text) ≡ n → n < 2 ^ 64 → BeginsNumber text n (take (length text - count) (drop count text))
found-number text count n ends is value small = subst (BeginsNumber text n) (sym (rest-of text count)) (record {
  small = small;
  split = sym (take-append-drop count text) ∙ ap (λ ds. ds ++ drop count text) (sym (decimal-of (take count text) n is value small));
  apart = ends-here text count ends;
})

all-digits : (ds : List ℕ) → ((k : ℕ) → k < length ds → (48 ≤ get_or ds k 0) × (get_or ds k 0 ≤ 57)) → AllDigits 10 ds
all-digits [] h = tt
all-digits (d ∷ ds) h = tells_digits.more d ds (h 0 (omega arith)) (all-digits ds (λ k lt. h (suc k) (omega arith)))

get-take : (text : List ℕ) (count k : ℕ) → k < length (take count text) → (get_or (take count text) k 0 ≡ get_or text k 0) × (k < count)
get-take [] zero k h = absurd (omega arith)
get-take [] (suc count) k h = absurd (omega arith)
get-take (b ∷ text) zero k h = absurd (omega arith)
get-take (b ∷ text) (suc count) zero h = (refl, omega arith)
get-take (b ∷ text) (suc count) (suc k) h = let t = get-take text count k (omega arith) in let lt = t.1 in (t.0, omega arith)

-- If the digits at the front of a text are no number, or one above 2^64 - 1, the text begins with
-- no number of 64 bits.
pub no-number : (text : List ℕ) (count : ℕ) → ((k : ℕ) → k < count → (48 ≤ get_or text k 0) × (get_or text k 0 ≤ 57)) → (count < length text → ¬ ((48 ≤ get_or text count 0) × (get_or text count 0 ≤ 57))) → (IsNumber (take count text) → 18446744073709551615 < number_value (take count text)) → (n : ℕ) (rest : List ℕ) → ¬ (BeginsNumber text n rest)
no-number text count digits ends none n rest b =
    let t = digits-same (take count text) (decimal n) (drop count text) rest (all-digits (take count text) (λ k lt. let g = get-take text count k lt in subst (λ z. (48 ≤ z) × (z ≤ 57)) (sym g.0) (digits k g.1))) (digits-in n b.small) (ends-here text count ends) b.apart (take-append-drop count text ∙ b.split) in
    let value : number_value (take count text) ≡ n = ap number_value t.0 ∙ (decimal_is_IsNumeral n b.small).1 in
    let above = none (subst IsNumber (sym t.0) (number-of n b.small)) in
    let small = b.small in
    omega arith

-- no digit comes first where a text begins with none
pub none-first : (text : List ℕ) → (0 < length text → ¬ ((48 ≤ get_or text 0 0) × (get_or text 0 0 ≤ 57))) → HasNoDigit text
none-first text h = ends-here text 0 h

-- A text that isn't empty and has a digit as its first byte doesn't begin with no digit.
pub some-first : (text : List ℕ) → 0 < length text → (48 ≤ get_or text 0 0) × (get_or text 0 0 ≤ 57) → ¬ (HasNoDigit text)
some-first [] lt d h = absurd (omega arith)
some-first (b ∷ text) lt d h = h d
