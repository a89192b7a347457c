-- Digits of numbers at the front of a text: two numbers with the same digits are one, where no digit follows.
use Rattle.std.proofs.Common.{◌≡◌, ℕ, zero, suc, ◌+◌, ◌-◌, ◌*◌, ◌/◌, ◌%◌, ◌^◌, ◌<◌, ◌≤◌, List, [], ◌∷◌, ◌++◌, length, take, drop, get_or, arith, refl, sym, ◌∙◌, ap, subst, decimal}
use Rattle.std.specs.Str.Parse.{AllDigits, digits_value}
use Rattle.std.proofs.lemmas.Fmt.{decimal_is_IsNumeral, decimal_injective, decimal_digit, decimal_step, first_decimal}
use Rattle.std.proofs.lemmas.Str.Parse.{tells_digits, digits_value-take-le}
use Rattle.std.proofs.lemmas.Str.{digit_value_digit}
use Rattle.std.proofs.lemmas.Int.Digits.{digits_value_push}
use Rattle.std.specs.Char.{digit_value}
use Rattle.object_text.specs.Scanning.{BeginsWithByte, IsDigit, EndsNumber, FurtherDigit, HasNoNumber, BeginsLike}

-- The first byte is no digit.
abbrev pub HasNoDigit : List ℕ → Type 0
HasNoDigit [] = Unit {0}
HasNoDigit (b ∷ text) = ¬ (IsDigit b)

-- Two equal lists that have a first item have the same first item and the same rest.
pub cons-same : (a b : ℕ) (xs ys : List ℕ) → a ∷ xs ≡ b ∷ ys → (a ≡ b) × (xs ≡ ys)
cons-same a b xs ys e = (cc, cc)

-- a text behind its first byte
pub behind-byte : (b : ℕ) (text : List ℕ) → BeginsWithByte b text → text ≡ b ∷ drop 1 text
behind-byte b [] h = elim h [ ]
behind-byte b (c ∷ text) h = ap (λ z. z ∷ text) h

-- A text that begins with the byte of a digit d is the decimal text of d, followed by what stands
-- behind the first byte.
pub first-digit : (text : List ℕ) (d : ℕ) → d ≤ 9 → BeginsWithByte (48 + d) text → text ≡ decimal d ++ drop 1 text
first-digit text d s h = behind-byte (48 + d) text h ∙ ap (λ ds. ds ++ drop 1 text) (sym (decimal_digit d (omega arith)))

-- one digit more
decimal-more : (n d : ℕ) → 1 ≤ n → d ≤ 9 → 10 * n + d < 2 ^ 64 → decimal (10 * n + d) ≡ decimal n ++ (48 + d) ∷ []
decimal-more n d p s small =
    let front : (10 * n + d) / 10 ≡ n = omega arith in
    let last : (10 * n + d) % 10 ≡ d = omega arith in
    decimal_step (10 * n + d) (omega arith) small ∙ ap (λ k. decimal k ++ ((48 + (10 * n + d) % 10) ∷ [])) front ∙ ap (λ k. decimal n ++ ((48 + k) ∷ [])) last

append-one : (ds text : List ℕ) (b : ℕ) → ds ++ b ∷ text ≡ (ds ++ b ∷ []) ++ text
append-one [] text b = refl
append-one (d ∷ ds) text b = ap (λ t. d ∷ t) (append-one ds text b)

-- If a text begins with the digits of n and a further digit of a number of at most 1000000 follows,
-- it begins with the digits of the longer number.
pub further-digit : (most n : ℕ) (text rest : List ℕ) (more : ℕ) → most ≤ 1000000 → text ≡ decimal n ++ rest → FurtherDigit most n rest more → text ≡ decimal more ++ drop 1 rest
further-digit most n text rest more small e f =
    let within = f.within in
    let value = f.value in
    e ∙ ap (λ t. decimal n ++ t) (behind-byte (48 + f.digit) rest f.begins) ∙ append-one (decimal n) (drop 1 rest) (48 + f.digit)
    ∙ ap (λ ds. ds ++ drop 1 rest) (sym (ap decimal f.value ∙ decimal-more n f.digit f.positive f.small (omega arith)))

-- of two lists with the same bytes behind them in all, one begins the other
data Compared (xs ys r q : List ℕ) : Type 0 where
  same : xs ≡ ys → r ≡ q → Compared xs ys r q
  left_longer : (b : ℕ) (bs : List ℕ) → xs ≡ ys ++ b ∷ bs → q ≡ b ∷ (bs ++ r) → Compared xs ys r q
  right_longer : (b : ℕ) (bs : List ℕ) → ys ≡ xs ++ b ∷ bs → r ≡ b ∷ (bs ++ q) → Compared xs ys r q

compared : (xs ys r q : List ℕ) → xs ++ r ≡ ys ++ q → Compared xs ys r q
compared [] [] r q e = Compared.same refl e
compared [] (y ∷ ys) r q e = Compared.right_longer y ys refl e
compared (x ∷ xs) [] r q e = Compared.left_longer x xs refl (sym e)
compared (x ∷ xs) (y ∷ ys) r q e =
    let p = cons-same x y (xs ++ r) (ys ++ q) e in
    elim (compared xs ys r q p.1) [
      | same a b ↦ Compared.same (ap (λ t. x ∷ t) a ∙ ap (λ z. z ∷ ys) p.0) b
      | left_longer b bs a c ↦ Compared.left_longer b bs (ap (λ t. x ∷ t) a ∙ ap (λ z. z ∷ (ys ++ b ∷ bs)) p.0) c
      | right_longer b bs a c ↦ Compared.right_longer b bs (ap (λ t. y ∷ t) a ∙ ap (λ z. z ∷ (xs ++ b ∷ bs)) (sym p.0)) c
    ]

digit-there : (xs bs : List ℕ) (b : ℕ) → AllDigits 10 (xs ++ b ∷ bs) → IsDigit b
digit-there [] bs b h = let k = (tells_digits.parts b bs h).0 in record { from_0 = k.0; to_9 = k.1 }
digit-there (x ∷ xs) bs b h = digit-there xs bs b h.1

digits-of : (n : ℕ) → n ≤ 1000000 → AllDigits 10 (decimal n)
digits-of n h = (decimal_is_IsNumeral n (omega arith)).0.1

take-to : (xs bs : List ℕ) (b k : ℕ) → k ≡ suc (length xs) → take k (xs ++ b ∷ bs) ≡ xs ++ b ∷ []
take-to xs bs b zero e = absurd (omega arith)
take-to [] bs b (suc zero) e = refl
take-to [] bs b (suc (suc k)) e = absurd (omega arith)
take-to (x ∷ xs) bs b (suc k) e = ap (λ t. x ∷ t) (take-to xs bs b k (omega arith))

-- a number has at least the value of its first digits
first-digits : (m n : ℕ) (b : ℕ) (bs : List ℕ) → m ≤ 1000000 → n ≤ 1000000 → IsDigit b → decimal m ≡ decimal n ++ b ∷ bs → 10 * n + (b - 48) ≤ m
first-digits m n b bs small few d e =
    let low = d.from_0 in
    let high = d.to_9 in
    let whole : digits_value 10 (decimal m) ≡ m = (decimal_is_IsNumeral m (omega arith)).1 in
    let own : digits_value 10 (decimal n) ≡ n = (decimal_is_IsNumeral n (omega arith)).1 in
    let part : digits_value 10 (take (suc (length (decimal n))) (decimal m)) ≤ digits_value 10 (decimal m) = digits_value-take-le 10 (decimal m) (suc (length (decimal n))) (omega arith) in
    let front : take (suc (length (decimal n))) (decimal m) ≡ decimal n ++ b ∷ [] = ap (take (suc (length (decimal n)))) e ∙ take-to (decimal n) bs b (suc (length (decimal n))) refl in
    let pushed : digits_value 10 (take (suc (length (decimal n))) (decimal m)) ≡ digits_value 10 (decimal n) * 10 + digit_value b = ap (digits_value 10) front ∙ digits_value_push 10 (decimal n) b in
    let value : digit_value b ≡ b - 48 = omega (arith, digit_value_digit b (low, high)) in
    omega arith

-- no number but 0 begins with 0
no_leading_zero : (m b : ℕ) (bs : List ℕ) → m ≤ 1000000 → decimal m ≡ decimal 0 ++ b ∷ bs → ⊥
no_leading_zero zero b bs small e = let n : length (decimal 0) ≡ length (decimal 0) + suc (length bs) = ap length e ∙ simp-length (decimal 0) b bs in omega arith
  where
    simp-length : (xs : List ℕ) (b : ℕ) (bs : List ℕ) → length (xs ++ b ∷ bs) ≡ length xs + suc (length bs)
    simp-length [] b bs = omega arith
    simp-length (x ∷ xs) b bs = let h = simp-length xs b bs in omega arith
no_leading_zero (suc m) b bs small e =
    let first = first_decimal (suc m) (omega arith) (omega arith) in
    let zero_is : decimal 0 ≡ 48 ∷ [] = decimal_digit 0 (omega arith) in
    let at : get_or (decimal (suc m)) 0 0 ≡ 48 = ap (λ ds. get_or ds 0 0) (e ∙ ap (λ ds. ds ++ b ∷ bs) zero_is) in
    omega arith

-- Where a number with what follows it is another number with what follows it, and neither is followed by a digit of a number like it, the numbers are one.
pub one-number : (most n m : ℕ) (rest r q : List ℕ) → most ≤ 1000000 → n ≤ most → m ≤ most → EndsNumber most n rest → BeginsLike rest r → HasNoDigit q → decimal n ++ r ≡ decimal m ++ q → (n ≡ m) × (r ≡ q)
one-number most n m rest r q small few less ends like none e = go (compared (decimal n) (decimal m) r q e)
  where
    no-digit : (b : ℕ) (bs : List ℕ) → IsDigit b → q ≡ b ∷ bs → ⊥
    no-digit b bs d e = (subst HasNoDigit e none) d

    ended : (b : ℕ) (bs : List ℕ) → (rest : List ℕ) → EndsNumber most n rest → BeginsLike rest r → IsDigit b → r ≡ b ∷ bs → 1 ≤ n → most < 10 * n + (b - 48)
    ended b bs [] ends like d e p = absurd (let same = like in cc)
    ended b bs (c ∷ rest) ends like d e p =
        let same : c ≡ b = (cons-same c b like.0 bs (sym like.1 ∙ e)).0 in
        subst (λ z. most < 10 * n + (z - 48)) same (ends (subst IsDigit (sym same) d) p)

    longer : (b : ℕ) (bs : List ℕ) → decimal m ≡ decimal n ++ b ∷ bs → r ≡ b ∷ (bs ++ q) → (k : ℕ) → k ≡ n → ⊥
    longer b bs e f zero z = no_leading_zero m b bs (omega arith) (e ∙ ap (λ j. decimal j ++ b ∷ bs) (sym z))
    longer b bs e f (suc k) z =
        let d = digit-there (decimal n) bs b (subst (AllDigits 10) e (digits-of m (omega arith))) in
        let above = ended b (bs ++ q) rest ends like d f (omega arith) in
        let least = first-digits m n b bs (omega arith) (omega arith) d e in
        omega arith

    go : Compared (decimal n) (decimal m) r q → (n ≡ m) × (r ≡ q)
    go (Compared.same a b) = (decimal_injective n m (omega arith) (omega arith) a, b)
    go (Compared.left_longer b bs a c) = absurd (no-digit b (bs ++ r) (digit-there (decimal m) bs b (subst (AllDigits 10) a (digits-of n (omega arith)))) c)
    go (Compared.right_longer b bs a c) = absurd (longer b bs a c n refl)

-- a number begins with a digit, which is the number itself or less
pub record HasDigit (low most : ℕ) (text : List ℕ) : Type 0 where
  pub byte : ℕ
  pub back : List ℕ
  pub is : text ≡ byte ∷ back
  pub digit : IsDigit byte
  pub least : low ≤ byte - 48
  pub greatest : byte - 48 ≤ most

-- A text that begins with a number n from low to most, where low is 0 or 1, begins with a digit
-- from low to most.
pub has-digit : (low most n : ℕ) → low ≤ 1 → low ≤ n → n ≤ most → most ≤ 1000000 → (q : List ℕ) → HasDigit low most (decimal n ++ q)
has-digit low most n one least greatest small q = go (decimal n) refl (decimal_is_IsNumeral n (omega arith)).0.0 (decimal_is_IsNumeral n (omega arith)).0.1
  where
    value : (b : ℕ) (bs : List ℕ) → decimal n ≡ b ∷ bs → IsDigit b → b - 48 ≤ n
    value b bs e d =
        let low = d.from_0 in
        let high = d.to_9 in
        let whole : digits_value 10 (decimal n) ≡ n = (decimal_is_IsNumeral n (omega arith)).1 in
        let part = digits_value-take-le 10 (decimal n) 1 (omega arith) in
        let front : take 1 (decimal n) ≡ [] ++ b ∷ [] = ap (take 1) e ∙ take-to [] bs b 1 (omega arith) in
        let pushed = ap (digits_value 10) front ∙ digits_value_push 10 [] b in
        let digit : digit_value b ≡ b - 48 = omega (arith, digit_value_digit b (low, high)) in
        omega arith

    positive : (b : ℕ) (bs : List ℕ) → decimal n ≡ b ∷ bs → 0 < n → 48 < b
    positive b bs e p = let first = first_decimal n p (omega arith) in let at : get_or (decimal n) 0 0 ≡ b = ap (λ ds. get_or ds 0 0) e in omega arith

    above : (b : ℕ) (bs : List ℕ) → decimal n ≡ b ∷ bs → IsDigit b → (k : ℕ) → k ≡ low → low ≤ b - 48
    above b bs e d zero z = omega arith
    above b bs e d (suc k) z = let p = positive b bs e (omega arith) in omega arith

    go : (ds : List ℕ) → decimal n ≡ ds → 0 < length (decimal n) → AllDigits 10 (decimal n) → HasDigit low most (ds ++ q)
    go [] e some all = absurd (let none : length (decimal n) ≡ 0 = ap length e in omega arith)
    go (b ∷ bs) e some all =
        let d = digit-there [] bs b (subst (AllDigits 10) e all) in
        record { byte = b; back = bs ++ q; is = refl; digit = d; least = above b bs e d low refl; greatest = let v = value b bs e d in omega arith }

-- a text whose first byte is no first digit begins with no number, however it goes on
pub no-number : (low most n : ℕ) → low ≤ 1 → low ≤ n → n ≤ most → most ≤ 1000000 → (b : ℕ) (text more q : List ℕ) → HasNoNumber low most (b ∷ text) → b ∷ more ≡ decimal n ++ q → ⊥
no-number low most n one least greatest small b text more q none e =
    let h = has-digit low most n one least greatest small q in
    let same : b ≡ h.byte = (cons-same b h.byte more h.back (e ∙ h.is)).0 in
    let above = none (subst IsDigit (sym same) h.digit) (subst (λ z. low ≤ z - 48) (sym same) h.least) in
    let within : b - 48 ≤ most = subst (λ z. z - 48 ≤ most) (sym same) h.greatest in
    omega arith

-- The empty text begins with no number of at most 1000000.
pub no-number-end : (n : ℕ) → n ≤ 1000000 → (q : List ℕ) → [] ≡ decimal n ++ q → ⊥
no-number-end n small q e = let h = has-digit 0 1000000 n (omega arith) (omega arith) small (omega arith) q in absurd (let same = e ∙ h.is in cc)
