-- Texts of digits, what they stand for, and the one way to take a fraction's text apart.
use Rattle.std.proofs.Common.{◌≡◌, ◌≢◌, ℕ, zero, suc, ◌+◌, ◌-◌, ◌*◌, ◌<◌, ◌≤◌, List, [], ◌∷◌, ◌++◌, length, get_or, take, drop, arith, refl, sym, subst, ◌∙◌, ap}
use Rattle.std.specs.Int.{IsInRange}
use Rattle.std.specs.Char.{digit_value}
use Rattle.std.specs.Str.Parse.{AllDigits, digits_value}
use Rattle.std.proofs.lemmas.Str.{digit_value_digit}
use Rattle.std.proofs.lemmas.Str.Parse.{IsNumeralModel, numerals_by_value, tells_by_index, digit_at, digits_value-take-le}
use Rattle.std.proofs.lemmas.Int.Digits.{digits_value_more}
use Rattle.bz_model.specs.Number.{IsNumber, HasFractionForm}

by_index : IsNumeralModel (λ ds. (i : ℕ) → i < length ds → IsInRange 48 57 (get_or ds i 0)) (digits_value 10)
by_index = numerals_by_value (λ ds. (i : ℕ) → i < length ds → IsInRange 48 57 (get_or ds i 0)) tells_by_index

-- a text of one digit or more, without a leading zero, is a number
pub number-from : (ds : List ℕ) → 0 < length ds → ((i : ℕ) → i < length ds → (48 ≤ get_or ds i 0) × (get_or ds i 0 ≤ 57)) → (get_or ds 0 0 ≡ 48 → length ds ≡ 1) → IsNumber ds
number-from ds some each plain = record { digits = (some, by_index.to ds each); plain = plain }

-- each byte of a number is a digit
pub digit-of : (ds : List ℕ) → IsNumber ds → (i : ℕ) → i < length ds → (48 ≤ get_or ds i 0) × (get_or ds i 0 ≤ 57)
digit-of ds h i lt = digit_at ds i h.digits.1 lt

digit : (c : ℕ) → IsInRange 48 57 c → digit_value c ≡ c - 48
digit c h = omega (arith, digit_value_digit c h)

-- one digit more
pub value-more : (ds : List ℕ) (i : ℕ) → AllDigits 10 ds → i < length ds → digits_value 10 (take (i + 1) ds) ≡ digits_value 10 (take i ds) * 10 + (get_or ds i 0 - 48)
value-more ds i h lt = digits_value_more 10 ds i lt ∙ ap (λ v. digits_value 10 (take i ds) * 10 + v) (digit (get_or ds i 0) (digit_at ds i h lt))

-- the first digits stand for no more than all of them
pub value-front : (ds : List ℕ) (i : ℕ) → digits_value 10 (take i ds) ≤ digits_value 10 ds
value-front ds i = digits_value-take-le 10 ds i (omega arith)

suc-plus_one : (i : ℕ) → suc i + 1 ≡ suc (i + 1)
suc-plus_one i = omega arith

-- the form of a fraction is told by its first stroke
tail-after : (a b : List ℕ) (i : ℕ) → i ≡ length a → drop (i + 1) (a ++ 47 ∷ b) ≡ b
tail-after [] b i e = rw e refl
tail-after (x ∷ a) b zero e = absurd (omega arith)
tail-after (x ∷ a) b (suc i) e = rw (suc-plus_one i) (tail-after a b i (omega arith))

front-before : (a b : List ℕ) (i : ℕ) → i ≡ length a → take i (a ++ 47 ∷ b) ≡ a
front-before [] b i e = rw e refl
front-before (x ∷ a) b zero e = absurd (omega arith)
front-before (x ∷ a) b (suc i) e = ap (λ r. x ∷ r) (front-before a b i (omega arith))

first-place : (a b : List ℕ) (i : ℕ) → ((k : ℕ) → k < length a → get_or a k 0 ≢ 47) → i < length (a ++ 47 ∷ b) → get_or (a ++ 47 ∷ b) i 0 ≡ 47 → ((k : ℕ) → k < i → get_or (a ++ 47 ∷ b) k 0 ≢ 47) → i ≡ length a
first-place [] b zero digits lt here before = refl
first-place [] b (suc i) digits lt here before = absurd (before 0 (omega arith) refl)
first-place (x ∷ a) b zero digits lt here before = absurd (digits 0 (omega arith) here)
first-place (x ∷ a) b (suc i) digits lt here before = ap suc (first-place a b i (λ k h. digits (suc k) (omega arith)) (omega arith) here (λ k h. before (suc k) (omega arith)))

no_stroke : (ds : List ℕ) → IsNumber ds → (k : ℕ) → k < length ds → get_or ds k 0 ≢ 47
no_stroke ds h k lt e = let d = digit-of ds h k lt in absurd (omega (arith, d.0, e))

-- a text that has the form of a fraction is a number, its first stroke, and a number
pub record Parted (text : List ℕ) (i : ℕ) (form : HasFractionForm text) : Type 0 where
  pub num : form.num ≡ take i text
  pub den : form.den ≡ drop (i + 1) text

-- Where a text has the form of a fraction and its first stroke is at place i, the numerator is what
-- stands before that place and the denominator what follows it.
pub parted : (text : List ℕ) (i : ℕ) → i < length text → get_or text i 0 ≡ 47 → ((k : ℕ) → k < i → get_or text k 0 ≢ 47) → (form : HasFractionForm text) → Parted text i form
parted text i lt here before form =
    let place : i ≡ length form.num = first-place form.num form.den i (no_stroke form.num form.is_num) (subst (λ t. i < length t) form.is lt) (subst (λ t. get_or t i 0 ≡ 47) form.is here) (subst (λ t. (k : ℕ) → k < i → get_or t k 0 ≢ 47) form.is before) in
    record {
      num = sym (subst (λ t. take i t ≡ form.num) (sym form.is) (front-before form.num form.den i place));
      den = sym (subst (λ t. drop (i + 1) t ≡ form.den) (sym form.is) (tail-after form.num form.den i place));
    }

here-in : (a b : List ℕ) → get_or (a ++ 47 ∷ b) (length a) 0 ≡ 47
here-in [] b = refl
here-in (x ∷ a) b = here-in a b

long : (a b : List ℕ) → length a < length (a ++ 47 ∷ b)
long [] b = omega arith
long (x ∷ a) b = let h = long a b in omega (arith, h)

in-front : (a b : List ℕ) (k : ℕ) → k < length a → get_or (a ++ 47 ∷ b) k 0 ≡ get_or a k 0
in-front [] b k h = absurd (omega arith)
in-front (x ∷ a) b zero h = refl
in-front (x ∷ a) b (suc k) h = in-front a b k (omega arith)

-- a text without a stroke has not that form
pub not-parted : (text : List ℕ) → ((k : ℕ) → k < length text → get_or text k 0 ≢ 47) → ¬ (HasFractionForm text)
not-parted text nowhere form =
    nowhere (length form.num)
    (subst (λ t. length form.num < length t) (sym form.is) (long form.num form.den))
    (subst (λ t. get_or t (length form.num) 0 ≡ 47) (sym form.is) (here-in form.num form.den))

-- a text is what stands before a stroke, the stroke, and what stands after it
pub joined : (text : List ℕ) (i : ℕ) → i < length text → get_or text i 0 ≡ 47 → text ≡ take i text ++ 47 ∷ drop (i + 1) text
joined [] i lt here = absurd (omega arith)
joined (x ∷ text) zero lt here = ap (λ v. v ∷ text) here
joined (x ∷ text) (suc i) lt here = rw (suc-plus_one i) (ap (λ r. x ∷ r) (joined text i (omega arith) here))

-- a text has the form of a fraction in one way
pub one-form : (text : List ℕ) (f g : HasFractionForm text) → (f.num ≡ g.num) × (f.den ≡ g.den)
one-form text f g =
    let lt : length f.num < length text = subst (λ t. length f.num < length t) (sym f.is) (long f.num f.den) in
    let here : get_or text (length f.num) 0 ≡ 47 = subst (λ t. get_or t (length f.num) 0 ≡ 47) (sym f.is) (here-in f.num f.den) in
    let before : (k : ℕ) → k < length f.num → get_or text k 0 ≢ 47 = λ k h. subst (λ t. get_or t k 0 ≢ 47) (sym f.is) (λ e. no_stroke f.num f.is_num k h (sym (in-front f.num f.den k h) ∙ e)) in
    let p = parted text (length f.num) lt here before f in
    let q = parted text (length f.num) lt here before g in
    (p.num ∙ sym q.num, p.den ∙ sym q.den)
