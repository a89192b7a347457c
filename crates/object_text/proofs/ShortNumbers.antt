-- The digits of numbers below 1000, and the texts that they are appended to.
use Rattle.std.proofs.Common.{◌≡◌, ℕ, ◌+◌, ◌/◌, ◌%◌, ◌<◌, ◌≤◌, List, [], ◌∷◌, ◌++◌, arith, sym, ◌∙◌, ap, append_assoc, decimal}
use Rattle.std.proofs.lemmas.Fmt.{decimal_digit, decimal_step}

two : (n : ℕ) → 10 ≤ n → n < 100 → decimal n ≡ (48 + n / 10) ∷ (48 + n % 10) ∷ []
two n above below = decimal_step n above (omega arith) ∙ ap (λ ds. ds ++ ((48 + n % 10) ∷ [])) (decimal_digit (n / 10) (omega arith))

three : (n : ℕ) → 100 ≤ n → n < 1000 → decimal n ≡ (48 + n / 100) ∷ (48 + n / 10 % 10) ∷ (48 + n % 10) ∷ []
three n above below =
    let front : n / 10 / 10 ≡ n / 100 = omega arith in
    decimal_step n (omega arith) (omega arith) ∙ ap (λ ds. ds ++ ((48 + n % 10) ∷ [])) (two (n / 10) (omega arith) (omega arith))
    ∙ ap (λ d. (48 + d) ∷ (48 + n / 10 % 10) ∷ (48 + n % 10) ∷ []) front

-- A number below 10 is appended by one byte.
pub one-put : (n : ℕ) (t t1 : List ℕ) (a : ℕ) → n < 10 → a ≡ 48 + n → t1 ≡ t ++ a ∷ [] → t1 ≡ t ++ decimal n
one-put n t t1 a below e e1 = e1 ∙ ap (λ z. t ++ z ∷ []) e ∙ ap (λ ds. t ++ ds) (sym (decimal_digit n below))

-- A number from 10 to 99 is appended by two bytes.
pub two-put : (n : ℕ) (t t1 t2 : List ℕ) (a b : ℕ) → 10 ≤ n → n < 100 → a ≡ 48 + n / 10 → b ≡ 48 + n % 10 → t1 ≡ t ++ a ∷ [] → t2 ≡ t1 ++ b ∷ [] → t2 ≡ t ++ decimal n
two-put n t t1 t2 a b above below e f e1 e2 =
    e2 ∙ ap (λ u. u ++ b ∷ []) e1 ∙ append_assoc t (a ∷ []) (b ∷ [])
    ∙ ap (λ z. t ++ z ∷ b ∷ []) e ∙ ap (λ z. t ++ (48 + n / 10) ∷ z ∷ []) f ∙ ap (λ ds. t ++ ds) (sym (two n above below))

-- A number from 100 to 999 is appended by three bytes.
pub three-put : (n : ℕ) (t t1 t2 t3 : List ℕ) (a b c : ℕ) → 100 ≤ n → n < 1000 → a ≡ 48 + n / 100 → b ≡ 48 + n / 10 % 10 → c ≡ 48 + n % 10 → t1 ≡ t ++ a ∷ [] → t2 ≡ t1 ++ b ∷ [] → t3 ≡ t2 ++ c ∷ [] → t3 ≡ t ++ decimal n
three-put n t t1 t2 t3 a b c above below e f g e1 e2 e3 =
    e3 ∙ ap (λ u. u ++ c ∷ []) (e2 ∙ ap (λ u. u ++ b ∷ []) e1 ∙ append_assoc t (a ∷ []) (b ∷ [])) ∙ append_assoc t (a ∷ b ∷ []) (c ∷ [])
    ∙ ap (λ z. t ++ z ∷ b ∷ c ∷ []) e ∙ ap (λ z. t ++ (48 + n / 100) ∷ z ∷ c ∷ []) f ∙ ap (λ z. t ++ (48 + n / 100) ∷ (48 + n / 10 % 10) ∷ z ∷ []) g
    ∙ ap (λ ds. t ++ ds) (sym (three n above below))
