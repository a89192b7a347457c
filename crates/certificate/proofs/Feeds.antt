-- Texts without line feeds, and lines taken off a text one by one.
use Rattle.std.proofs.Common.{◌≡◌, ◌≢◌, ℕ, zero, suc, ◌/◌, ◌%◌, ◌≤◌, Bool, true, false, List, [], ◌∷◌, ◌++◌, get_or, arith, refl, sym, ◌∙◌, ap, subst, decimal, ◌⊎◌, inl, inr}
use Rattle.std.specs.Prelude.{nat_eq, not, ◌&&◌}
use Rattle.std.specs.List.{AllByRecursion, AllPass}
use Rattle.std.specs.Str.Parse.{AllDigits}
use Rattle.std.proofs.lemmas.Str.Parse.{tells_digits}
use Rattle.std.proofs.lemmas.Bool.Decides.{eqb_tells}
use Rattle.hex.specs.Hex.{encode_with, encode_lower, lower_digits}
use Rattle.class_system.specs.Words.{is_run_byte}
use Rattle.certificate.specs.Patterns.{filled_from, AreSmall}
use Rattle.certificate.specs.Reading.{HasNoFeed}
use Rattle.certificate.proofs.Filling.{cons-same, sign-filled, byte-filled, nothing-filled}
use Rattle.certificate.proofs.Numerals.{digits-in}

-- Two texts without line feeds, one after the other, have none.
pub append-no-feed : (xs ys : List ℕ) → HasNoFeed xs → HasNoFeed ys → HasNoFeed (xs ++ ys)
append-no-feed [] ys h k = k
append-no-feed (x ∷ xs) ys h k = (h.0, append-no-feed xs ys h.1 k)

-- What comes before the first such byte is cut off a text in one way.
pub one-cut-at : (s : ℕ) (x y p q : List ℕ) → AllByRecursion (λ b. b ≢ s) x → AllByRecursion (λ b. b ≢ s) y → x ++ s ∷ p ≡ y ++ s ∷ q → (x ≡ y) × (p ≡ q)
one-cut-at s [] [] p q h k e = (refl, (cons-same s s p q e).1)
one-cut-at s [] (b ∷ y) p q h k e = absurd (k.0 (sym (cons-same s b p (y ++ s ∷ q) e).0))
one-cut-at s (a ∷ x) [] p q h k e = absurd (h.0 (cons-same a s (x ++ s ∷ p) q e).0)
one-cut-at s (a ∷ x) (b ∷ y) p q h k e =
    let c = cons-same a b (x ++ s ∷ p) (y ++ s ∷ q) e in
    let t = one-cut-at s x y p q h.1 k.1 c.1 in
    let first : a ≡ b = c.0 in
    let rest : x ≡ y = t.0 in
    let same : a ∷ x ≡ b ∷ y = cc in
    (same, t.1)

-- A line with its line feed is taken off a text in one way.
pub one-cut : (x y p q : List ℕ) → HasNoFeed x → HasNoFeed y → x ++ 10 ∷ p ≡ y ++ 10 ∷ q → (x ≡ y) × (p ≡ q)
one-cut x y p q h k e = one-cut-at 10 x y p q h k e

-- Digits are no line feeds.
digits-no-feed : (ds : List ℕ) → AllDigits 10 ds → HasNoFeed ds
digits-no-feed [] h = tt
digits-no-feed (d ∷ ds) h = let low = (tells_digits.parts d ds h).0 in (λ e. absurd (let a = low.0 in omega arith), digits-no-feed ds h.1)

-- A pattern without line feeds, filled with numbers, has none.
pub filled-no-feed : (p ns : List ℕ) (next : ℕ) → AreSmall ns → HasNoFeed p → HasNoFeed (filled_from p ns next)
filled-no-feed [] ns next s h = subst HasNoFeed (sym (nothing-filled ns next)) tt
filled-no-feed (b ∷ p) ns next s h = cases (λ k. filled-no-feed p ns k s h.1) (eqb_tells b 35)
  where
    cases : ((k : ℕ) → HasNoFeed (filled_from p ns k)) → ((nat_eq b 35 ≡ true) × (b ≡ 35)) ⊎ ((nat_eq b 35 ≡ false) × (b ≢ 35)) → HasNoFeed (filled_from (b ∷ p) ns next)
    cases later (inl is) = subst HasNoFeed (sym (sign-filled b p ns next is.1)) (append-no-feed (decimal (get_or ns next 0)) (filled_from p ns (suc next)) (digits-no-feed (decimal (get_or ns next 0)) (digits-in (get_or ns next 0) (s.each next))) (later (suc next)))
    cases later (inr isnt) = subst HasNoFeed (sym (byte-filled b p ns next isnt.1)) (h.0, later next)

-- A run of letters, digits and underscores has no line feed.
pub run-no-feed : (name : List ℕ) → AllPass is_run_byte name → HasNoFeed name
run-no-feed [] h = tt
run-no-feed (b ∷ name) h = (λ e. absurd (let t : is_run_byte b ≡ true = h 0 0 (omega arith) in let f : is_run_byte 10 ≡ true = ap is_run_byte (sym e) ∙ t in cc), run-no-feed name (λ k d lt. h (suc k) d (omega arith)))

-- Such a run has no space.
pub run-no-space : (name : List ℕ) → AllPass is_run_byte name → AllByRecursion (λ b. b ≢ 32) name
run-no-space [] h = tt
run-no-space (b ∷ name) h = (λ e. absurd (let t : is_run_byte b ≡ true = h 0 0 (omega arith) in let f : is_run_byte 32 ≡ true = ap is_run_byte (sym e) ∙ t in cc), run-no-space name (λ k d lt. h (suc k) d (omega arith)))

-- A printed text has no line feed.
pub printed-no-feed : (text : List ℕ) → AllByRecursion (λ b. (32 ≤ b) × (b ≤ 126)) text → HasNoFeed text
printed-no-feed [] h = tt
printed-no-feed (b ∷ text) h = (λ e. absurd (let low = h.0.0 in omega arith), printed-no-feed text h.1)

-- Whether no byte of a text is a line feed.
abbrev pub no_feeds : List ℕ → Bool
no_feeds [] = true
no_feeds (b ∷ text) = not (nat_eq b 10) && no_feeds text

-- A text that passes the test has no line feed.
pub tested-no-feed : (text : List ℕ) → no_feeds text ≡ true → HasNoFeed text
tested-no-feed [] t = tt
tested-no-feed (b ∷ text) t = cases (λ u. tested-no-feed text u) (eqb_tells b 10)
  where
    cases : (no_feeds text ≡ true → HasNoFeed text) → ((nat_eq b 10 ≡ true) × (b ≡ 10)) ⊎ ((nat_eq b 10 ≡ false) × (b ≢ 10)) → HasNoFeed (b ∷ text)
    cases later (inl is) = let u : no_feeds (b ∷ text) ≡ false = ap (λ v. not v && no_feeds text) is.0 in absurd (cc)
    cases later (inr isnt) = (isnt.1, later (sym (ap (λ v. not v && no_feeds text) isnt.0) ∙ t))

-- No place of a text without line feeds has one.
get-no-feed : (text : List ℕ) → HasNoFeed text → (k : ℕ) → get_or text k 0 ≢ 10
get-no-feed [] h k e = absurd (omega arith)
get-no-feed (b ∷ text) h zero e = h.0 e
get-no-feed (b ∷ text) h (suc k) e = get-no-feed text h.1 k e

-- No hex digit is a line feed.
digit-no-feed : (d : ℕ) → get_or lower_digits d 0 ≢ 10
digit-no-feed d = get-no-feed lower_digits (tested-no-feed lower_digits refl) d

-- A hex text has no line feed.
pub hex-no-feed : (bytes : List ℕ) → HasNoFeed (encode_lower bytes)
unfolding encode_with
hex-no-feed [] = tt
hex-no-feed (b ∷ bytes) = (digit-no-feed (b / 16), (digit-no-feed (b % 16), hex-no-feed bytes))
