-- Words at the front of a text.
use Rattle.std.proofs.Common.{◌≡◌, ◌≢◌, ℕ, ◌+◌, Bool, true, false, List, [], ◌∷◌, ◌++◌, length, take, drop, refl, sym, ◌∙◌, ap, eq-eqb, Bor, Option, Some, None, MatchOption, IfSome, IfNone}
use Rattle.std.proofs.lemmas.Bool.{eqb-true}
use Rattle.std.specs.Prelude.{nat_eq, ◌&&◌}
use Rattle.std.specs.Cmp.Lexicographic.{pointwise}
use Rattle.std.proofs.lemmas.List.{take-append-drop}

and-parts : (a b : Bool) → (a && b) ≡ true → (a ≡ true) × (b ≡ true)
and-parts true b e = (refl, e)
and-parts false b e = absurd (cc)

pointwise-same : (xs ys : List ℕ) → pointwise nat_eq xs ys ≡ true → xs ≡ ys
pointwise-same [] [] e = refl
pointwise-same [] (y ∷ ys) e = absurd (cc)
pointwise-same (x ∷ xs) [] e = absurd (cc)
pointwise-same (x ∷ xs) (y ∷ ys) e =
    let p = and-parts (nat_eq x y) (pointwise nat_eq xs ys) e in
    let head : x ≡ y = eqb-true x y p.0 in
    let tail = pointwise-same xs ys p.1 in
    cc (head, tail)

pointwise-refl : (xs : List ℕ) → pointwise nat_eq xs xs ≡ true
pointwise-refl [] = refl
pointwise-refl (x ∷ xs) = let h : nat_eq x x ≡ true = eq-eqb x x refl in rw h (pointwise-refl xs)

front-of : (word rest : List ℕ) → take (length word) (word ++ rest) ≡ word
front-of [] rest = refl
front-of (x ∷ word) rest = ap (λ t. x ∷ t) (front-of word rest)

pub found-word : (word text rest : List ℕ) → pointwise nat_eq (take (length word) text) word ≡ true → rest ≡ drop (length word) text → text ≡ word ++ rest
found-word word text rest e d = sym (take-append-drop (length word) text) ∙ ap (λ t. t ++ drop (length word) text) (pointwise-same (take (length word) text) word e) ∙ ap (λ t. word ++ t) (sym d)

pub no-word : (word text : List ℕ) → pointwise nat_eq (take (length word) text) word ≡ false → (rest : List ℕ) → text ≢ word ++ rest
no-word word text e rest f =
    let t : pointwise nat_eq (take (length word) text) word ≡ true = ap (λ u. pointwise nat_eq u word) (ap (take (length word)) f ∙ front-of word rest) ∙ pointwise-refl word in
    absurd (cc)

-- Where removing a word from the front of a text leaves a rest, the text is the word and that rest.
pub word-found : (word text : List ℕ) (r : Option (Bor (List ℕ))) → MatchOption r (pointwise nat_eq (take (length word) text) word ≡ false) (λ x. (pointwise nat_eq (take (length word) text) word ≡ true) × (x.now ≡ drop (length word) text) × (length x.now + length word ≡ length text)) → IfSome r (λ rest. text ≡ word ++ rest.now)
word-found word text None h = tt
word-found word text (Some x) h = found-word word text x.now h.0 h.1

-- Where removing a word from the front of a text leaves no result, the text doesn't begin with the
-- word.
pub word-missing : (word text : List ℕ) (r : Option (Bor (List ℕ))) → MatchOption r (pointwise nat_eq (take (length word) text) word ≡ false) (λ x. (pointwise nat_eq (take (length word) text) word ≡ true) × (x.now ≡ drop (length word) text) × (length x.now + length word ≡ length text)) → IfNone r ((rest : List ℕ) → text ≢ word ++ rest)
word-missing word text None h = no-word word text h
word-missing word text (Some x) h = tt
