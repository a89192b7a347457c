-- Going through the classes, one entry after another.
use Rattle.std.proofs.Common.{◌≡◌, ℕ, zero, suc, ◌+◌, ◌<◌, ◌≤◌, ◌≢◌, List, [], ◌∷◌, ◌++◌, length, map, take, drop, set, get_or, Option, Some, None, refl, sym, ap, ◌∙◌, arith, add-one, slice_get}
use Rattle.std.specs.Prelude.{slice_index, option_map}
use Rattle.std.proofs.lemmas.Option.{slice_get_within, same_Some, slice_get-map, get_or_from_slice_get}
use Rattle.class_system.specs.Views.{number}
use Rattle.class_system.specs.declared.ids.ExprId.{ExprId}
use Rattle.class_system.proofs.Results.{mapped-at}
use Rattle.fixed_enclosure.specs.UpperValues.{IsNoGreater, AreNoGreater}
use Rattle.rounded_map.specs.RoundedMap.{at_each, value_at}

-- What is known of the body of a class, from the list of bodies.
pub body-at : {V : Type 0} (f : ℕ → V) (bodies : List ExprId) (c : ℕ) (d : ExprId) → c < length bodies → slice_get (map f (map number bodies)) c ≡ Some (f (get_or bodies c d).0)
body-at f bodies c d within = slice_get-map f (map number bodies) c ∙ ap (option_map f) (mapped-at number bodies c d within)

-- Where a value is given for each node, the value at c among those of the bodies is the value of
-- class c's body.
pub body_value : (f : ℕ → Option ℕ) (bodies : List ExprId) (c : ℕ) (d : ExprId) → c < length bodies → value_at (map f (map number bodies)) c ≡ f (get_or bodies c d).0
body_value f bodies c d within = get_or_from_slice_get (map f (map number bodies)) c (f (get_or bodies c d).0) None (body-at f bodies c d within)

swept-suc : {A : Type 0} (g : ℕ → A → ℕ) (xs : List ℕ) (ys : List A) (i v : ℕ) (y : A) → i < length xs → slice_get ys i ≡ Some y → v ≡ g (get_or xs i 0) y → take (suc i) (set xs i v) ++ at_each g (drop (suc i) (set xs i v)) (drop (suc i) ys) ≡ take i xs ++ at_each g (drop i xs) (drop i ys)
swept-suc g [] ys i v y within at is = absurd (omega arith)
swept-suc g (x ∷ xs) [] i v y within at is = absurd (omega (arith, slice_get_within [] i y at))
swept-suc g (x ∷ xs) (z ∷ ys) zero v y within at is = ap (λ w. w ∷ at_each g xs ys) (is ∙ ap (g x) (sym (same_Some z y at)))
swept-suc g (x ∷ xs) (z ∷ ys) (suc i) v y within at is = ap (λ zs. x ∷ zs) (swept-suc g xs ys i v y (omega arith) at is)

-- One entry more is swept, and those before it stay.
pub swept-more : {A : Type 0} (g : ℕ → A → ℕ) (xs : List ℕ) (ys : List A) (i v : ℕ) (y : A) (whole : List ℕ) → i < length xs → slice_get ys i ≡ Some y → v ≡ g (get_or xs i 0) y → take i xs ++ at_each g (drop i xs) (drop i ys) ≡ whole → take (i + 1) (set xs i v) ++ at_each g (drop (i + 1) (set xs i v)) (drop (i + 1) ys) ≡ whole
swept-more g xs ys i v y whole within at is so_far = rw add-one (swept-suc g xs ys i v y within at is ∙ so_far)

-- All entries are swept.
pub swept-all : {A : Type 0} (g : ℕ → A → ℕ) (xs : List ℕ) (ys : List A) (i : ℕ) (whole : List ℕ) → length xs ≤ i → take i xs ++ at_each g (drop i xs) (drop i ys) ≡ whole → xs ≡ whole
swept-all {A = A} g xs ys i whole all so_far = same xs ys i all ∙ so_far
  where
    emptied : (i : ℕ) → drop {A = A} i [] ≡ []
    emptied zero = refl
    emptied (suc i) = refl

    refolded : (xs : List ℕ) (i : ℕ) → take i xs ++ at_each g (drop i xs) (drop i []) ≡ take i xs ++ at_each g (drop i xs) []
    refolded xs i = ap (λ (zs : List A). take i xs ++ at_each g (drop i xs) zs) (emptied i)

    same : (xs : List ℕ) (ys : List A) (i : ℕ) → length xs ≤ i → xs ≡ take i xs ++ at_each g (drop i xs) (drop i ys)
    same [] ys zero all = refl
    same [] [] (suc i) all = refl
    same [] (y ∷ ys) (suc i) all = refl
    same (x ∷ xs) ys zero all = absurd (omega arith)
    same (x ∷ xs) [] (suc i) all = ap (λ zs. x ∷ zs) (same xs [] i (omega arith) ∙ refolded xs i)
    same (x ∷ xs) (y ∷ ys) (suc i) all = ap (λ zs. x ∷ zs) (same xs ys i (omega arith))

-- What holds at each place of two lists.
pub no_greater-each : (us : List (Option ℕ)) (xs : List ℕ) → length us ≡ length xs → ((c : ℕ) → c < length xs → IsNoGreater (value_at us c) (Some (slice_index xs c))) → AreNoGreater us (map Some xs)
no_greater-each [] [] same at = tt
no_greater-each [] (x ∷ xs) same at = absurd (omega arith)
no_greater-each (u ∷ us) [] same at = absurd (omega arith)
no_greater-each (u ∷ us) (x ∷ xs) same at = (at 0 (omega arith), no_greater-each us xs (omega arith) (λ c below. at (suc c) (omega arith)))

-- Values that were copied are there.
pub copied-there : (nodes : List ℕ) (values : List (Option ℕ)) (e i : ℕ) → map Some (take e nodes) ≡ take e values → i < e → e ≤ length values → value_at values i ≢ None
copied-there nodes values zero i same below within = λ none. omega arith
copied-there [] [] (suc e) i same below within = λ none. omega arith
copied-there [] (v ∷ values) (suc e) i same below within = λ none. cc
copied-there (n ∷ nodes) [] (suc e) i same below within = λ none. cc
copied-there (n ∷ nodes) (v ∷ values) (suc e) zero same below within = λ none. let first : Some n ≡ v = cc in cc
copied-there (n ∷ nodes) (v ∷ values) (suc e) (suc i) same below within =
    let rest : map Some (take e nodes) ≡ take e values = cc in copied-there nodes values e i rest (omega arith) (omega arith)
