-- Lists made of blocks, one for each class.
use Rattle.std.proofs.Common.{◌≡◌, ℕ, zero, suc, ◌+◌, ◌*◌, ◌<◌, List, [], ◌∷◌, ◌++◌, length, map, refl, sym, ◌∙◌, ap, subst, arith, append_assoc, append-nil, length-append, Some, slice_get, add-one}
use Rattle.std.specs.Prelude.{flat_map}
use Rattle.std.specs.List.{range_with_len}
use Rattle.std.proofs.Math.Decide.{dec_lt}
use Rattle.std.proofs.lemmas.Grind.{flat_map-append}
use Rattle.std.proofs.lemmas.List.{map-append}
use Rattle.class_system.specs.Each.{Each}
use Rattle.class_system.proofs.Growth.{at-append, Each-none, Each-more, Each-cons}

-- the numbers below one more
range-on : (a n : ℕ) → range_with_len a (suc n) ≡ range_with_len a n ++ (a + n) ∷ []
range-on a zero = let same : a ≡ a + 0 = omega arith in ap (λ k. k ∷ []) same
range-on a (suc n) =
    let same : (a + 1) + n ≡ a + suc n = omega arith in
    ap (λ ks. a ∷ ks) (range-on (a + 1) n ∙ ap (λ k. range_with_len (a + 1) n ++ k ∷ []) same)

pub range-more : (n : ℕ) → range_with_len 0 (suc n) ≡ range_with_len 0 n ++ n ∷ []
range-more n = let same : 0 + n ≡ n = omega arith in range-on 0 n ∙ ap (λ k. range_with_len 0 n ++ k ∷ []) same

-- the blocks below one more
pub blocks-more : {X : Type 0} (f : ℕ → List X) (n : ℕ) → flat_map f (range_with_len 0 (suc n)) ≡ flat_map f (range_with_len 0 n) ++ f n
blocks-more f n = ap (flat_map f) (range-more n) ∙ flat_map-append f (range_with_len 0 n) (n ∷ []) ∙ ap (λ z. flat_map f (range_with_len 0 n) ++ z) (append-nil (f n))

-- The list of the values of f at the numbers up to n is the list of those below n with the value at
-- n appended.
pub mapped-more : {X : Type 0} (f : ℕ → X) (n : ℕ) → map f (range_with_len 0 (suc n)) ≡ map f (range_with_len 0 n) ++ f n ∷ []
mapped-more f n = ap (map f) (range-more n) ∙ map-append f (range_with_len 0 n) (n ∷ [])

-- six in each block
pub blocks-length : {X : Type 0} (f : ℕ → List X) → ((i : ℕ) → length (f i) ≡ 6) → (n : ℕ) → length (flat_map f (range_with_len 0 n)) ≡ 6 * n
blocks-length f six zero = refl
blocks-length f six (suc n) =
    let before = blocks-length f six n in
    let here = six n in
    ap length (blocks-more f n) ∙ length-append (flat_map f (range_with_len 0 n)) (f n) ∙ omega (arith, before, here)

-- what stands behind a list
pub at-behind : {X : Type 0} (xs ys : List X) (i j : ℕ) → i ≡ length xs + j → slice_get (xs ++ ys) i ≡ slice_get ys j
at-behind [] ys i j e = let same : i ≡ j = omega (arith, e) in ap (slice_get ys) same
at-behind (x ∷ xs) ys zero j e = absurd (omega (arith, e))
at-behind (x ∷ xs) ys (suc i) j e = at-behind xs ys i j (omega (arith, e))

-- an element of a block
pub at-block : {X : Type 0} (f : ℕ → List X) → ((i : ℕ) → length (f i) ≡ 6) → (n i j : ℕ) (x : X) → i < n → slice_get (f i) j ≡ Some x → slice_get (flat_map f (range_with_len 0 n)) (6 * i + j) ≡ Some x
at-block f six zero i j x less is = absurd (omega (arith, less))
at-block {X} f six (suc n) i j x less is = ap (λ z. slice_get z (6 * i + j)) (blocks-more f n) ∙ go (λ h. at-block f six n i j x h is) (dec_lt i n)
  where
    go : (i < n → slice_get (flat_map f (range_with_len 0 n)) (6 * i + j) ≡ Some x) → Dec (i < n) → slice_get (flat_map f (range_with_len 0 n) ++ f n) (6 * i + j) ≡ Some x
    go before (yes h) = at-append (flat_map f (range_with_len 0 n)) (f n) (6 * i + j) x (before h)
    go before (no h) =
        let same : i ≡ n = omega (arith, less, h) in
        let all = blocks-length f six n in
        at-behind (flat_map f (range_with_len 0 n)) (f n) (6 * i + j) j (omega (arith, same, all)) ∙ ap (λ k. slice_get (f k) j) (sym same) ∙ is

-- an element of a mapped range
pub at-mapped : {X : Type 0} (f : ℕ → X) (n i : ℕ) → i < n → slice_get (map f (range_with_len 0 n)) i ≡ Some (f i)
at-mapped f n i less = let same : 0 + i ≡ i = omega arith in go 0 n i less ∙ ap (λ k. Some (f k)) same
  where
    go : (a n i : ℕ) → i < n → slice_get (map f (range_with_len a n)) i ≡ Some (f (a + i))
    go a zero i less = absurd (omega (arith, less))
    go a (suc n) zero less = let same : a ≡ a + 0 = omega arith in ap (λ k. Some (f k)) same
    go a (suc n) (suc i) less = let same : (a + 1) + i ≡ a + suc i = omega arith in go (a + 1) n i (omega (arith, less)) ∙ ap (λ k. Some (f k)) same

-- what holds of each element of two lists holds of both together
each-both : {X : Type 0} (P : X → Type 0) (xs ys : List X) → Each P xs → Each P ys → Each P (xs ++ ys)
each-both P [] ys a b = b
each-both P (x ∷ xs) ys a b = Each-cons P x (xs ++ ys) (a.at 0 x refl) (each-both P xs ys (record { at = λ i y at. a.at (suc i) y at }) b)

-- what holds of each element of each block
pub each-blocks : {X : Type 0} (P : X → Type 0) (f : ℕ → List X) (n : ℕ) → ((i : ℕ) → i < n → Each P (f i)) → Each P (flat_map f (range_with_len 0 n))
each-blocks P f zero all = Each-none P
each-blocks P f (suc n) all = subst (Each P) (sym (blocks-more f n)) (each-both P (flat_map f (range_with_len 0 n)) (f n) (each-blocks P f n (λ i h. all i (omega (arith, h)))) (all n (omega arith)))

-- What holds of f at each number below n holds of each element of the list of the values of f
-- there.
pub each-mapped : {X : Type 0} (P : X → Type 0) (f : ℕ → X) (n : ℕ) → ((i : ℕ) → i < n → P (f i)) → Each P (map f (range_with_len 0 n))
each-mapped P f zero all = Each-none P
each-mapped P f (suc n) all = subst (Each P) (sym (mapped-more f n)) (Each-more P (map f (range_with_len 0 n)) (f n) (each-mapped P f n (λ i h. all i (omega (arith, h)))) (all n (omega arith)))

-- six elements
pub each-six : {X : Type 0} (P : X → Type 0) (a b c d e f : X) → P a → P b → P c → P d → P e → P f → Each P (a ∷ b ∷ c ∷ d ∷ e ∷ f ∷ [])
each-six P a b c d e f ha hb hc hd he hf = Each-cons P a _ ha (Each-cons P b _ hb (Each-cons P c _ hc (Each-cons P d _ hd (Each-cons P e _ he (Each-cons P f _ hf (Each-none P))))))

-- equal blocks
pub blocks-same : {X : Type 0} (f g : ℕ → List X) (n : ℕ) → ((i : ℕ) → i < n → f i ≡ g i) → flat_map f (range_with_len 0 n) ≡ flat_map g (range_with_len 0 n)
blocks-same f g zero same = refl
blocks-same f g (suc n) same =
    blocks-more f n ∙ ap (λ z. z ++ f n) (blocks-same f g n (λ i h. same i (omega (arith, h)))) ∙ ap (λ z. flat_map g (range_with_len 0 n) ++ z) (same n (omega arith)) ∙ sym (blocks-more g n)

-- a text to which no blocks were appended, and one to which the blocks so far and one more were
pub text_start : (block : ℕ → List ℕ) (text head : List ℕ) → text ≡ head → text ≡ head ++ flat_map block (range_with_len 0 0)
text_start block text head same = same ∙ sym (append-nil head)

-- A text of a head and the blocks of the numbers below n, with the block of n appended, is that
-- head and the blocks of the numbers up to n.
pub text_more : (block : ℕ → List ℕ) (n : ℕ) (head text next more : List ℕ) → text ≡ head ++ flat_map block (range_with_len 0 n) → more ≡ block n → next ≡ text ++ more → next ≡ head ++ flat_map block (range_with_len 0 (n + 1))
text_more block n head text next more text_is more_is next_is =
    next_is ∙ ap (λ t. t ++ more) text_is ∙ ap (λ m. (head ++ flat_map block (range_with_len 0 n)) ++ m) more_is
    ∙ append_assoc head (flat_map block (range_with_len 0 n)) (block n)
    ∙ ap (λ t. head ++ t) (sym (blocks-more block n))
    ∙ ap (λ k. head ++ flat_map block (range_with_len 0 k)) (sym (add-one n))
