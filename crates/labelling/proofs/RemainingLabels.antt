-- Labels that remain in two lists, one after the other.
use Rattle.std.proofs.Common.{◌≡◌, ℕ, ◌+◌, ◌-◌, ◌<◌, ◌≤◌, ◌⊎◌, inl, inr, List, [], ◌∷◌, ◌++◌, append-nil, length, get_or, arith, refl, sym, ◌∙◌, ap, subst}
use Rattle.std.specs.Prelude.{slice_index}
use Rattle.std.proofs.lemmas.List.{get_or_read_under, get_or-append_right}
use Rattle.std.proofs.Math.ListN.{get_or-append}
use Rattle.bz_model.specs.Labels.{numbers_from}
use Rattle.labelling.proofs.Trees.{numbers-parts}

-- All labels are those of the list and those of the tree, where one of the two has all of them.
pub listed-all : (n listed : ℕ) → (listed ≡ n) ⊎ (listed ≡ 0) → listed ≤ n → numbers_from 1 listed ++ numbers_from 1 (n - listed) ≡ numbers_from 1 n
listed-all n listed (inl all) most =
    let none : n - listed ≡ 0 = omega arith in
    ap (λ m. numbers_from 1 listed ++ numbers_from 1 m) none ∙ append-nil (numbers_from 1 listed) ∙ ap (numbers_from 1) all
listed-all n listed (inr none) most =
    let rest : n - listed ≡ n = omega arith in
    ap (λ m. numbers_from 1 m ++ numbers_from 1 (n - listed)) none ∙ ap (numbers_from 1) rest

-- A label read in the first list is read at the same place in both.
pub read-first : (xs ys : List ℕ) (i label : ℕ) → i < length xs → label ≡ get_or xs i label → label ≡ slice_index (xs ++ ys) i
read-first xs ys i label inside read = get_or_read_under xs i (length xs) label 0 read inside refl ∙ sym (get_or-append xs ys 0 i inside)

-- One read in the second stands so much further on in both.
pub read-second : (xs ys : List ℕ) (n i label : ℕ) → length xs ≡ n → n ≤ i → label ≡ slice_index ys (i - n) → label ≡ slice_index (xs ++ ys) i
read-second xs ys n i label long past read = read ∙ sym (get_or-append_right xs ys n i 0 long past)

-- One more number ends the first numbers.
pub numbers-more : (n : ℕ) (xs : List ℕ) → xs ≡ numbers_from 1 n → xs ++ (n + 1) ∷ [] ≡ numbers_from 1 (n + 1)
numbers-more n xs so_far =
    let next : n + 1 ≡ 1 + n = omega arith in
    ap (λ ys. ys ++ (n + 1) ∷ []) so_far ∙ ap (λ m. numbers_from 1 n ++ m ∷ []) next ∙ numbers-parts 1 n 1

-- Where some labels are left and no two, one is.
pub one-left : (xs : List ℕ) → length xs ≤ 1 → (length xs ≡ 0 → ⊥) → xs ≡ slice_index xs 0 ∷ []
one-left [] few some = absurd (some refl)
one-left (x ∷ []) few some = refl
one-left (x ∷ y ∷ xs) few some = let never : ⊥ = omega arith in absurd never

-- Where there are none, the list is empty.
pub none-left : (xs : List ℕ) → length xs ≡ 0 → xs ≡ []
none-left [] none = refl
none-left (x ∷ xs) none = let never : ⊥ = omega arith in absurd never
