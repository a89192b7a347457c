-- Sums term by term: where a number lies, and one term more.
use Rattle.std.proofs.Common.{◌≡◌, ℕ, zero, suc, ◌+◌, ◌-◌, ◌*◌, ◌<◌, ◌≤◌, List, [], ◌∷◌, take, length, Some, arith, refl, sym, ap, subst}
use Rattle.std.specs.Prelude.{slice_get, sum_by}
use Rattle.std.proofs.lemmas.List.Sums.{sum_by-cons}
use Rattle.std.proofs.lemmas.Option.{same_Some, slice_get_within}
use Rattle.rank_tables.specs.TableRule.{sum_below}
use Rattle.rank_tables.specs.Unranking.{IsSplit}
use Rattle.rank_tables.specs.declared.splits.Split.{Split}

-- The split of a number at the term where it lies.
pub split-at : (f g : ℕ → ℕ) (n r j more : ℕ) (split : Split) → split.first ≡ j → j ≤ n → split.place < f j → split.rest < g (n - j) → r ≡ sum_below j (λ i. f i * g (n - i)) + more → more ≡ split.place * g (n - j) + split.rest → IsSplit f g n r split
split-at f g n r j more split e le small small_rest is parts = record {
  within = omega arith;
  small = subst (λ z. split.place < f z) (sym e) small;
  small_rest = subst (λ z. split.rest < g (n - z)) (sym e) small_rest;
  is = subst (λ z. r ≡ sum_below z (λ i. f i * g (n - i)) + (split.place * g (n - z) + split.rest)) (sym e) (omega arith);
}

-- One element more in a sum over the first ones.
pub take-sum : (f : ℕ → ℕ) (xs : List ℕ) (i x : ℕ) → slice_get xs i ≡ Some x → sum_by f (take (suc i) xs) ≡ sum_by f (take i xs) + f x
take-sum f [] i x is = absurd (let lt : i < length {A = ℕ} [] = slice_get_within [] i x is in omega arith)
take-sum f (y ∷ xs) zero x is =
    let e : y ≡ x = same_Some y x is in
    let a = sum_by-cons f y (take 0 xs) in
    let z : sum_by f (take 0 xs) ≡ 0 = no-sum f xs in
    let w : sum_by f (take 0 (y ∷ xs)) ≡ 0 = no-sum f (y ∷ xs) in
    let q : f y ≡ f x = ap f e in
    let b : sum_by f (take 1 (y ∷ xs)) ≡ f y + sum_by f (take 0 xs) = a in
    omega arith
  where
    no-sum : (f : ℕ → ℕ) (ys : List ℕ) → sum_by f (take 0 ys) ≡ 0
    no-sum f [] = refl
    no-sum f (z ∷ ys) = refl
take-sum f (y ∷ xs) (suc i) x is =
    let a : sum_by f (take (suc (suc i)) (y ∷ xs)) ≡ f y + sum_by f (take (suc i) xs) = sum_by-cons f y (take (suc i) xs) in
    let b : sum_by f (take (suc i) (y ∷ xs)) ≡ f y + sum_by f (take i xs) = sum_by-cons f y (take i xs) in
    let h = take-sum f xs i x is in
    omega arith

-- Taking k elements of a list of at most k gives the whole list.
pub take-whole : (xs : List ℕ) (k : ℕ) → length xs ≤ k → take k xs ≡ xs
take-whole [] zero le = refl
take-whole [] (suc k) le = refl
take-whole (x ∷ xs) zero le = absurd (let e : length (x ∷ xs) ≡ suc (length xs) = refl in omega arith)
take-whole (x ∷ xs) (suc k) le = ap (λ z. x ∷ z) (take-whole xs k (let e : length (x ∷ xs) ≡ suc (length xs) = refl in omega arith))

-- The terms from 0 on, where the first is nothing.
pub shifted : (f : ℕ → ℕ) (j : ℕ) → f 0 ≡ 0 → sum_below (suc j) f ≡ sum_below j (λ i. f (suc i))
shifted f zero z = let e : sum_below 1 f ≡ 0 + f 0 = refl in omega arith
shifted f (suc j) z = ap (λ k. k + f (suc j)) (shifted f j z)
