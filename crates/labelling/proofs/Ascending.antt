-- The labels that remain in a tree ascend: below the one at a place stand as many as its place says.
use Rattle.std.proofs.Common.{◌≡◌, ℕ, cond, zero, suc, ◌+◌, ◌-◌, ◌^◌, ◌<◌, ◌≤◌, List, [], ◌∷◌, ◌++◌, length, replicate, slice_index, refl, sym, ◌∙◌, ap, subst, arith, inl, inr}
use Rattle.std.specs.Prelude.{nat_lt, count_by}
use Rattle.std.specs.List.{AllByRecursion}
use Rattle.std.proofs.lemmas.Bool.{lt-ltb, le-ltb, cases_lt}
use Rattle.std.proofs.lemmas.List.Sums.{sum_by-cons, sum_by-append}
use Rattle.bz_laws.proofs.Samples.{AllByRecursion-weaker, AllByRecursion-append}
use Rattle.labelling.specs.Tree.{count_of, left_of, right_of, labels_of, AddsUp, IsCountTree}
use Rattle.labelling.proofs.Trees.{length-adding, at-left, at-right}

-- how many numbers of a list are below r
abbrev below : (r : ℕ) → List ℕ → ℕ
below r xs = count_by (λ x. nat_lt x r) xs

one_if : (r x : ℕ) → ℕ
one_if r x = cond (nat_lt x r) 1 0

below-step : (r x : ℕ) (xs : List ℕ) → below r (x ∷ xs) ≡ one_if r x + below r xs
unfolding one_if
below-step r x xs = sum_by-cons (λ y. cond (nat_lt y r) 1 0) x xs

below-append : (r : ℕ) (xs ys : List ℕ) → below r (xs ++ ys) ≡ below r xs + below r ys
below-append r xs ys = sum_by-append (λ y. cond (nat_lt y r) 1 0) xs ys

below-all : (r : ℕ) (xs : List ℕ) → AllByRecursion (λ x. x < r) xs → below r xs ≡ length xs
unfolding one_if
below-all r [] all = refl
below-all r (x ∷ xs) all =
    let one : one_if r x ≡ 1 = ap (λ b. cond b 1 0) (lt-ltb x r all.0) in
    let ih : below r xs ≡ length xs = below-all r xs all.1 in
    below-step r x xs ∙ (let e : one_if r x + below r xs ≡ suc (length xs) = omega arith in e)

below-none : (r : ℕ) (xs : List ℕ) → AllByRecursion (λ x. r ≤ x) xs → below r xs ≡ 0
unfolding one_if
below-none r [] all = refl
below-none r (x ∷ xs) all =
    let zero_here : one_if r x ≡ 0 = ap (λ b. cond b 1 0) (le-ltb x r all.0) in
    let ih : below r xs ≡ 0 = below-none r xs all.1 in
    below-step r x xs ∙ (let e : one_if r x + below r xs ≡ 0 = omega arith in e)

all-replicate : (P : ℕ → Type 0) (n x : ℕ) → P x → AllByRecursion P (replicate n x)
all-replicate P zero x p = tt
all-replicate P (suc n) x p = (p, all-replicate P n x p)

all-at : (P : ℕ → Type 0) (xs : List ℕ) (i : ℕ) → AllByRecursion P xs → i < length xs → P (slice_index xs i)
all-at P [] i all within = absurd (omega arith)
all-at P (x ∷ xs) zero all within = all.0
all-at P (x ∷ xs) (suc i) all within = all-at P xs i all.1 (omega arith)

-- The label l is one of the leaves of a tree of this height.
record IsLeaf (h first l : ℕ) : Type 0 where
  from : first ≤ l
  to : l < first + 2 ^ h

leaf-left : (h first l : ℕ) → IsLeaf h first l → IsLeaf (suc h) first l
leaf-left h first l leaf = record { from = leaf.from; to = let t = leaf.to in omega arith }

leaf-right : (h first l : ℕ) → IsLeaf h (first + 2 ^ h) l → IsLeaf (suc h) first l
leaf-right h first l leaf = record { from = let f = leaf.from in omega arith; to = let t = leaf.to in omega arith }

are-leaves : (h : ℕ) (counts : List ℕ) (first : ℕ) → AllByRecursion (IsLeaf h first) (labels_of h counts first)
are-leaves zero counts first = all-replicate (IsLeaf zero first) (count_of counts) first (record { from = omega arith; to = omega arith })
are-leaves (suc h) counts first =
    AllByRecursion-append (IsLeaf (suc h) first) (labels_of h (left_of h counts) first) (labels_of h (right_of h counts) (first + 2 ^ h))
    (AllByRecursion-weaker (leaf-left h first) (labels_of h (left_of h counts) first) (are-leaves h (left_of h counts) first))
    (AllByRecursion-weaker (leaf-right h first) (labels_of h (right_of h counts) (first + 2 ^ h)) (are-leaves h (right_of h counts) (first + 2 ^ h)))

-- a list of smaller numbers before a list of greater ones
module _ (m : ℕ) (xs ys : List ℕ) (small : AllByRecursion (λ x. x < m) xs) (great : AllByRecursion (λ y. m ≤ y) ys) (i : ℕ) where
  in-front : i < length xs → below (slice_index xs i) xs ≡ i → below (slice_index (xs ++ ys) i) (xs ++ ys) ≡ i
  in-front within here =
      let label : slice_index (xs ++ ys) i ≡ slice_index xs i = at-left xs ys i within in
      let less : slice_index xs i < m = all-at (λ x. x < m) xs i small within in
      let none : below (slice_index xs i) ys ≡ 0 = below-none (slice_index xs i) ys (AllByRecursion-weaker (λ y (p : m ≤ y). omega arith) ys great) in
      ap (λ r. below r (xs ++ ys)) label ∙ below-append (slice_index xs i) xs ys ∙ (let e : below (slice_index xs i) xs + below (slice_index xs i) ys ≡ i = omega arith in e)

  behind : length xs ≤ i → i - length xs < length ys → below (slice_index ys (i - length xs)) ys ≡ i - length xs → below (slice_index (xs ++ ys) i) (xs ++ ys) ≡ i
  behind past within here =
      let label : slice_index (xs ++ ys) i ≡ slice_index ys (i - length xs) = at-right xs ys (length xs) i refl past in
      let more : m ≤ slice_index ys (i - length xs) = all-at (λ y. m ≤ y) ys (i - length xs) great within in
      let all : below (slice_index ys (i - length xs)) xs ≡ length xs = below-all (slice_index ys (i - length xs)) xs (AllByRecursion-weaker (λ x (p : x < m). omega arith) xs small) in
      ap (λ r. below r (xs ++ ys)) label ∙ below-append (slice_index ys (i - length xs)) xs ys ∙ (let e : below (slice_index ys (i - length xs)) xs + below (slice_index ys (i - length xs)) ys ≡ i = omega arith in e)

-- the one label of a leaf has none below it
at-leaf : (count first i : ℕ) → count ≤ 1 → i < count → below (slice_index (replicate count first) i) (replicate count first) ≡ i
at-leaf zero first i few within = absurd (omega arith)
at-leaf (suc zero) first zero few within = below-none first (first ∷ []) (omega arith, tt)
at-leaf (suc zero) first (suc i) few within = absurd (omega arith)
at-leaf (suc (suc count)) first i few within = absurd (omega arith)

at-place : (h : ℕ) (counts : List ℕ) (first i : ℕ) → AddsUp h counts → i < count_of counts → below (slice_index (labels_of h counts first) i) (labels_of h counts first) ≡ i
at-place zero counts first i few within = at-leaf (count_of counts) first i few within
at-place (suc h) counts first i sums within =
    let xs = labels_of h (left_of h counts) first in
    let ys = labels_of h (right_of h counts) (first + 2 ^ h) in
    let x_count : length xs ≡ count_of (left_of h counts) = length-adding h (left_of h counts) first sums.1 in
    let y_count : length ys ≡ count_of (right_of h counts) = length-adding h (right_of h counts) (first + 2 ^ h) sums.2 in
    let small = AllByRecursion-weaker (λ l (leaf : IsLeaf h first l). leaf.to) xs (are-leaves h (left_of h counts) first) in
    let great = AllByRecursion-weaker (λ l (leaf : IsLeaf h (first + 2 ^ h) l). leaf.from) ys (are-leaves h (right_of h counts) (first + 2 ^ h)) in
    let all = sums.0 in
    elim (cases_lt i (length xs)) as (λ _. below (slice_index (xs ++ ys) i) (xs ++ ys) ≡ i) [
      | inl before ↦ in-front (first + 2 ^ h) xs ys small great i before (at-place h (left_of h counts) first i sums.1 (omega arith))
      | inr past ↦ behind (first + 2 ^ h) xs ys small great i past (omega arith) (subst (λ j. below (slice_index ys j) ys ≡ j) (ap (λ n. i - n) (sym x_count)) (at-place h (right_of h counts) (first + 2 ^ h) (i - count_of (left_of h counts)) sums.2 (omega arith)))
    ]

-- below the label at a place stand as many as its place says
pub below-label : (h : ℕ) (counts : List ℕ) (first i label : ℕ) → IsCountTree h counts → i < count_of counts → label ≡ slice_index (labels_of h counts first) i → count_by (λ x. nat_lt x label) (labels_of h counts first) ≡ i
below-label h counts first i label tree within is =
    ap (λ r. below r (labels_of h counts first)) is ∙ at-place h counts first i tree.adds_up within
