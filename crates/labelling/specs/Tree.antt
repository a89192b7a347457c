-- Trees of counts: which labels remain, in a complete binary tree whose nodes stand in one list,
-- each before its left half and that before its right half.
use Rattle.std.specs.Prelude.{◌≡◌, ℕ, zero, suc, ◌+◌, ◌^◌, ◌≤◌, List, ◌++◌, length, replicate, take}
use Rattle.std.specs.Prelude.{drop, slice_index}

-- How many nodes a tree of this height has.
abbrev pub nodes_in : (height : ℕ) → ℕ
nodes_in zero = 1
nodes_in (suc h) = 1 + (nodes_in h + nodes_in h)

-- The count at the tree's own node.
abbrev pub count_of : (counts : List ℕ) → ℕ
count_of counts = slice_index counts 0

-- The halves of a tree that isn't a leaf, the height being that of the halves.
abbrev pub left_of : (height : ℕ) → (counts : List ℕ) → List ℕ
left_of h counts = take (nodes_in h) (drop 1 counts)

abbrev pub right_of : (height : ℕ) → (counts : List ℕ) → List ℕ
right_of h counts = drop (nodes_in h) (drop 1 counts)

-- The labels that remain in a tree whose leaves stand for the labels from `first` on: a leaf's
-- label where its count is 1.
abbrev pub labels_of : (height : ℕ) → (counts : List ℕ) → (first : ℕ) → List ℕ
labels_of zero counts first = replicate (count_of counts) first
labels_of (suc h) counts first =
    labels_of h (left_of h counts) first ++ labels_of h (right_of h counts)
    (first + 2 ^ h)

-- Each leaf counts at most 1, and each other node counts what its halves count together.
abbrev pub AddsUp : (height : ℕ) → (counts : List ℕ) → Type 0
AddsUp zero counts = count_of counts ≤ 1
AddsUp (suc h) counts =
    (count_of counts ≡ count_of (left_of h counts) + count_of (right_of h counts))
    × AddsUp h (left_of h counts) × AddsUp h (right_of h counts)

-- A list is a tree of counts of this height.
pub record IsCountTree (height : ℕ) (counts : List ℕ) : Type 0 where
  pub nodes : length counts ≡ nodes_in height
  pub adds_up : AddsUp height counts
