-- A label is taken out of a half of a tree, and its root counts one less.
use Rattle.std.proofs.Common.{◌≡◌, ℕ, ◌+◌, ◌-◌, ◌^◌, ◌<◌, ◌≤◌, List, ◌++◌, length, slice_index, slice_set, remove, refl, sym, ap, ◌∙◌, arith}
use Rattle.std.proofs.lemmas.List.{length-set, get_or-set_same, get_or_append_left, get_or-append_right}
use Rattle.std.proofs.lemmas.List.Edits.{remove-append_left, remove-append_right}
use Rattle.labelling.specs.Tree.{count_of, labels_of, IsCountTree}
use Rattle.labelling.proofs.Trees.{IsFork, fork-count, fork-labels, fork-left, fork-right, fork-sum, fork-tree, length-labels}

-- the root, counting one less
abbrev pub lowered : List ℕ → List ℕ
lowered root = slice_set root 0 (slice_index root 0 - 1)

module _ {h height : ℕ} {counts root left right : List ℕ} (old : IsFork h height counts root left right) (tree : IsCountTree height counts) (i : ℕ) (within : i < count_of counts) where
  counted : slice_index root 0 ≡ count_of left + count_of right
  counted = sym (fork-count old) ∙ fork-sum old tree

  lowered-count : slice_index (lowered root) 0 ≡ slice_index root 0 - 1
  lowered-count = let one = old.one in get_or-set_same root 0 (slice_index root 0 - 1) 0 (omega arith)

  left-length : (first : ℕ) → length (labels_of h left first) ≡ count_of left
  left-length first = length-labels h left first (fork-left old tree)

  module _ (now : List ℕ) (same : length now ≡ length left) (here : i < count_of left) where
    fork-now : IsFork h height (lowered root ++ (now ++ right)) (lowered root) now right
    fork-now = record { above = old.above; whole = refl; one = length-set root 0 (slice_index root 0 - 1) ∙ old.one; left_nodes = same ∙ old.left_nodes; right_nodes = old.right_nodes }

    pub left-tree : IsCountTree h now → count_of now + 1 ≡ count_of left → IsCountTree height (lowered root ++ (now ++ right))
    left-tree half count = fork-tree fork-now half (fork-right old tree) (lowered-count ∙ (let all = counted in let e : slice_index root 0 - 1 ≡ count_of now + count_of right = omega arith in e))

    pub left-removed : (first : ℕ) → labels_of h now first ≡ remove (labels_of h left first) i → labels_of height (lowered root ++ (now ++ right)) first ≡ remove (labels_of height counts first) i
    left-removed first removed =
        let l = left-length first in
        fork-labels fork-now first
        ∙ ap (λ xs. xs ++ labels_of h right (first + 2 ^ h)) removed
        ∙ sym (remove-append_left (labels_of h left first) (labels_of h right (first + 2 ^ h)) i (omega arith))
        ∙ ap (λ xs. remove xs i) (sym (fork-labels old first))

    pub left-label : (first label : ℕ) → label ≡ slice_index (labels_of h left first) i → label ≡ slice_index (labels_of height counts first) i
    left-label first label is =
        let l = left-length first in
        is ∙ sym (get_or_append_left (labels_of h left first) (labels_of h right (first + 2 ^ h)) 0 i (omega arith)) ∙ ap (λ xs. slice_index xs i) (sym (fork-labels old first))

  module _ (past : count_of left ≤ i) where
    pub right-within : i - count_of left < count_of right
    right-within = let all = fork-sum old tree in omega arith

    module _ (now : List ℕ) (same : length now ≡ length right) where
      fork-now-right : IsFork h height (lowered root ++ (left ++ now)) (lowered root) left now
      fork-now-right = record { above = old.above; whole = refl; one = length-set root 0 (slice_index root 0 - 1) ∙ old.one; left_nodes = old.left_nodes; right_nodes = same ∙ old.right_nodes }

      pub right-tree : IsCountTree h now → count_of now + 1 ≡ count_of right → IsCountTree height (lowered root ++ (left ++ now))
      right-tree half count = fork-tree fork-now-right (fork-left old tree) half (lowered-count ∙ (let all = counted in let e : slice_index root 0 - 1 ≡ count_of left + count_of now = omega arith in e))

      pub right-removed : (first : ℕ) → labels_of h now (first + 2 ^ h) ≡ remove (labels_of h right (first + 2 ^ h)) (i - count_of left) → labels_of height (lowered root ++ (left ++ now)) first ≡ remove (labels_of height counts first) i
      right-removed first removed =
          fork-labels fork-now-right first
          ∙ ap (λ ys. labels_of h left first ++ ys) removed
          ∙ sym (remove-append_right (labels_of h left first) (labels_of h right (first + 2 ^ h)) (count_of left) i (left-length first) past)
          ∙ ap (λ xs. remove xs i) (sym (fork-labels old first))

    pub right-label : (first label : ℕ) → label ≡ slice_index (labels_of h right (first + 2 ^ h)) (i - count_of left) → label ≡ slice_index (labels_of height counts first) i
    right-label first label is =
        is ∙ sym (get_or-append_right (labels_of h left first) (labels_of h right (first + 2 ^ h)) (count_of left) i 0 (left-length first) past) ∙ ap (λ xs. slice_index xs i) (sym (fork-labels old first))
