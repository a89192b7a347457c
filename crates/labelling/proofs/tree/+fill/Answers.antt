-- The halves are filled first; the fork of the filled halves is the tree.
use Rattle.std.proofs.Common.{ℕ, ◌≡◌, ◌+◌, ◌-◌, ◌^◌, List, ◌++◌, slice_set, length, min, refl, ap, ◌∙◌, arith}
use Rattle.std.proofs.lemmas.List.{length-set, get_or-set_same}
use Rattle.bz_model.specs.Labels.{numbers_from}
use Rattle.labelling.specs.Tree.{count_of, labels_of}
use Rattle.labelling.proofs.Trees.{IsFork, fork-of, fork-labels, fork-tree, numbers-halves, leaves-above}
use Rattle.labelling.proofs.tree.+fill.Goals as goal

pub fill-requires-then-height-gt0 : goal.fill-requires-then-height-gt0
fill-requires-then-height-gt0 t c =
    let leaves = leaves-above c.args.height c.if-height-gt0.true in
    let before = fork-of c.args.height c.args.counts.now c.split_at_mut-root.result.0.now c.split_at_mut-root.result.1.now c.split_at_mut-left.result.0.now c.split_at_mut-left.result.1.now c.nodes_in.result c.if-height-gt0.true c.requires.nodes c.split_at_mut-root.ensures.value c.split_at_mut-root.ensures.front_len c.split_at_mut-root.ensures.back_len c.split_at_mut-left.ensures.value c.split_at_mut-left.ensures.front_len c.split_at_mut-left.ensures.back_len c.nodes_in.ensures in
    (omega arith, (omega arith, (before.right_nodes, omega (arith, leaves, c.min-in_left.ensures, c.leaves_in.ensures, c.requires.enough))))

-- the filled halves below the root that counts all
filled : {h height : ℕ} {counts root left right : List ℕ} (before : IsFork h height counts root left right) (n : ℕ) (left_now right_now : List ℕ) → length left_now ≡ length left → length right_now ≡ length right → IsFork h height (slice_set root 0 n ++ (left_now ++ right_now)) (slice_set root 0 n) left_now right_now
filled {root = root} before n left_now right_now l r = record { above = before.above; whole = refl; one = length-set root 0 n ∙ before.one; left_nodes = l ∙ before.left_nodes; right_nodes = r ∙ before.right_nodes }

pub returns-then-height-gt0-clause-tree : goal.returns-then-height-gt0-clause-tree
returns-then-height-gt0-clause-tree t c =
    let root = c.split_at_mut-root.result.0.now in
    let before = fork-of c.args.height c.args.counts.now c.split_at_mut-root.result.0.now c.split_at_mut-root.result.1.now c.split_at_mut-left.result.0.now c.split_at_mut-left.result.1.now c.nodes_in.result c.if-height-gt0.true c.requires.nodes c.split_at_mut-root.ensures.value c.split_at_mut-root.ensures.front_len c.split_at_mut-root.ensures.back_len c.split_at_mut-left.ensures.value c.split_at_mut-left.ensures.front_len c.split_at_mut-left.ensures.back_len c.nodes_in.ensures in
    let fork = filled before c.args.n c.fill.new.counts c.fill-then-height-gt0.new.counts c.fill.auto.counts c.fill-then-height-gt0.auto.counts in
    let one = before.one in
    let all : c.args.n ≡ count_of c.fill.new.counts + count_of c.fill-then-height-gt0.new.counts = omega (arith, c.fill.ensures.count, c.fill-then-height-gt0.ensures.count, c.min-in_left.ensures) in
    fork-tree fork c.fill.ensures.tree c.fill-then-height-gt0.ensures.tree (get_or-set_same root 0 c.args.n 0 (omega arith) ∙ all)

pub returns-then-height-gt0-clause-labels : goal.returns-then-height-gt0-clause-labels
returns-then-height-gt0-clause-labels t c first =
    let root = c.split_at_mut-root.result.0.now in
    let before = fork-of c.args.height c.args.counts.now c.split_at_mut-root.result.0.now c.split_at_mut-root.result.1.now c.split_at_mut-left.result.0.now c.split_at_mut-left.result.1.now c.nodes_in.result c.if-height-gt0.true c.requires.nodes c.split_at_mut-root.ensures.value c.split_at_mut-root.ensures.front_len c.split_at_mut-root.ensures.back_len c.split_at_mut-left.ensures.value c.split_at_mut-left.ensures.front_len c.split_at_mut-left.ensures.back_len c.nodes_in.ensures in
    let fork = filled before c.args.n c.fill.new.counts c.fill-then-height-gt0.new.counts c.fill.auto.counts c.fill-then-height-gt0.auto.counts in
    fork-labels fork first
    ∙ ap (λ xs. xs ++ labels_of (c.args.height - 1) c.fill-then-height-gt0.new.counts (first + 2 ^ (c.args.height - 1))) (c.fill.ensures.labels first)
    ∙ ap (λ xs. numbers_from first c.min-in_left.result ++ xs) (c.fill-then-height-gt0.ensures.labels (first + 2 ^ (c.args.height - 1)))
    ∙ numbers-halves first (2 ^ (c.args.height - 1)) c.args.n c.min-in_left.result (c.min-in_left.ensures ∙ ap (λ w. min c.args.n w) c.leaves_in.ensures)
