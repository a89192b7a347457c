-- The label is taken out of the half in which it stands.
use Rattle.std.proofs.Common.{◌≡◌, ◌+◌, ◌-◌, ◌^◌, ◌≤◌, ◌<◌, slice_index, remove, ap, ◌∙◌, arith}
use Rattle.labelling.specs.Tree.{count_of, labels_of}
use Rattle.labelling.proofs.Trees.{fork-of, fork-right, leaves-above}
use Rattle.labelling.proofs.Taking.{left-tree, left-removed, left-label, right-within, right-tree, right-removed, right-label}
use Rattle.labelling.proofs.tree.+take_from.Goals as goal

pub take_from-requires-else-i-in_left : goal.take_from-requires-else-i-in_left
take_from-requires-else-i-in_left t c =
    let fork = fork-of c.args.height c.args.counts.now c.split_at_mut-root.result.0.now c.split_at_mut-root.result.1.now c.split_at_mut-left.result.0.now c.split_at_mut-left.result.1.now c.nodes_in.result (omega arith) c.requires.tree.nodes c.split_at_mut-root.ensures.value c.split_at_mut-root.ensures.front_len c.split_at_mut-root.ensures.back_len c.split_at_mut-left.ensures.value c.split_at_mut-left.ensures.front_len c.split_at_mut-left.ensures.back_len c.nodes_in.ensures in
    let past : count_of c.split_at_mut-left.result.0.now ≤ c.args.i = omega (arith, c.from-in_left.ensures) in
    let within = right-within fork c.requires.tree c.args.i c.requires.in_range past in
    (omega arith, (omega arith, (fork-right fork c.requires.tree, omega (arith, within, c.from-in_left.ensures))))

pub returns-then-i-in_left-clause-tree : goal.returns-then-i-in_left-clause-tree
returns-then-i-in_left-clause-tree t c =
    let fork = fork-of c.args.height c.args.counts.now c.split_at_mut-root.result.0.now c.split_at_mut-root.result.1.now c.split_at_mut-left.result.0.now c.split_at_mut-left.result.1.now c.nodes_in.result (omega arith) c.requires.tree.nodes c.split_at_mut-root.ensures.value c.split_at_mut-root.ensures.front_len c.split_at_mut-root.ensures.back_len c.split_at_mut-left.ensures.value c.split_at_mut-left.ensures.front_len c.split_at_mut-left.ensures.back_len c.nodes_in.ensures in
    let here : c.args.i < count_of c.split_at_mut-left.result.0.now = omega (arith, c.from-in_left.ensures) in
    left-tree fork c.requires.tree c.args.i c.requires.in_range c.take_from.new.counts c.take_from.auto.counts here c.take_from.ensures.tree c.take_from.ensures.count

pub returns-then-i-in_left-clause-within : goal.returns-then-i-in_left-clause-within
returns-then-i-in_left-clause-within t c = let leaves = leaves-above c.args.height (omega arith) in omega (arith, c.take_from.ensures.within)

pub returns-then-i-in_left-clause-label : goal.returns-then-i-in_left-clause-label
returns-then-i-in_left-clause-label t c first =
    let fork = fork-of c.args.height c.args.counts.now c.split_at_mut-root.result.0.now c.split_at_mut-root.result.1.now c.split_at_mut-left.result.0.now c.split_at_mut-left.result.1.now c.nodes_in.result (omega arith) c.requires.tree.nodes c.split_at_mut-root.ensures.value c.split_at_mut-root.ensures.front_len c.split_at_mut-root.ensures.back_len c.split_at_mut-left.ensures.value c.split_at_mut-left.ensures.front_len c.split_at_mut-left.ensures.back_len c.nodes_in.ensures in
    let here : c.args.i < count_of c.split_at_mut-left.result.0.now = omega (arith, c.from-in_left.ensures) in
    left-label fork c.requires.tree c.args.i c.requires.in_range c.take_from.new.counts c.take_from.auto.counts here first (first + c.take_from.result) (c.take_from.ensures.label first)

pub returns-then-i-in_left-clause-removed : goal.returns-then-i-in_left-clause-removed
returns-then-i-in_left-clause-removed t c first =
    let fork = fork-of c.args.height c.args.counts.now c.split_at_mut-root.result.0.now c.split_at_mut-root.result.1.now c.split_at_mut-left.result.0.now c.split_at_mut-left.result.1.now c.nodes_in.result (omega arith) c.requires.tree.nodes c.split_at_mut-root.ensures.value c.split_at_mut-root.ensures.front_len c.split_at_mut-root.ensures.back_len c.split_at_mut-left.ensures.value c.split_at_mut-left.ensures.front_len c.split_at_mut-left.ensures.back_len c.nodes_in.ensures in
    let here : c.args.i < count_of c.split_at_mut-left.result.0.now = omega (arith, c.from-in_left.ensures) in
    left-removed fork c.requires.tree c.args.i c.requires.in_range c.take_from.new.counts c.take_from.auto.counts here first (c.take_from.ensures.removed first)

pub returns-else-i-in_left-clause-tree : goal.returns-else-i-in_left-clause-tree
returns-else-i-in_left-clause-tree t c =
    let fork = fork-of c.args.height c.args.counts.now c.split_at_mut-root.result.0.now c.split_at_mut-root.result.1.now c.split_at_mut-left.result.0.now c.split_at_mut-left.result.1.now c.nodes_in.result (omega arith) c.requires.tree.nodes c.split_at_mut-root.ensures.value c.split_at_mut-root.ensures.front_len c.split_at_mut-root.ensures.back_len c.split_at_mut-left.ensures.value c.split_at_mut-left.ensures.front_len c.split_at_mut-left.ensures.back_len c.nodes_in.ensures in
    let past : count_of c.split_at_mut-left.result.0.now ≤ c.args.i = omega (arith, c.from-in_left.ensures) in
    let half = c.take_from-else-i-in_left in
    right-tree fork c.requires.tree c.args.i c.requires.in_range past half.new.counts half.auto.counts half.ensures.tree half.ensures.count

pub returns-else-i-in_left-clause-within : goal.returns-else-i-in_left-clause-within
returns-else-i-in_left-clause-within t c = let leaves = leaves-above c.args.height (omega arith) in omega (arith, c.take_from-else-i-in_left.ensures.within, c.leaves_in.ensures)

pub returns-else-i-in_left-clause-label : goal.returns-else-i-in_left-clause-label
returns-else-i-in_left-clause-label t c first =
    let fork = fork-of c.args.height c.args.counts.now c.split_at_mut-root.result.0.now c.split_at_mut-root.result.1.now c.split_at_mut-left.result.0.now c.split_at_mut-left.result.1.now c.nodes_in.result (omega arith) c.requires.tree.nodes c.split_at_mut-root.ensures.value c.split_at_mut-root.ensures.front_len c.split_at_mut-root.ensures.back_len c.split_at_mut-left.ensures.value c.split_at_mut-left.ensures.front_len c.split_at_mut-left.ensures.back_len c.nodes_in.ensures in
    let past : count_of c.split_at_mut-left.result.0.now ≤ c.args.i = omega (arith, c.from-in_left.ensures) in
    let half = c.take_from-else-i-in_left in
    let sum : first + (c.leaves_in.result + half.result) ≡ first + 2 ^ (c.args.height - 1) + half.result = omega (arith, c.leaves_in.ensures) in
    right-label fork c.requires.tree c.args.i c.requires.in_range past first (first + (c.leaves_in.result + half.result))
    (sum ∙ half.ensures.label (first + 2 ^ (c.args.height - 1)) ∙ ap (λ n. slice_index (labels_of (c.args.height - 1) c.split_at_mut-left.result.1.now (first + 2 ^ (c.args.height - 1))) (c.args.i - n)) c.from-in_left.ensures)

pub returns-else-i-in_left-clause-removed : goal.returns-else-i-in_left-clause-removed
returns-else-i-in_left-clause-removed t c first =
    let fork = fork-of c.args.height c.args.counts.now c.split_at_mut-root.result.0.now c.split_at_mut-root.result.1.now c.split_at_mut-left.result.0.now c.split_at_mut-left.result.1.now c.nodes_in.result (omega arith) c.requires.tree.nodes c.split_at_mut-root.ensures.value c.split_at_mut-root.ensures.front_len c.split_at_mut-root.ensures.back_len c.split_at_mut-left.ensures.value c.split_at_mut-left.ensures.front_len c.split_at_mut-left.ensures.back_len c.nodes_in.ensures in
    let past : count_of c.split_at_mut-left.result.0.now ≤ c.args.i = omega (arith, c.from-in_left.ensures) in
    let half = c.take_from-else-i-in_left in
    right-removed fork c.requires.tree c.args.i c.requires.in_range past half.new.counts half.auto.counts first
    (half.ensures.removed (first + 2 ^ (c.args.height - 1)) ∙ ap (λ n. remove (labels_of (c.args.height - 1) c.split_at_mut-left.result.1.now (first + 2 ^ (c.args.height - 1))) (c.args.i - n)) c.from-in_left.ensures)
