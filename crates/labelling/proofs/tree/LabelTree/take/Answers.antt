use Rattle.std.proofs.Common.{◌≡◌, ◌+◌, ◌<◌, slice_index, count_by, nat_lt, subst, sym, ◌∙◌, ap, length, arith}
use Rattle.labelling.specs.Tree.{count_of, labels_of}
use Rattle.labelling.proofs.Ascending.{below-label}
use Rattle.labelling.proofs.Trees.{length-labels}
use Rattle.labelling.proofs.tree.LabelTree.take.Goals as goal

pub take_from-requires-clause-in_range : goal.take_from-requires-clause-in_range
take_from-requires-clause-in_range c =
    let counts = c.self.inside.counts.items in
    let all : count_of c.as_mut_slice.result.now ≡ length c.args.self.now = ap count_of c.as_mut_slice.ensures.value ∙ sym (length-labels c.self.inside.height counts 1 c.self.invariant.1) ∙ ap length c.self.view_is in
    omega (arith, all, c.requires.in_range)

pub returns-clause-below : goal.returns-clause-below
returns-clause-below c =
    let counts = c.self.inside.counts.items in
    let height = c.self.inside.height in
    let tree = c.self.invariant.1 in
    let within : c.args.i < count_of counts = let all = length-labels height counts 1 tree in let view = ap length c.self.view_is in omega (arith, c.requires.in_range) in
    let label : 1 + c.take_from.result ≡ slice_index (labels_of height counts 1) c.args.i = c.take_from.ensures.label 1 ∙ ap (λ xs. slice_index (labels_of height xs 1) c.args.i) c.as_mut_slice.ensures.value in
    subst (λ xs. count_by (λ x. nat_lt x (1 + c.take_from.result)) xs ≡ c.args.i) c.self.view_is (below-label height counts 1 c.args.i (1 + c.take_from.result) tree within label)
