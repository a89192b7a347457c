use Rattle.std.proofs.Common.{◌≡◌, ◌<◌, sym, ◌∙◌, ap, length, arith}
use Rattle.std.proofs.lemmas.Grind.{get_or_default_zero}
use Rattle.labelling.specs.Tree.{count_of}
use Rattle.labelling.proofs.Trees.{length-labels, nodes-some}
use Rattle.labelling.proofs.tree.LabelTree.left.Goals as goal

pub returns : goal.returns
returns c =
    let counts = c.self.inside.counts.items in
    let tree = c.self.invariant.1 in
    let some : 0 < length counts = let n = nodes-some c.self.inside.height in omega (arith, tree.nodes) in
    let read : c.from.result ≡ count_of counts = c.from.ensures ∙ c.index.ensures ∙ get_or_default_zero counts 0 c.index.result.now some in
    record { count = read ∙ sym (length-labels c.self.inside.height counts 1 tree) ∙ ap length c.self.view_is }
