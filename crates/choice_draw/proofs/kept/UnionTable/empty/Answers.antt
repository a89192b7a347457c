use Rattle.choice_draw.proofs.KeptBounds.{nothing-kept}
use Rattle.choice_draw.proofs.kept.UnionTable.empty.Goals as goal

pub invariant_of-result : goal.invariant_of-result
invariant_of-result c = nothing-kept _ _ (c.in_ok-choices.ensures.items_if_clones_equal (λ y same. same))
