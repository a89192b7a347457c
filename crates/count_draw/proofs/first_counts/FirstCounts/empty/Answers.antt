use Rattle.count_draw.proofs.FirstPlaces.{nothing-kept}
use Rattle.count_draw.proofs.first_counts.FirstCounts.empty.Goals as goal

pub invariant_of-result : goal.invariant_of-result
invariant_of-result c = nothing-kept _ _ (c.in_ok-counts.ensures.items_if_clones_equal (λ y same. same))
