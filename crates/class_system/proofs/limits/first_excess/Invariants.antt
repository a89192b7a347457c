use Rattle.std.proofs.Common.{◌≡◌, ℕ, ◌<◌, map, Some, slice_get}
use Rattle.bz_model.specs.Spec.{Node}
use Rattle.class_system.specs.Views.{spec_node}
use Rattle.class_system.specs.Limits.{HasFewParts}
use Rattle.class_system.proofs.limits.first_excess.Given as goal

-- the nodes so far have few parts
abbrev pub invariant-loop-item : goal.invariant-loop-item
invariant-loop-item l = (i : ℕ) (n : Node) → i < l.item-index → slice_get (map spec_node l.nodes) i ≡ Some n → HasFewParts n
