use Rattle.std.proofs.Common.{◌≡◌, ℕ, ◌<◌, Some}
use Rattle.bz_model.specs.Spec.{Node, Range, node_at, range_at, plain_range}
use Rattle.pointing.proofs.pointed.first_ranged.Given as goal

abbrev pub invariant-loop-e : goal.invariant-loop-e
invariant-loop-e l = (i : ℕ) (n : Node) (r : Range) → i < l.e → node_at l.system i ≡ Some n → range_at l.system i ≡ Some r → r ≡ plain_range n
