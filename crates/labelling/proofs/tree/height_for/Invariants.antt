use Rattle.std.proofs.Common.{ℕ, ◌-◌, ◌^◌, ◌≤◌}
use Rattle.labelling.proofs.tree.height_for.Given as goal

-- no lower height has as many leaves
abbrev pub invariant-heights : goal.invariant-heights
invariant-heights l = record {
  few : l.height ≤ 20;
  least : (height : ℕ) → l.n ≤ 2 ^ height → l.height ≤ height;
}

abbrev pub decreases-heights : goal.decreases-heights
decreases-heights l = 20 - l.height
