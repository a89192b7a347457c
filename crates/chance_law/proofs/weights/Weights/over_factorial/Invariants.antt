-- So far the weights are divided by all numbers from 2 on that are below the divisor.
use Rattle.std.proofs.Common.{ℕ, ◌+◌, ◌-◌, ◌*◌, ◌≤◌, length}
use Rattle.std.specs.Prelude.{max}
use Rattle.chance_law.specs.declared.scaled.Scaled.{Scaled}
use Rattle.chance_law.specs.Chance.{LeadsDown, LeadsUp}
use Rattle.chance_law.specs.Factors.{over_two_to}
use Rattle.chance_law.specs.Weights.{AreWithin}
use Rattle.chance_law.proofs.weights.Weights.over_factorial.Given as goal

abbrev pub invariant-loop-divisor : goal.invariant-loop-divisor
invariant-loop-divisor l = record {
  upto : l.divisor ≤ max 2 (l.fn.parts + 1);
  down : (x : Scaled) → LeadsDown x l.fn.self.lo (over_two_to (l.divisor - 1)) l.weights.lo;
  up : (x : Scaled) → LeadsUp x l.fn.self.hi (over_two_to (l.divisor - 1)) l.weights.hi;
  within : (bound : ℕ) → AreWithin bound l.fn.self → AreWithin (bound + 512 * length (over_two_to (l.divisor - 1))) l.weights;
}
