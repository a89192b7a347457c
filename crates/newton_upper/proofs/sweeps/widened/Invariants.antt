use Rattle.std.proofs.Common.{◌≡◌, length, Some}
use Rattle.newton_upper.specs.Below.{all_below}
use Rattle.newton_upper.specs.Candidates.{widened_entry}
use Rattle.newton_upper.proofs.sweeps.widened.Given as goal

-- the entries so far
abbrev pub invariant-loop-c : goal.invariant-loop-c
invariant-loop-c l = record {
  entries : all_below (widened_entry l.y l.dual l.factor) l.c ≡ Some l.vector;
  count : length l.vector ≡ l.c;
}
