use Rattle.std.proofs.Common.{◌≡◌, length, Some}
use Rattle.newton_upper.specs.Below.{all_below}
use Rattle.newton_upper.specs.Newton.{sum_entry}
use Rattle.newton_upper.proofs.sweeps.sum_of_vectors.Given as goal

-- the entries so far
abbrev pub invariant-loop-c : goal.invariant-loop-c
invariant-loop-c l = record {
  entries : all_below (sum_entry l.left l.right) l.c ≡ Some l.vector;
  count : length l.vector ≡ l.c;
}
