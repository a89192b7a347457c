use Rattle.std.proofs.Common.{◌≡◌, ◌+◌, ◌<◌, ◌≤◌, ℕ, length, Some}
use Rattle.rounded_map.specs.RoundedMap.{setting}
use Rattle.newton_upper.specs.Below.{all_below}
use Rattle.newton_upper.specs.Newton.{newton_column, column}
use Rattle.newton_upper.proofs.newton.newton_matrix.Given as goal

-- the columns so far, of which each cost at most a tick
abbrev pub invariant-loop-c : goal.invariant-loop-c
invariant-loop-c g l = record {
  columns : all_below (newton_column (setting l.system l.x.num l.x.den g.row.F) l.values) l.c ≡ Some l.matrix;
  count : length l.matrix ≡ l.c;
  each : (k : ℕ) → k < l.c → length (column l.matrix k) ≡ length l.system.bodies;
  ticks : l.steps ≤ l.initial.steps + l.c;
}
