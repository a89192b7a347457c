use Rattle.std.proofs.Common.{◌≡◌, ◌<◌, ℕ, length, Some}
use Rattle.newton_upper.specs.Below.{all_below}
use Rattle.newton_upper.specs.Newton.{squared_column, column}
use Rattle.newton_upper.proofs.matrix.Matrix.squared.Given as goal

-- the columns so far
abbrev pub invariant-loop-c : goal.invariant-loop-c
invariant-loop-c g l = record {
  columns : all_below (squared_column g.row.F l.self) l.c ≡ Some l.square;
  count : length l.square ≡ l.c;
  each : (k : ℕ) → k < l.c → length (column l.square k) ≡ length l.self;
}
