use Rattle.std.proofs.Common.{◌≡◌, length, Some}
use Rattle.newton_upper.specs.Below.{all_below}
use Rattle.newton_upper.specs.Newton.{row_times}
use Rattle.newton_upper.proofs.matrix.Matrix.times.Given as goal

-- the entries so far
abbrev pub invariant-loop-i : goal.invariant-loop-i
invariant-loop-i g l = record {
  entries : all_below (row_times g.row.F l.self l.vector) l.i ≡ Some l.product;
  count : length l.product ≡ l.i;
}
