use Rattle.std.proofs.Common.{◌≡◌}
use Rattle.newton_upper.specs.Below.{upper_sum_below}
use Rattle.newton_upper.specs.Newton.{entry_product}
use Rattle.newton_upper.proofs.matrix.Matrix.row_times.Given as goal

-- the sum so far
abbrev pub invariant-loop-c : goal.invariant-loop-c
invariant-loop-c g l = l.sum ≡ upper_sum_below (entry_product g.row.F l.self l.vector l.row) l.c
