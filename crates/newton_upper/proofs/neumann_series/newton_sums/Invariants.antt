use Rattle.std.proofs.Common.{◌≡◌, length, Some}
use Rattle.std.specs.Prelude.{option_and_then}
use Rattle.rounded_map.specs.RoundedMap.{repeated}
use Rattle.newton_upper.specs.Fitting.{AreSums}
use Rattle.newton_upper.specs.Newton.{next_sums, raised_by}
use Rattle.newton_upper.proofs.neumann_series.newton_sums.Given as goal

-- the sums after the squarings so far
abbrev pub invariant-loop-k : goal.invariant-loop-k
invariant-loop-k g l = record {
  raised : repeated (option_and_then (next_sums g.row.F)) l._k (raised_by g.row.F l.fn.matrix l.gap l.margin) ≡ Some l.sums;
  fitting : AreSums (length l.gap) l.sums;
}
