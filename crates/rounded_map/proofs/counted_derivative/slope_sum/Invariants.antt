use Rattle.std.proofs.Common.{◌≡◌, suc, ◌*◌, ◌-◌, ◌≤◌}
use Rattle.fixed_enclosure.specs.Rounded.{Side, greatest}
use Rattle.series_bounds.specs.Series.{terms_from}
use Rattle.rounded_map.specs.Derivative.{slope_kind}
use Rattle.rounded_map.specs.CountedKinds.{series_of_counted}
use Rattle.rounded_map.specs.SlopeSums.{slope_run, slope_between}
use Rattle.rounded_map.proofs.counted_derivative.slope_sum.Given as goal

-- the sum so far, with what the further terms add, is the whole sum
abbrev pub invariant-loop-place : goal.invariant-loop-place
invariant-loop-place g l = record {
  whole : slope_run (series_of_counted l.kind) l.low (suc l.place) l.sum (terms_from Side.Up (slope_kind (series_of_counted l.kind)) g.row.F l.part (l.high - l.place) l.place l.term) ≡ slope_between (series_of_counted l.kind) g.row.F l.low l.high l.part;
  within : l.sum ≤ l.place * (64 * greatest);
}
