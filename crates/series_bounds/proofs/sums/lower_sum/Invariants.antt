use Rattle.std.proofs.Common.{◌≡◌, suc, ◌-◌, ◌^◌, ◌<◌, ◌≤◌}
use Rattle.fixed_enclosure.specs.Rounded.{Side}
use Rattle.series_bounds.specs.Series.{terms_from}
use Rattle.series_bounds.specs.Running.{kind_of, run_down, summed_down}
use Rattle.series_bounds.proofs.sums.lower_sum.Given as goal

abbrev pub invariant-terms : goal.invariant-terms
invariant-terms g l = record {
  within : l.place ≤ l.i;
  start : l.place ≤ l.low → l.sum ≡ 0;
  first : l.place ≡ 0 → l.carried < 2 ^ 85;
  runs : summed_down (kind_of l.kind) g.row.F l.a l.low l.i ≡ run_down l.low l.place l.sum (terms_from Side.Down (kind_of l.kind) g.row.F l.a (suc l.i - l.place) l.place l.carried);
}

abbrev pub decreases-terms : goal.decreases-terms
decreases-terms g l = l.i - l.place
