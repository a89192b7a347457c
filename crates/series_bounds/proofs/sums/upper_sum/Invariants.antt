use Rattle.std.proofs.Common.{◌≡◌, suc, ◌-◌, ◌^◌, ◌<◌, ◌≤◌}
use Rattle.fixed_enclosure.specs.Rounded.{Side}
use Rattle.series_bounds.specs.Series.{terms_from}
use Rattle.series_bounds.specs.Running.{kind_of, run_up, summed_up, carried_up}
use Rattle.series_bounds.proofs.sums.upper_sum.Given as goal

abbrev pub invariant-terms : goal.invariant-terms
invariant-terms g l = record {
  within : l.place ≤ l.i;
  first : l.place ≡ 0 → l.carried < 2 ^ 85;
  below : l.sum ≤ l.most;
  bits : l.carried ≤ 2 ^ 126;
  here : l.carried ≡ carried_up (kind_of l.kind) g.row.F l.a l.place;
  runs : summed_up (kind_of l.kind) g.row.F l.a l.most l.low l.i ≡ run_up l.most l.low l.place l.sum (terms_from Side.Up (kind_of l.kind) g.row.F l.a (suc l.i - l.place) l.place l.carried);
}

abbrev pub decreases-terms : goal.decreases-terms
decreases-terms g l = l.i - l.place
