use Rattle.std.proofs.Common.{◌≤◌, ◌-◌}
use Rattle.fixed_enclosure.specs.Rounded.{Side}
use Rattle.count_draw.specs.Table.{IsRun}
use Rattle.count_draw.proofs.partial_sums.CountSums.stays_within.Given as goal

-- the run stands at most at the option
abbrev pub invariant-terms : goal.invariant-terms
invariant-terms g l = record {
  run : IsRun Side.Up g.row.F l.self l.run.place l.run.power l.run.sum;
  later : l.run.place ≤ l.i;
}

abbrev pub decreases-terms : goal.decreases-terms
decreases-terms g l = l.i - l.run.place
