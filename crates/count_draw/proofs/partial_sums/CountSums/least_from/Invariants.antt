use Rattle.std.proofs.Common.{◌≤◌, ◌-◌}
use Rattle.fixed_enclosure.specs.Rounded.{Side}
use Rattle.count_draw.specs.Table.{IsRun, NoneReaches}
use Rattle.count_draw.proofs.partial_sums.CountSums.least_from.Given as goal

-- the run stands at a place before which no option reaches the value
abbrev pub invariant-terms : goal.invariant-terms
invariant-terms g l = record {
  run : IsRun Side.Down g.row.F l.self l.run.place l.run.power l.run.sum;
  room : l.run.place ≤ l.self.room;
  before : NoneReaches g.row.F l.self l.v l.run.place;
}

abbrev pub decreases-terms : goal.decreases-terms
decreases-terms g l = l.self.room - l.run.place
