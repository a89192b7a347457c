use Rattle.std.proofs.Common.{◌≡◌, ◌<◌, ◌≤◌, ◌-◌, ℕ, false}
use Rattle.count_draw.specs.Table.{reaches_at}
use Rattle.count_draw.proofs.partial_sums.CountSums.bracket.Given as goal

-- all options before the first of the step fail
abbrev pub invariant-steps : goal.invariant-steps
invariant-steps g l = record {
  low : l.self.low ≤ l.from;
  order : l.from ≤ l.to;
  room : l.to ≤ l.self.room;
  before : (j : ℕ) → l.self.low ≤ j → j < l.from → reaches_at g.row.F l.self l.v j ≡ false;
}

abbrev pub decreases-steps : goal.decreases-steps
decreases-steps g l = l.self.room - l.to
