use Rattle.std.proofs.Common.{◌≤◌, ◌-◌}
use Rattle.count_draw.specs.Table.{IsBracket}
use Rattle.count_draw.proofs.prefix_sums.LowerRow.least_between.Given as goal

-- the least option lies between the two
abbrev pub invariant-halves : goal.invariant-halves
invariant-halves g l = record {
  bracket : IsBracket g.row.F l.sums l.v l.from l.to;
  kept : l.to ≤ l.self.run.place;
}

abbrev pub decreases-halves : goal.decreases-halves
decreases-halves g l = l.to - l.from
