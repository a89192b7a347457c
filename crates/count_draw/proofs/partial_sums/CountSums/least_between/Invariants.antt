use Rattle.std.proofs.Common.{◌-◌}
use Rattle.count_draw.specs.Table.{IsBracket}
use Rattle.count_draw.proofs.partial_sums.CountSums.least_between.Given as goal

-- the least option lies between the two
abbrev pub invariant-halves : goal.invariant-halves
invariant-halves g l = IsBracket g.row.F l.self l.v l.from l.to

abbrev pub decreases-halves : goal.decreases-halves
decreases-halves g l = l.to - l.from
