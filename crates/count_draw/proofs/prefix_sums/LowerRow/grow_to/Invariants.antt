use Rattle.std.proofs.Common.{◌-◌}
use Rattle.count_draw.specs.Row.{IsLowerRow}
use Rattle.count_draw.proofs.prefix_sums.LowerRow.grow_to.Given as goal

-- the row is one of the sums
abbrev pub invariant-terms : goal.invariant-terms
invariant-terms g l = IsLowerRow g.row.F l.sums l.self

abbrev pub decreases-terms : goal.decreases-terms
decreases-terms g l = 255 - l.self.run.place
