-- Where the value at a place is above u, so is the option's.
use Rattle.std.proofs.Common.{sym}
use Rattle.count_draw.proofs.Runs.{up-past}
use Rattle.count_draw.proofs.partial_sums.CountSums.stays_within.Goals as goal

pub returns-then-u-run : goal.returns-then-u-run
returns-then-u-run g c = record { exact = sym (up-past g.row.F c.args.self.now c.terms.run.place c.terms.run.power c.terms.run.sum c.args.i c.args.u c.terms.invariant.run c.terms.invariant.later c.if-u-run.true) }
