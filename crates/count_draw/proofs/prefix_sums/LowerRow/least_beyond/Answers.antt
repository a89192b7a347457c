-- Where no option before a place beyond the room reaches v, none is found.
use Rattle.std.proofs.Common.{arith, sym}
use Rattle.count_draw.proofs.PartialValues.{least-none_upto}
use Rattle.count_draw.proofs.prefix_sums.LowerRow.least_beyond.Goals as goal

pub returns-then-room-run-clause-exact : goal.returns-then-room-run-clause-exact
returns-then-room-run-clause-exact g c = sym (least-none_upto g.row.F c.args.sums.now c.args.v (λ j from upto. c.start_for-run.ensures.before.before j from (omega (arith, c.room.ensures.asked, c.if-room-run.true))))
