-- Where the kept options reach to the room and none reaches v, none is found.
use Rattle.std.proofs.Common.{arith, sym}
use Rattle.count_draw.proofs.PartialValues.{least-none_upto}
use Rattle.count_draw.proofs.prefix_sums.LowerRow.least.Goals as goal

pub returns-then-room-self-clause-exact : goal.returns-then-room-self-clause-exact
returns-then-room-self-clause-exact g c = sym (least-none_upto g.row.F c.args.sums.now c.args.v (λ j from upto. c.in_default.ensures.none.upto j from (omega (arith, c.if-room-self.true, c.room.ensures.asked)) upto))
