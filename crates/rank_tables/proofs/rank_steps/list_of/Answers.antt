use Rattle.std.proofs.Common.{None}
use Rattle.rank_tables.proofs.StackTold.{list-on}
use Rattle.rank_tables.proofs.rank_steps.list_of.Goals as goal

pub loop-i-preserved : goal.loop-i-preserved
loop-i-preserved c = list-on c.args.counts.now c.args.e.0 c.args.part.0 c.args.objects.now c.loop-i.i (record { size = 0; place = None }) c.loop-i.whole c.in_ok-whole.whole c.loop-i-test.true c.loop-i.auto.i c.in_ok-whole.ensures.joined c.loop-i.invariant
