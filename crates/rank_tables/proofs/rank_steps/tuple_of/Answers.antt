use Rattle.std.proofs.Common.{◌+◌, ◌-◌, arith, None}
use Rattle.rank_tables.specs.Grids.{number_at}
use Rattle.rank_tables.proofs.Cells.{part-small, part-within}
use Rattle.rank_tables.proofs.StackTold.{tuple-start, tuple-on}
use Rattle.rank_tables.proofs.rank_steps.tuple_of.Goals as goal

pub loop-i-init : goal.loop-i-init
loop-i-init c = tuple-start (number_at c.args.counts.now) c.args.parts.now c.args.objects.now (record { 0 = 0 }) (record { size = 0; place = None }) c.requires.some c.requires.one_for_each

pub joined-requires-clause-node : goal.joined-requires-clause-node
joined-requires-clause-node c = let some = c.loop-i-test.true in let few = c.loop-i.auto.i in part-small _ (c.loop-i.i - 1) _ c.args.parts.now (omega arith) c.requires.nodes

pub joined-requires-clause-other_node : goal.joined-requires-clause-other_node
joined-requires-clause-other_node c = let some = c.loop-i-test.true in let few = c.loop-i.auto.i in part-within c.args.tails.now.nodes c.args.counts.now.nodes (c.loop-i.i - 1 + 1) _ c.args.parts.now c.requires.tail_nodes (omega arith) c.requires.nodes

pub loop-i-preserved : goal.loop-i-preserved
loop-i-preserved c = tuple-on c.args.counts.now c.args.tails.now c.args.parts.now c.args.objects.now c.loop-i.i (record { 0 = 0 }) (record { size = 0; place = None }) c.loop-i.whole c.in_ok-whole.whole c.loop-i-test.true c.loop-i.auto.i c.requires.one_for_each c.in_ok-whole.ensures.joined c.requires.tails c.loop-i.invariant
