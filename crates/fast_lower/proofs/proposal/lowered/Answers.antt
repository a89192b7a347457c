use Rattle.std.proofs.Common.{arith}
use Rattle.fast_lower.proofs.Lowered.{lowered-more, lowered-all}
use Rattle.fast_lower.proofs.proposal.lowered.Goals as goal

pub loop-c-preserved : goal.loop-c-preserved
loop-c-preserved c = lowered-more c.args.upper.now c.args.weights.now c.args.factor c.loop-c.c c.lowered_entry.result c.loop-c.low.items c.push.new.self.items (omega arith) c.requires.lengths c.loop-c.invariant c.lowered_entry.ensures c.in_ok-push.ensures.items

pub returns : goal.returns
returns c = record { exact = lowered-all c.args.upper.now c.args.weights.now c.args.factor c.loop-c.c c.loop-c.low.items (omega arith) c.loop-c.invariant }
