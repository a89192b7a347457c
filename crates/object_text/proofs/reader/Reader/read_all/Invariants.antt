-- The text was read up to the rest.
use Rattle.std.proofs.Common.{length}
use Rattle.object_text.proofs.Resuming.{Progress}
use Rattle.object_text.proofs.reader.Reader.read_all.Given as goal

abbrev pub invariant-loop-node : goal.invariant-loop-node
invariant-loop-node l = Progress l.system l.fn.root l.initial.self.taken l.text l.next l.self.stack l.self.taken l.rest

abbrev pub decreases-loop-node : goal.decreases-loop-node
decreases-loop-node l = length l.rest
