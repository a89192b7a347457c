use Rattle.pointing.specs.Unmarking.{LeadsTo}
use Rattle.pointing.proofs.resolving.resolve.Given as goal

abbrev pub invariant-nodes : goal.invariant-nodes
invariant-nodes l = LeadsTo l.system l.fn.node.0 l.now.0 l.initial.written.items l.written.items
