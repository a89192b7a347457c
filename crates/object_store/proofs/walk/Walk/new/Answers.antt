-- One node waits.
use Rattle.std.proofs.Common.{◌∙◌, ap, ◌∷◌}
use Rattle.object_store.proofs.Walks.{starts}
use Rattle.object_store.proofs.walk.Walk.new.Goals as goal

pub invariant_of-result : goal.invariant_of-result
invariant_of-result c = starts c.args.system.now c.push.new.self.items c.args.e.0 c.node_count.result (c.in_ok-push.ensures.ok ∙ ap (λ es. c.args.e.0 ∷ es) c.new-pending.ensures) c.requires.in_range c.node_count.ensures.count
