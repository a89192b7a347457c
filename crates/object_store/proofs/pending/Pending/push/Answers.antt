-- One run more.
use Rattle.std.proofs.Common.{◌++◌, replicate, sym, ◌∙◌, ap, subst}
use Rattle.object_store.specs.Runs.{unrolled, HaveSome}
use Rattle.object_store.proofs.Unrolled.{unrolled-push, HaveSome-push}
use Rattle.object_store.proofs.pending.Pending.push.Goals as goal

pub invariant_of-self : goal.invariant_of-self
invariant_of-self c = subst HaveSome (sym c.in_ok-push.ensures.items) (HaveSome-push c.self.inside.runs.items _ c.self.invariant c.if-times-gt0.true)

pub returns-in_ok-push-clause-ok : goal.returns-in_ok-push-clause-ok
returns-in_ok-push-clause-ok c = ap unrolled c.in_ok-push.ensures.items ∙ unrolled-push c.self.inside.runs.items _ ∙ ap (λ p. replicate c.args.times c.args.node.0 ++ p) (ap (λ v. v.items) c.self.view_is)
