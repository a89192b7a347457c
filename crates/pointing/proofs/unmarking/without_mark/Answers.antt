use Rattle.std.proofs.Common.{◌∙◌, ap, subst}
use Rattle.object_store.specs.Walking.{IsNext}
use Rattle.pointing.proofs.UnmarkWalk.{unmarking-start, unmarking-on, unmarking-end}
use Rattle.pointing.proofs.unmarking.without_mark.Goals as goal

pub visits-init : goal.visits-init
visits-init c = unmarking-start c.args.system.now c.args.pointed.now c.args.shape.now.items c.in_ok-walk.walk c.in_ok-unmarking.unmarking c.body.result c.requires.pointed c.body.ensures.body c.in_ok-walk.ensures.system c.requires.is_of c.in_ok-walk.ensures.asked c.in_ok-walk.ensures.waits c.in_ok-unmarking.ensures.dues c.in_ok-unmarking.ensures.written

pub visits-preserved : goal.visits-preserved
visits-preserved c =
    let visit = subst (IsNext c.visits.walk c.next.new.self) c.in-Node.is c.in_ok-e.ensures.next in
    unmarking-on c.args.system.now c.args.pointed.now c.args.shape.now.items c.visits.walk c.next.new.self c.in-Node.e.0 c.in-Node.visit c.visits.unmarking c.visit.new.self visit c.in_ok-visit-in-Node.ensures.read c.visits.invariant

pub returns-in-End : goal.returns-in-End
returns-in-End c = record {
  unmarked = λ plain atom are.
      let at_end = subst (IsNext c.visits.walk c.next.new.self) c.in-End.is c.in_ok-e.ensures.next in
      let whole = c.finish.ensures.whole c.args.system.now plain atom (unmarking-end c.args.system.now c.args.pointed.now c.args.shape.now.items c.visits.walk c.next.new.self c.visits.unmarking plain atom are at_end c.visits.invariant) in
      (c.in_ok-plain-in-End.ensures.items ∙ c.deref.ensures.value ∙ ap (λ z. z.written) c.unmarking-in-End.view_is ∙ whole.0, ap (λ z. z.told) c.unmarking-in-End.view_is ∙ whole.1);
}
