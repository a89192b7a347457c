use Rattle.std.proofs.Common.{◌∙◌, ap, subst}
use Rattle.object_store.specs.Walking.{IsNext}
use Rattle.pointing.proofs.MarkWalk.{marking-on, marking-end}
use Rattle.pointing.proofs.marking.with_mark.Goals as goal

pub visits-preserved : goal.visits-preserved
visits-preserved c =
    let visit = subst (IsNext c.visits.walk c.next.new.self) c.in-Node.is c.in_ok-e.ensures.next in
    marking-on c.args.system.now c.args.shape.now.items c.args.places.now c.visits.walk c.next.new.self c.in-Node.e.0 c.in-Node.visit c.visits.writing c.visit.new.self visit c.in_ok-visit-in-Node.ensures.written c.visits.invariant

pub returns-in-End : goal.returns-in-End
returns-in-End c = record {
  marked = λ tokens atom are is_way.
      let at_end = subst (IsNext c.visits.walk c.next.new.self) c.in-End.is c.in_ok-e.ensures.next in
      let whole = marking-end c.args.system.now c.args.shape.now.items c.args.places.now c.visits.walk c.next.new.self c.visits.writing tokens atom are is_way at_end c.visits.invariant in
      ap (λ w. w.written) c.writing-in-End.view_is ∙ c.in_ok-finish-in-End.ensures.whole c.args.system.now tokens whole;
}
