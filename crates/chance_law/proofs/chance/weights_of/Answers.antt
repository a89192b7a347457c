-- The walk begins, goes on and ends.
use Rattle.std.proofs.Common.{◌∙◌, subst}
use Rattle.object_store.specs.Walking.{IsNext}
use Rattle.chance_law.proofs.Come.{begins, goes-on-walk, ends, never-without, still-near}
use Rattle.chance_law.proofs.chance.weights_of.Goals as goal

pub visits-init : goal.visits-init
visits-init c = record {
  system = c.in_ok-walk.ensures.system;
  on_the_way = λ of. begins c.args.system.now c.args.x c.one-weights.result of.object c.in_ok-walk.walk.waiting c.in_ok-walk.walk.left (c.in_ok-walk.ensures.waits of).1 c.one-weights.ensures.lo c.one-weights.ensures.hi c.one-weights.ensures.within;
}

pub after-weights-requires-clause-within : goal.after-weights-requires-clause-within
after-weights-requires-clause-within c = still-near c.args.system.now c.known.ensures.sound c.args.x c.visits.weights 0 c.args.shape.now.items c.requires.is_of c.requires.few c.visits.walk.waiting c.visits.walk.left (c.visits.invariant.on_the_way c.requires.is_of)

pub visits-preserved : goal.visits-preserved
visits-preserved c =
    let visit = subst (IsNext c.visits.walk c.next.new.self) c.in-Node.is c.in_ok-visit.ensures.next in
    record {
      system = visit.system ∙ c.visits.invariant.system;
      on_the_way = λ of. goes-on-walk c.args.system.now c.args.x c.visits.weights c.after-weights.result of.object c.visits.walk c.next.new.self c.in-Node.field-0.0 c.in-Node.visit c.visits.invariant.system visit (c.visits.invariant.on_the_way of) c.after-weights.ensures.down c.after-weights.ensures.up c.after-weights.ensures.within;
    }

pub visits-smaller : goal.visits-smaller
visits-smaller c =
    let visit = subst (IsNext c.visits.walk c.next.new.self) c.in-Node.is c.in_ok-visit.ensures.next in
    visit.fewer

pub returns-in-End-clause-weights : goal.returns-in-End-clause-weights
returns-in-End-clause-weights c =
    let end = subst (IsNext c.visits.walk c.next.new.self) c.in-End.is c.in_ok-visit.ensures.next in
    λ of. ends c.args.system.now c.args.x c.visits.weights of.object c.visits.walk.waiting c.visits.walk.left end.nothing (c.visits.invariant.on_the_way of)

pub returns-in-End-clause-within : goal.returns-in-End-clause-within
returns-in-End-clause-within c = still-near c.args.system.now c.known.ensures.sound c.args.x c.visits.weights 0 c.args.shape.now.items c.requires.is_of c.requires.few c.visits.walk.waiting c.visits.walk.left (c.visits.invariant.on_the_way c.requires.is_of)

pub unreachable-requires : goal.unreachable-requires
unreachable-requires c =
    let none_there = subst (IsNext c.visits.walk c.next.new.self) c.in-NoObject.is c.in_ok-visit.ensures.next in
    never-without c.args.system.now c.args.x c.visits.weights c.requires.is_of.object c.visits.walk c.next.new.self c.visits.invariant.system none_there (c.visits.invariant.on_the_way c.requires.is_of)
