use Rattle.std.proofs.Common.{◌≡◌, arith, refl, sym, ◌∙◌, ap, subst}
use Rattle.bz_model.specs.Measures.{size}
use Rattle.object_store.specs.Tokens.{size_of}
use Rattle.object_store.specs.Walking.{IsNext}
use Rattle.object_store.proofs.Sizes.{size_of-tokens}
use Rattle.pointing.specs.Ways.{level_places, HasPassed}
use Rattle.pointing.proofs.Searches.{search-start, search-on, search-found, never-ends, never-without}
use Rattle.pointing.proofs.ways.way_to.Goals as goal

pub visits-init : goal.visits-init
visits-init c = record {
  system = c.in_ok-walk.ensures.system;
  on = λ of.
      let sized : size_of c.args.shape.now.items ≡ size of.object = ap size_of (sym of.spelled) ∙ size_of-tokens of.object in
      let there = c.requires.there in
      search-start c.args.system.now of.object c.args.atom c.in_ok-walk.walk (record { levels = c.new.result; before = c.args.atom }) c.new.ensures refl (omega arith) (c.in_ok-walk.ensures.waits of).1;
}

pub returns-then-branch : goal.returns-then-branch
returns-then-branch c =
    let visit = subst (IsNext c.visits.walk c.next.new.self) c.in-Node.is c.in_ok-e.ensures.next in
    let found = c.if-branch.true in
    record {
      way = λ of. c.in_ok-places-in-Node.ensures.places ∙ ap (λ z. level_places z.levels) c.search-in-Node.view_is ∙ search-found c.args.system.now of.object c.args.atom c.visits.walk c.next.new.self c.in-Node.e.0 c.in-Node.visit c.visits.search c.pass.new.self c.visits.invariant.system visit
          (subst (HasPassed c.args.system.now c.in-Node.e.0 c.in-Node.visit c.visits.search c.pass.new.self) found c.in_ok-pass-in-Node.ensures.passed) (c.visits.invariant.on of);
    }

pub unreachable-requires : goal.unreachable-requires
unreachable-requires c =
    let at_end = subst (IsNext c.visits.walk c.next.new.self) c.in-End.is c.in_ok-e.ensures.next in
    never-ends c.args.system.now c.requires.is_of.object c.args.atom c.visits.walk c.next.new.self c.visits.search at_end (c.visits.invariant.on c.requires.is_of)

pub unreachable-requires-in-NoObject : goal.unreachable-requires-in-NoObject
unreachable-requires-in-NoObject c =
    let none_there = subst (IsNext c.visits.walk c.next.new.self) c.in-NoObject.is c.in_ok-e.ensures.next in
    never-without c.args.system.now c.requires.is_of.object c.args.atom c.visits.walk c.next.new.self c.visits.search c.visits.invariant.system none_there (c.visits.invariant.on c.requires.is_of)

pub visits-preserved : goal.visits-preserved
visits-preserved c =
    let visit = subst (IsNext c.visits.walk c.next.new.self) c.in-Node.is c.in_ok-e.ensures.next in
    let found = c.if-branch.false in
    record {
      system = visit.system ∙ c.visits.invariant.system;
      on = λ of. search-on c.args.system.now of.object c.args.atom c.visits.walk c.next.new.self c.in-Node.e.0 c.in-Node.visit c.visits.search c.pass.new.self c.visits.invariant.system visit
          (subst (HasPassed c.args.system.now c.in-Node.e.0 c.in-Node.visit c.visits.search c.pass.new.self) found c.in_ok-pass-in-Node.ensures.passed) (c.visits.invariant.on of);
    }
