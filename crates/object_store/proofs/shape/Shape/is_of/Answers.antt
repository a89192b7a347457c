-- The tokens are asked of the nodes that wait.
use Rattle.std.proofs.Common.{◌≡◌, ◌↔◌, [], sym, subst, subst₂, ◌∙◌, refl, ℕ}
use Rattle.bz_model.specs.Spec.{Spec}
use Rattle.object_store.specs.declared.visit.Visit.{Visit}
use Rattle.object_store.specs.Tokens.{AreOf}
use Rattle.object_store.specs.Walking.{Walking, IsNext, IsEnd, HasNoObjects, IsVisitOfWalk}
use Rattle.object_store.proofs.NextToken.{of-none}
use Rattle.object_store.proofs.Walked.{never_true}
use Rattle.object_store.proofs.shape.Shape.is_of.Goals as goal

all-taken : (s : Spec) (w now : Walking) → w.system ≡ s → IsEnd w now → AreOf s w.waiting w.left
all-taken s w now same h = subst₂ (AreOf s) (sym h.nothing) (sym h.no_token) ((of-none s []).1 refl)

none-left : (s : Spec) (w now : Walking) → w.system ≡ s → HasNoObjects w now → ¬ (AreOf s w.waiting w.left)
none-left s w now same h a = h.never (subst (λ z. AreOf z w.waiting w.left) (sym same) a)

same-after : (s : Spec) (w now : Walking) (e : ℕ) (v : Visit) → w.system ≡ s → IsVisitOfWalk w now e v → AreOf s w.waiting w.left ↔ AreOf s now.waiting now.left
same-after s w now e v same h = subst (λ z. AreOf z w.waiting w.left ↔ AreOf z now.waiting now.left) same h.same

pub returns-in-End : goal.returns-in-End
returns-in-End c =
    let end = subst (IsNext c.visits.walk c.next.new.self) c.in-End.is c.in_ok-next.ensures.next in
    let there = c.visits.invariant.same.1 (all-taken c.args.system.now c.visits.walk c.next.new.self c.visits.invariant.system end) in
    record { is_of = (λ t. c.in_ok-walk.ensures.asked.0 there, λ h. refl) }

pub returns-in-NoObject : goal.returns-in-NoObject
returns-in-NoObject c =
    let never = subst (IsNext c.visits.walk c.next.new.self) c.in-NoObject.is c.in_ok-next.ensures.next in
    record {
      is_of = never_true (λ h. none-left c.args.system.now c.visits.walk c.next.new.self c.visits.invariant.system never (c.visits.invariant.same.0 (c.in_ok-walk.ensures.asked.1 h)));
    }

pub visits-preserved : goal.visits-preserved
visits-preserved c =
    let visit = subst (IsNext c.visits.walk c.next.new.self) c.in-Node.is c.in_ok-next.ensures.next in
    let step = same-after c.args.system.now c.visits.walk c.next.new.self c.in-Node.field-0.0 c.in-Node.field-1 c.visits.invariant.system visit in
    record {
      system = visit.system ∙ c.visits.invariant.system;
      same = (λ a. step.0 (c.visits.invariant.same.0 a), λ a. c.visits.invariant.same.1 (step.1 a));
    }

pub visits-smaller : goal.visits-smaller
visits-smaller c =
    let visit = subst (IsNext c.visits.walk c.next.new.self) c.in-Node.is c.in_ok-next.ensures.next in
    visit.fewer
