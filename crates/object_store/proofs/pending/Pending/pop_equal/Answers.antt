-- A part of the last run is taken, or the whole where it isn't the only one.
use Rattle.std.proofs.Common.{arith, ◌≡◌, ◌-◌, ◌<◌, ◌∷◌, ◌++◌, [], length, sym, ◌∙◌, ap, subst}
use Rattle.object_store.specs.Runs.{unrolled, HaveSome}
use Rattle.object_store.proofs.Unrolled.{HaveSome-push, HaveSome-rest, TakenEqual, part-taken, run-taken, not-alone}
use Rattle.object_store.proofs.pending.Pending.pop_equal.Goals as goal

pub free_of-requires : goal.free_of-requires
free_of-requires c = record { some = (HaveSome-rest c.pop.new.self.items c.in-Some.field-0 (subst HaveSome c.in-Some.ensures.items c.self.invariant)).1 }

pub invariant_of-self-then-taken-times : goal.invariant_of-self-then-taken-times
invariant_of-self-then-taken-times c =
    let some = HaveSome-rest c.pop.new.self.items c.in-Some.field-0 (subst HaveSome c.in-Some.ensures.items c.self.invariant) in
    let left : 0 < c.in-Some.field-0.times - c.min-taken.result = let below = c.if-taken-times.true in omega arith in
    subst HaveSome (sym c.push_reserved.ensures.items) (HaveSome-push c.pop.new.self.items _ some.0 left)

pub invariant_of-self-else-taken-times : goal.invariant_of-self-else-taken-times
invariant_of-self-else-taken-times c = (HaveSome-rest c.pop.new.self.items c.in-Some.field-0 (subst HaveSome c.in-Some.ensures.items c.self.invariant)).0

part : (c : goal.After-push_reserved) → TakenEqual c.args.self.now.items c.min-taken.result (unrolled c.push_reserved.new.self.items)
part c =
    let whole = subst HaveSome c.in-Some.ensures.items c.self.invariant in
    let taken = part-taken c.pop.new.self.items c.in-Some.field-0 c.min-taken.result whole c.if-taken-times.true in
    subst (λ es. TakenEqual es c.min-taken.result (unrolled c.push_reserved.new.self.items)) (sym (ap unrolled c.in-Some.ensures.items) ∙ ap (λ v. v.items) c.self.view_is)
    (subst (λ runs. TakenEqual (unrolled (c.pop.new.self.items ++ c.in-Some.field-0 ∷ [])) c.min-taken.result (unrolled runs)) (sym c.push_reserved.ensures.items) taken)

pub returns-then-taken-times-clause-items : goal.returns-then-taken-times-clause-items
returns-then-taken-times-clause-items c = (part c).items

pub returns-then-taken-times-clause-waits : goal.returns-then-taken-times-clause-waits
returns-then-taken-times-clause-waits c = λ some. (part c).waits

pub returns-then-taken-times-clause-nothing : goal.returns-then-taken-times-clause-nothing
returns-then-taken-times-clause-nothing c = λ none. absurd ((part c).some none)

times-some : (c : goal.Else-taken-times) → 0 < c.in-Some.field-0.times
times-some c = (HaveSome-rest c.pop.new.self.items c.in-Some.field-0 (subst HaveSome c.in-Some.ensures.items c.self.invariant)).1

all : (c : goal.Else-taken-times) → TakenEqual c.args.self.now.items c.min-taken.result (unrolled c.pop.new.self.items)
all c =
    let whole = subst HaveSome c.in-Some.ensures.items c.self.invariant in
    let some = times-some c in
    let most = c.if-taken-times.false in
    let taken = c.min-taken.ensures in
    let others = not-alone c.is_empty.result _ c.free_of.result c.in-Some.field-0.times c.is_empty.ensures some c.free_of.ensures.alone (omega arith) in
    let few = c.free_of.ensures.few in
    let equal : c.min-taken.result ≡ c.in-Some.field-0.times = omega arith in
    let taken_all = run-taken c.pop.new.self.items c.in-Some.field-0 c.min-taken.result whole equal (subst (λ runs. 0 < length runs) c.as_slice.ensures.value others) in
    subst (λ es. TakenEqual es c.min-taken.result (unrolled c.pop.new.self.items)) (sym (ap unrolled c.in-Some.ensures.items) ∙ ap (λ v. v.items) c.self.view_is) taken_all

pub returns-else-taken-times-clause-some : goal.returns-else-taken-times-clause-some
returns-else-taken-times-clause-some c = λ more wanted. let some = times-some c in let most = c.if-taken-times.false in omega arith

pub returns-else-taken-times-clause-items : goal.returns-else-taken-times-clause-items
returns-else-taken-times-clause-items c = (all c).items

pub returns-else-taken-times-clause-waits : goal.returns-else-taken-times-clause-waits
returns-else-taken-times-clause-waits c = λ some. (all c).waits

pub returns-else-taken-times-clause-nothing : goal.returns-else-taken-times-clause-nothing
returns-else-taken-times-clause-nothing c = λ none. absurd ((all c).some none)
