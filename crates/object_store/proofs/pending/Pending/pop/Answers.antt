-- A run with one node less, or without its only node.
use Rattle.std.proofs.Common.{arith, ◌≡◌, ◌-◌, ◌<◌, ◌∷◌, ◌++◌, replicate, sym, ◌∙◌, ap, subst}
use Rattle.object_store.specs.Runs.{unrolled, HaveSome}
use Rattle.object_store.proofs.Unrolled.{unrolled-push, HaveSome-push, HaveSome-rest, replicate-first}
use Rattle.object_store.proofs.pending.Pending.pop.Goals as goal

pub invariant_of-self-then-times-gt1 : goal.invariant_of-self-then-times-gt1
invariant_of-self-then-times-gt1 c =
    let some = HaveSome-rest c.pop.new.self.items c.in_ok-node.field-0 (subst HaveSome c.in_ok-node.ensures.items c.self.invariant) in
    let left : 0 < c.in_ok-node.field-0.times - 1 = let above = c.if-times-gt1.true in omega arith in
    subst HaveSome (sym c.push_reserved.ensures.items) (HaveSome-push c.pop.new.self.items _ some.0 left)

pub invariant_of-self-else-times-gt1 : goal.invariant_of-self-else-times-gt1
invariant_of-self-else-times-gt1 c = (HaveSome-rest c.pop.new.self.items c.in_ok-node.field-0 (subst HaveSome c.in_ok-node.ensures.items c.self.invariant)).0

pub returns-then-times-gt1-clause-items : goal.returns-then-times-gt1-clause-items
returns-then-times-gt1-clause-items c =
    let some = HaveSome-rest c.pop.new.self.items c.in_ok-node.field-0 (subst HaveSome c.in_ok-node.ensures.items c.self.invariant) in
    let before = ap unrolled c.in_ok-node.ensures.items ∙ unrolled-push c.pop.new.self.items c.in_ok-node.field-0 in
    let split = replicate-first c.in_ok-node.field-0.times c.in_ok-node.field-0.node.0 some.1 in
    let after = ap unrolled c.push_reserved.ensures.items ∙ unrolled-push c.pop.new.self.items _ in
    sym (ap (λ v. v.items) c.self.view_is) ∙ before ∙ ap (λ es. es ++ unrolled c.pop.new.self.items) split ∙ ap (λ es. c.in_ok-node.field-0.node.0 ∷ es) (sym after)

pub returns-else-times-gt1-clause-items : goal.returns-else-times-gt1-clause-items
returns-else-times-gt1-clause-items c =
    let some = HaveSome-rest c.pop.new.self.items c.in_ok-node.field-0 (subst HaveSome c.in_ok-node.ensures.items c.self.invariant) in
    let few = c.if-times-gt1.false in
    let before = ap unrolled c.in_ok-node.ensures.items ∙ unrolled-push c.pop.new.self.items c.in_ok-node.field-0 in
    let split = replicate-first c.in_ok-node.field-0.times c.in_ok-node.field-0.node.0 some.1 in
    let empty : c.in_ok-node.field-0.times - 1 ≡ 0 = omega (arith, some.1) in
    sym (ap (λ v. v.items) c.self.view_is) ∙ before ∙ ap (λ es. es ++ unrolled c.pop.new.self.items) (split ∙ ap (λ n. c.in_ok-node.field-0.node.0 ∷ replicate n c.in_ok-node.field-0.node.0) empty)
