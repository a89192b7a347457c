-- The last entry's first thing is taken, and what it stands for besides stays.
use Rattle.std.proofs.Common.{◌≡◌, ◌-◌, ◌<◌, ◌∷◌, ◌++◌, replicate, arith, sym, ◌∙◌, ap, subst}
use Rattle.object_text.specs.Todos.{entry_items, todos_in_order, IsSomething, AreSome, spaced_objects}
use Rattle.object_text.specs.declared.print_stack.Todo.TheVariants.{Byte, Node, Part}
use Rattle.object_text.proofs.Unrolled.{AreSome-push, AreSome-rest, unrolled-put, replicate-first}
use Rattle.object_text.proofs.print_stack.Todos.pop.Goals as goal

pub invariant_of-self-in-One : goal.invariant_of-self-in-One
invariant_of-self-in-One c = (AreSome-rest c.pop.new.self.items c.in_ok-todo.field-0 (subst AreSome c.in_ok-todo.ensures.items c.self.invariant)).0

pub invariant_of-self-then-more-gt0 : goal.invariant_of-self-then-more-gt0
invariant_of-self-then-more-gt0 c =
    let some = AreSome-rest c.pop.new.self.items c.in_ok-todo.field-0 (subst AreSome c.in_ok-todo.ensures.items c.self.invariant) in
    subst AreSome (sym c.push_reserved.ensures.items) (AreSome-push c.pop.new.self.items _ some.0 c.if-more-gt0.true)

pub invariant_of-self-else-more-gt0 : goal.invariant_of-self-else-more-gt0
invariant_of-self-else-more-gt0 c = (AreSome-rest c.pop.new.self.items c.in_ok-todo.field-0 (subst AreSome c.in_ok-todo.ensures.items c.self.invariant)).0

pub overflow_sub-times : goal.overflow_sub-times
overflow_sub-times c =
    let some = AreSome-rest c.pop.new.self.items c.in_ok-todo.field-0 (subst AreSome c.in_ok-todo.ensures.items c.self.invariant) in
    let times : 0 < c.in-Spaced.times = subst IsSomething c.in-Spaced.is some.1 in
    omega arith

pub invariant_of-self-in-Spaced : goal.invariant_of-self-in-Spaced
invariant_of-self-in-Spaced c =
    let some = AreSome-rest c.pop.new.self.items c.in_ok-todo.field-0 (subst AreSome c.in_ok-todo.ensures.items c.self.invariant) in
    subst AreSome (sym c.push_reserved-in-Spaced.ensures.items) (AreSome-push c.pop.new.self.items _ some.0 tt)

pub returns-in-One-clause-items : goal.returns-in-One-clause-items
returns-in-One-clause-items c =
    sym c.self.view_is ∙ unrolled-put c.pop.new.self.items c.self.inside.entries.items _ c.in_ok-todo.ensures.items ∙ ap (λ x. entry_items x ++ todos_in_order c.pop.new.self.items) c.in-One.is

pub returns-then-more-gt0-clause-items : goal.returns-then-more-gt0-clause-items
returns-then-more-gt0-clause-items c =
    sym c.self.view_is ∙ unrolled-put c.pop.new.self.items c.self.inside.entries.items _ c.in_ok-todo.ensures.items ∙ ap (λ x. entry_items x ++ todos_in_order c.pop.new.self.items) c.in-Objects.is
    ∙ ap (λ items. Node c.in-Objects.node ∷ items) (sym (unrolled-put c.pop.new.self.items c.push_reserved.new.self.items _ c.push_reserved.ensures.items))

pub returns-else-more-gt0-clause-items : goal.returns-else-more-gt0-clause-items
returns-else-more-gt0-clause-items c =
    let few = c.if-more-gt0.false in
    let no_more : c.in-Objects.more ≡ 0 = omega arith in
    sym c.self.view_is ∙ unrolled-put c.pop.new.self.items c.self.inside.entries.items _ c.in_ok-todo.ensures.items ∙ ap (λ x. entry_items x ++ todos_in_order c.pop.new.self.items) c.in-Objects.is
    ∙ ap (λ n. Node c.in-Objects.node ∷ spaced_objects (replicate n c.in-Objects.node) ++ todos_in_order c.pop.new.self.items) no_more

pub returns-in-Spaced-clause-items : goal.returns-in-Spaced-clause-items
returns-in-Spaced-clause-items c =
    let some = AreSome-rest c.pop.new.self.items c.in_ok-todo.field-0 (subst AreSome c.in_ok-todo.ensures.items c.self.invariant) in
    let times : 0 < c.in-Spaced.times = subst IsSomething c.in-Spaced.is some.1 in
    sym c.self.view_is ∙ unrolled-put c.pop.new.self.items c.self.inside.entries.items _ c.in_ok-todo.ensures.items ∙ ap (λ x. entry_items x ++ todos_in_order c.pop.new.self.items) c.in-Spaced.is
    ∙ ap (λ es. spaced_objects es ++ todos_in_order c.pop.new.self.items) (replicate-first c.in-Spaced.times c.in-Spaced.node times)
    ∙ ap (λ items. Byte 32 ∷ items) (sym (unrolled-put c.pop.new.self.items c.push_reserved-in-Spaced.new.self.items _ c.push_reserved-in-Spaced.ensures.items))

pub invariant_of-self-then-times-gt1 : goal.invariant_of-self-then-times-gt1
invariant_of-self-then-times-gt1 c =
    let some = AreSome-rest c.pop.new.self.items c.in_ok-todo.field-0 (subst AreSome c.in_ok-todo.ensures.items c.self.invariant) in
    let more : 0 < c.in-Parts.times - 1 = let h = c.if-times-gt1.true in omega arith in
    subst AreSome (sym c.push_reserved-then-times-gt1.ensures.items) (AreSome-push c.pop.new.self.items _ some.0 more)

pub invariant_of-self-else-times-gt1 : goal.invariant_of-self-else-times-gt1
invariant_of-self-else-times-gt1 c = (AreSome-rest c.pop.new.self.items c.in_ok-todo.field-0 (subst AreSome c.in_ok-todo.ensures.items c.self.invariant)).0

pub returns-then-times-gt1-clause-items : goal.returns-then-times-gt1-clause-items
returns-then-times-gt1-clause-items c =
    let times : 0 < c.in-Parts.times = let h = c.if-times-gt1.true in omega arith in
    sym c.self.view_is ∙ unrolled-put c.pop.new.self.items c.self.inside.entries.items _ c.in_ok-todo.ensures.items ∙ ap (λ x. entry_items x ++ todos_in_order c.pop.new.self.items) c.in-Parts.is
    ∙ ap (λ es. es ++ todos_in_order c.pop.new.self.items) (replicate-first c.in-Parts.times (Part c.in-Parts.node) times)
    ∙ ap (λ items. Part c.in-Parts.node ∷ items) (sym (unrolled-put c.pop.new.self.items c.push_reserved-then-times-gt1.new.self.items _ c.push_reserved-then-times-gt1.ensures.items))

pub returns-else-times-gt1-clause-items : goal.returns-else-times-gt1-clause-items
returns-else-times-gt1-clause-items c =
    let some = AreSome-rest c.pop.new.self.items c.in_ok-todo.field-0 (subst AreSome c.in_ok-todo.ensures.items c.self.invariant) in
    let times : 0 < c.in-Parts.times = subst IsSomething c.in-Parts.is some.1 in
    let few = c.if-times-gt1.false in
    let one : c.in-Parts.times ≡ 1 = omega arith in
    sym c.self.view_is ∙ unrolled-put c.pop.new.self.items c.self.inside.entries.items _ c.in_ok-todo.ensures.items ∙ ap (λ x. entry_items x ++ todos_in_order c.pop.new.self.items) c.in-Parts.is
    ∙ ap (λ n. replicate n (Part c.in-Parts.node) ++ todos_in_order c.pop.new.self.items) one
