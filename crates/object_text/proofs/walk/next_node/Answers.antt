-- One thing more is done.
use Rattle.std.proofs.Common.{◌∷◌, length, arith, ap, subst}
use Rattle.object_text.specs.declared.print_stack.Todo.TheVariants as todo
use Rattle.object_text.specs.Printing.{IsDoneOrAtNode}
use Rattle.object_text.proofs.Ways.{passes-then, passes-from}
use Rattle.object_text.proofs.walk.next_node.Goals as goal

pub returns-in-Some-2 : goal.returns-in-Some-2
returns-in-Some-2 c =
    let begun = subst (IsDoneOrAtNode c.in-Some.todo c.pop.new.self c.loop-todo.output c.begin.new.todos c.begin.new.output) c.in-Some-2.is c.in_ok-e.ensures.begun in
    record { next = passes-then c.args.todos.now c.loop-todo.todos (todo.Node c.in-Some-2.e ∷ c.begin.new.todos) c.args.output.now c.loop-todo.output c.begin.new.output c.loop-todo.invariant (passes-from (c.in-Some.todo ∷ c.pop.new.self) c.loop-todo.todos (todo.Node c.in-Some-2.e ∷ c.begin.new.todos) c.loop-todo.output c.begin.new.output c.in-Some.ensures.items begun) }

pub loop-todo-smaller : goal.loop-todo-smaller
loop-todo-smaller c =
    let done = subst (IsDoneOrAtNode c.in-Some.todo c.pop.new.self c.loop-todo.output c.begin.new.todos c.begin.new.output) c.in_default-2.is c.in_ok-e.ensures.begun in
    omega (arith, ap length done.left, ap length c.in-Some.ensures.items)

pub loop-todo-preserved : goal.loop-todo-preserved
loop-todo-preserved c =
    let done = subst (IsDoneOrAtNode c.in-Some.todo c.pop.new.self c.loop-todo.output c.begin.new.todos c.begin.new.output) c.in_default-2.is c.in_ok-e.ensures.begun in
    passes-then c.args.todos.now c.loop-todo.todos c.begin.new.todos c.args.output.now c.loop-todo.output c.begin.new.output c.loop-todo.invariant (passes-from (c.in-Some.todo ∷ c.pop.new.self) c.loop-todo.todos c.begin.new.todos c.loop-todo.output c.begin.new.output c.in-Some.ensures.items done.passes)
