-- The way down, step by step.
use Rattle.std.proofs.Common.{◌≤◌, ◌∷◌, arith, sym, subst}
use Rattle.object_store.proofs.Descent.{Descent, descent-start}
use Rattle.object_text.specs.declared.print_stack.Todo.TheVariants as todo
use Rattle.object_text.specs.Printing.{Prints, nodes_of, IsNextNode, ExpandsIf}
use Rattle.object_text.proofs.Ways.{all-below, not_over, through}
use Rattle.object_text.proofs.walk.descend.Goals as goal

pub loop-e-init : goal.loop-e-init
loop-e-init c =
    let some = c.requires.printed in
    record {
      goes = record { on = λ whole tokens labels p. p };
      descent = subst (λ n. Descent c.args.system.now (nodes_of c.args.todos.now) (nodes_of c.args.todos.now) n) (sym c.node_count-left.ensures.count) (descent-start c.args.system.now (nodes_of c.args.todos.now) (all-below c.args.system.now some.wholly.whole c.args.todos.now some.tokens some.labels c.args.output.now some.wholly.prints));
    }

pub expand-requires : goal.expand-requires
expand-requires c =
    let some = c.requires.printed in
    let next = subst (IsNextNode c.loop-e.todos c.loop-e.output c.next_node.new.todos c.next_node.new.output) c.in-Some.is c.in_ok-e.ensures.next in
    record {
      printed = record {
        tokens = some.tokens;
        labels = some.labels;
        wholly = record { whole = some.wholly.whole; prints = (next.goes c.args.system.now).on some.wholly.whole some.tokens some.labels (c.loop-e.invariant.goes.on some.wholly.whole some.tokens some.labels some.wholly.prints) };
      };
    }

pub returns-then-not-branch : goal.returns-then-not-branch
returns-then-not-branch c =
    let next = subst (IsNextNode c.loop-e.todos c.loop-e.output c.next_node.new.todos c.next_node.new.output) c.in-Some.is c.in_ok-e.ensures.next in
    let stays = subst (ExpandsIf c.args.system.now c.in-Some.e c.next_node.new.todos c.next_node.new.output c.expand.new.todos c.expand.new.output) c.if-not-branch.true c.in_ok-expand.ensures.expands in
    record {
      front = record {
        has_token = stays.has_token;
        goes = record {
          on = λ whole tokens labels p.
              subst (Prints c.args.system.now whole (todo.Node c.in-Some.e ∷ c.expand.new.todos) tokens labels) (sym stays.printed_same)
              (subst (λ todos. Prints c.args.system.now whole (todo.Node c.in-Some.e ∷ todos) tokens labels c.next_node.new.output) (sym stays.todos_same)
              ((next.goes c.args.system.now).on whole tokens labels (c.loop-e.invariant.goes.on whole tokens labels p)));
        };
      };
    }

pub overflow_sub-left : goal.overflow_sub-left
overflow_sub-left c =
    let next = subst (IsNextNode c.loop-e.todos c.loop-e.output c.next_node.new.todos c.next_node.new.output) c.in-Some.is c.in_ok-e.ensures.next in
    not_over c.args.system.now c.args.todos.now c.args.output.now c.in-Some.e c.next_node.new.todos c.loop-e.left c.requires.printed (subst (λ es. Descent c.args.system.now (nodes_of c.args.todos.now) es c.loop-e.left) next.nodes c.loop-e.invariant.descent)

pub loop-e-smaller : goal.loop-e-smaller
loop-e-smaller c = let some : 1 ≤ c.loop-e.left = overflow_sub-left c in omega (arith, some)

pub loop-e-preserved : goal.loop-e-preserved
loop-e-preserved c =
    let next = subst (IsNextNode c.loop-e.todos c.loop-e.output c.next_node.new.todos c.next_node.new.output) c.in-Some.is c.in_ok-e.ensures.next in
    let expanded = subst (ExpandsIf c.args.system.now c.in-Some.e c.next_node.new.todos c.next_node.new.output c.expand.new.todos c.expand.new.output) c.if-not-branch.false c.in_ok-expand.ensures.expands in
    let here = subst (λ es. Descent c.args.system.now (nodes_of c.args.todos.now) es c.loop-e.left) next.nodes c.loop-e.invariant.descent in
    record {
      goes = record { on = λ whole tokens labels p. expanded.goes.on whole tokens labels ((next.goes c.args.system.now).on whole tokens labels (c.loop-e.invariant.goes.on whole tokens labels p)) };
      descent = through c.args.system.now c.known.ensures.sound c.args.todos.now c.args.output.now c.in-Some.e c.next_node.new.todos c.expand.new.todos c.loop-e.left c.requires.printed here expanded.step;
    }

pub returns : goal.returns
returns c =
    let next = subst (IsNextNode c.loop-e.todos c.loop-e.output c.next_node.new.todos c.next_node.new.output) c.in_default.is c.in_ok-e.ensures.next in
    record { front = record { on = λ whole tokens labels p. (next.goes c.args.system.now).on whole tokens labels (c.loop-e.invariant.goes.on whole tokens labels p) } }
