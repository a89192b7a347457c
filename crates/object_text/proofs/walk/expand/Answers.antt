-- A class's body and a product's parts stand in its place.
use Rattle.std.proofs.Common.{◌≡◌, ◌∷◌, [], ◌++◌, map, sym, ◌∙◌, ap, subst, Some}
use Rattle.bz_model.specs.Spec.{Node, node_at}
use Rattle.class_system.specs.Views.{number, spec_node}
use Rattle.object_store.specs.Walk.{Expands}
use Rattle.object_text.specs.declared.print_stack.Todo.TheVariants as todo
use Rattle.object_text.specs.Todos.{joined_objects}
use Rattle.object_text.specs.Output.{grown}
use Rattle.object_text.specs.Printing.{Prints, nodes_of}
use Rattle.object_text.proofs.Steps.{of-class, of-product}
use Rattle.object_text.proofs.Ways.{nodes-joined}
use Rattle.object_store.proofs.InRange.{class-known}
use Rattle.object_text.proofs.walk.expand.Goals as goal

pub body-requires : goal.body-requires
body-requires c = record { in_range = class-known c.args.system.now c.known.ensures.sound c.args.e.0 c.in-Class.c.0 (c.node.ensures.node ∙ ap (λ n. Some (spec_node n)) c.in-Class.is) }

pub returns-in_ok-push_one-in-Class : goal.returns-in_ok-push_one-in-Class
returns-in_ok-push_one-in-Class c =
    let at : node_at c.args.system.now c.args.e.0 ≡ Some (Node.Class c.in-Class.c.0) = c.node.ensures.node ∙ ap (λ n. Some (spec_node n)) c.in-Class.is in
    record {
      expands = record {
        step = Expands.class c.in-Class.c.0 c.body.result.0 at c.body.ensures.body (ap nodes_of c.in_ok-push_one-in-Class.ensures);
        goes = record { on = λ whole tokens labels p. subst (λ todos. Prints c.args.system.now whole todos tokens labels c.args.output.now) (sym c.in_ok-push_one-in-Class.ensures) (of-class c.args.system.now whole c.args.todos.now c.args.e.0 c.in-Class.c.0 c.body.result.0 at c.body.ensures.body tokens labels c.args.output.now p) };
      };
    }

pub returns-in_ok-push_each-in-Product : goal.returns-in_ok-push_each-in-Product
returns-in_ok-push_each-in-Product c =
    let at : node_at c.args.system.now c.args.e.0 ≡ Some (Node.Product (map number c.items.result.now)) = c.node.ensures.node ∙ ap (λ n. Some (spec_node n)) c.in-Product.is ∙ ap (λ ps. Some (Node.Product (map number ps))) (sym c.items.ensures.items) in
    let all : c.push_each.new.self ≡ joined_objects c.items.result.now ++ todo.Byte 41 ∷ c.args.todos.now = c.in_ok-push_each-in-Product.ensures ∙ ap (λ todos. joined_objects c.items.result.now ++ todos) c.in_ok-push_one-in-Product.ensures in
    record {
      expands = record {
        step = Expands.product (map number c.items.result.now) at (ap nodes_of all ∙ nodes-joined c.items.result.now (todo.Byte 41 ∷ c.args.todos.now));
        goes = record {
          on = λ whole tokens labels p.
              subst (Prints c.args.system.now whole c.push_each.new.self tokens labels) (sym c.in_ok-write_byte-in-Product.ensures)
              (subst (λ todos. Prints c.args.system.now whole todos tokens labels (grown c.args.output.now 0 (40 ∷ []))) (sym all) (of-product c.args.system.now whole c.args.todos.now c.args.e.0 labels c.args.output.now c.items.result.now at tokens p));
        };
      };
    }
