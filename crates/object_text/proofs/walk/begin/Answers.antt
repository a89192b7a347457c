-- Each thing is done.
use Rattle.std.proofs.Common.{◌∷◌, [], refl, sym, ap, subst}
use Rattle.object_text.specs.declared.print_stack.Todo.TheVariants as todo
use Rattle.object_text.specs.Output.{grown, part_printed, form_closed}
use Rattle.object_text.specs.Printing.{Prints, nodes_of}
use Rattle.object_text.proofs.Ways.{passes-one, passes-from}
use Rattle.object_text.proofs.walk.begin.Goals as goal

pub returns-in_ok-write_byte-in-Byte : goal.returns-in_ok-write_byte-in-Byte
returns-in_ok-write_byte-in-Byte c = record {
  begun = record {
    left = refl;
    passes = passes-from (todo.Byte c.in-Byte.byte ∷ c.args.todos.now) (c.args.todo ∷ c.args.todos.now) c.args.todos.now c.args.output.now c.write_byte.new.self (ap (λ t. t ∷ c.args.todos.now) c.in-Byte.is)
        (passes-one (todo.Byte c.in-Byte.byte) c.args.todos.now c.args.output.now (grown c.args.output.now 0 (c.in-Byte.byte ∷ [])) c.write_byte.new.self c.in_ok-write_byte-in-Byte.ensures refl (λ s. record { on = λ whole tokens labels p. p }));
  };
}

pub returns-in_ok-end_part-in-EndPart : goal.returns-in_ok-end_part-in-EndPart
returns-in_ok-end_part-in-EndPart c = record {
  begun = record {
    left = refl;
    passes = passes-from (todo.EndPart ∷ c.args.todos.now) (c.args.todo ∷ c.args.todos.now) c.args.todos.now c.args.output.now c.end_part.new.self (ap (λ t. t ∷ c.args.todos.now) c.in-EndPart.is)
        (passes-one todo.EndPart c.args.todos.now c.args.output.now (part_printed c.args.output.now) c.end_part.new.self c.in_ok-end_part-in-EndPart.ensures refl (λ s. record { on = λ whole tokens labels p. p }));
  };
}

pub returns-in_ok-close-in-Close : goal.returns-in_ok-close-in-Close
returns-in_ok-close-in-Close c = record {
  begun = record {
    left = refl;
    passes = passes-from (todo.Close c.in-Close.form ∷ c.args.todos.now) (c.args.todo ∷ c.args.todos.now) c.args.todos.now c.args.output.now c.close.new.self (ap (λ t. t ∷ c.args.todos.now) c.in-Close.is)
        (passes-one (todo.Close c.in-Close.form) c.args.todos.now c.args.output.now (form_closed c.in-Close.form c.args.output.now) c.close.new.self c.in_ok-close-in-Close.ensures refl (λ s. record { on = λ whole tokens labels p. p }));
  };
}

pub returns-in-Node : goal.returns-in-Node
returns-in-Node c = record {
  begun = passes-from (todo.Node c.in-Node.e ∷ c.args.todos.now) (c.args.todo ∷ c.args.todos.now) (todo.Node c.in-Node.e ∷ c.args.todos.now) c.args.output.now c.args.output.now (ap (λ t. t ∷ c.args.todos.now) c.in-Node.is) (record { nodes = refl; goes = λ s. record { on = λ whole tokens labels p. p } });
}

pub returns-in-Part : goal.returns-in-Part
returns-in-Part c = record {
  begun = passes-from (todo.Part c.in-Part.e ∷ c.args.todos.now) (c.args.todo ∷ c.args.todos.now) (todo.Node c.in-Part.e ∷ c.push_one.new.self) c.args.output.now c.args.output.now (ap (λ t. t ∷ c.args.todos.now) c.in-Part.is)
      (record {
        nodes = ap (λ ds. nodes_of (todo.Node c.in-Part.e ∷ ds)) (sym c.in_ok-push_one-in-Part.ensures);
        goes = λ s. record { on = λ whole tokens labels p. subst (λ ds. Prints s whole (todo.Node c.in-Part.e ∷ ds) tokens labels c.args.output.now) (sym c.in_ok-push_one-in-Part.ensures) p };
      });
}
