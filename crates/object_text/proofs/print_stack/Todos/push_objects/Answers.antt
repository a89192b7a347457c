-- The first object, and the others with a space before each.
use Rattle.std.proofs.Common.{◌++◌, sym, ◌∙◌, ap}
use Rattle.object_text.specs.Todos.{joined_objects}
use Rattle.object_text.proofs.Unrolled.{replicate-first}
use Rattle.object_text.proofs.print_stack.Todos.push_objects.Goals as goal

pub returns-in_ok-push : goal.returns-in_ok-push
returns-in_ok-push c = c.in_ok-push.ensures ∙ ap (λ es. joined_objects es ++ c.args.self.now) (sym (replicate-first c.args.times c.args.node c.if-times-gt0.true))
