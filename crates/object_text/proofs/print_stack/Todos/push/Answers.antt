-- One entry more.
use Rattle.std.proofs.Common.{◌++◌, sym, ◌∙◌, ap, subst}
use Rattle.object_text.specs.Todos.{entry_items, AreSome}
use Rattle.object_text.proofs.Unrolled.{AreSome-push, unrolled-put}
use Rattle.object_text.proofs.print_stack.Todos.push.Goals as goal

pub invariant_of-self : goal.invariant_of-self
invariant_of-self c = subst AreSome (sym c.push_reserved.ensures.items) (AreSome-push c.self.inside.entries.items c.args.entry c.self.invariant c.requires)

pub returns-then-len-capacity : goal.returns-then-len-capacity
returns-then-len-capacity c = unrolled-put c.self.inside.entries.items c.push_reserved.new.self.items c.args.entry c.push_reserved.ensures.items ∙ ap (λ items. entry_items c.args.entry ++ items) c.self.view_is

pub invariant_of-self-2 : goal.invariant_of-self-2
invariant_of-self-2 c = subst AreSome (sym c.in_ok-push.ensures.items) (AreSome-push c.self.inside.entries.items c.args.entry c.self.invariant c.requires)

pub returns : goal.returns
returns c = unrolled-put c.self.inside.entries.items c.push.new.self.items c.args.entry c.in_ok-push.ensures.items ∙ ap (λ items. entry_items c.args.entry ++ items) c.self.view_is
