-- One token more has as many atoms more as the token has.
use Rattle.std.proofs.Common.{arith, ap, ◌∙◌}
use Rattle.object_store.specs.Tokens.{size_of}
use Rattle.object_store.proofs.Sizes.{size_of-push, size_of-le}
use Rattle.object_store.proofs.shape.Shape.push.Goals as goal

pub overflow_add-self : goal.overflow_add-self
overflow_add-self c =
    let items = c.in_ok-push.ensures.items in
    let more = ap size_of items ∙ size_of-push c.self.inside.content.items c.args.t in
    let few = size_of-le c.push.new.self.items in
    omega (arith, c.push.new.self.ok.0, c.push.new.self.small)

pub invariant_of-self-2 : goal.invariant_of-self-2
invariant_of-self-2 c =
    let items = c.in_ok-push.ensures.items in
    let more = ap size_of items ∙ size_of-push c.self.inside.content.items c.args.t in
    omega arith
