-- The line of one class more.
use Rattle.std.proofs.Common.{◌∙◌, ap, ◌++◌, ◌∷◌, [], get_or, length, subst, ◌<◌}
use Rattle.std.specs.Prelude.{codes}
use Rattle.certificate.specs.Patterns.{filled}
use Rattle.certificate.proofs.Writing.{base-step}
use Rattle.certificate.proofs.write.push_base.Goals as goal

pub loop-class-preserved : goal.loop-class-preserved
loop-class-preserved c =
    let i = c.loop-class.class in
    base-step c.args.h.now.names c.args.h.now.base i c.name-name.result.now c.args.text.now.items
    c.loop-class.text.items c.extend_from_slice.new.self.items c.extend_from_slice-in-loop-class.new.self.items c.push_line.new.text.items
    c.loop-class.invariant c.name-name.ensures.name (subst (λ xs. i < length xs) c.items-values.ensures.items c.loop-class-test.true)
    c.in_ok-extend_from_slice.ensures.items (c.in_ok-extend_from_slice-2.ensures.items ∙ ap (λ n. c.extend_from_slice.new.self.items ++ n) c.bytes.ensures)
    (c.in_ok-push_line.ensures ∙ ap (λ xs. c.extend_from_slice-in-loop-class.new.self.items ++ (filled (codes " #") (get_or xs i 0 ∷ []) ++ 10 ∷ [])) c.items-values.ensures.items)
