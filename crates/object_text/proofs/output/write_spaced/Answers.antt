-- One part more, and all of them.
use Rattle.std.proofs.Common.{◌++◌, ◌∷◌, [], ◌∙◌, ap}
use Rattle.object_text.proofs.PartTexts.{spaces-next, spaces-all}
use Rattle.object_text.proofs.output.write_spaced.Goals as goal

pub loop-part-preserved : goal.loop-part-preserved
loop-part-preserved c =
    c.in_ok-push_word-2.ensures
    ∙ ap (λ t. t ++ c.deref-in-loop-part.result.now) c.in_ok-push_byte.ensures.ok
    ∙ ap (λ t. (c.loop-part.text.items ++ 32 ∷ []) ++ t) (c.deref-in-loop-part.ensures ∙ ap (λ p. p.text) c.part.view_is ∙ ap (λ p. p.text) c.part-item.is)
    ∙ spaces-next 0 c.loop-part.part-index c.in-Some.later.now c.in-Some.later.now c.part-item.result c.loop-part-test.true c.loop-part.text.items c.push_word.new.text.items c.loop-part.invariant

pub returns : goal.returns
returns c = let h = c.in-Some.ensures.cases in spaces-all c.loop-part.text.items c.push_word.new.text.items c.args.text.now.items c.in-Some.first.now c.in-Some.later.now c.args.parts.now c.loop-part.part-index c.loop-part-test.false c.loop-part.invariant (c.in_ok-push_word.ensures ∙ ap (λ t. c.args.text.now.items ++ t) (c.deref.ensures ∙ ap (λ p. p.text) c.first.view_is)) h.0
