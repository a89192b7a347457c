-- All tokens were pushed, and no list is open.
use Rattle.std.proofs.Common.{take_all, reverse, sym, ◌∙◌, ap}
use Rattle.object_text.specs.Taken.{Taken}
use Rattle.object_text.proofs.OpenLists.{all-inner}
use Rattle.object_text.proofs.parsed.Partial.shape.Goals as goal

pub returns : goal.returns
returns c =
    let seen : (t : Taken) → Taken = λ t. t in
    c.loop-token.invariant ∙ take_all c.loop-token.token-index c.deref-token-items.result.now c.loop-token-test.false ∙ c.deref-token-items.ensures.value
    ∙ sym (all-inner (reverse c.self.inside.lists.items) c.self.inside.tokens.items (ap (λ (t : Taken). t.lists) c.self.view_is ∙ c.requires.whole))
    ∙ ap (λ (t : Taken). t.tokens) c.self.view_is
