-- A neutral leaf where more nodes are pending.
use Rattle.std.proofs.Common.{[], ◌∷◌, ◌++◌, ◌∙◌, ap, subst}
use Rattle.object_store.specs.declared.token.Token.TheVariants as token
use Rattle.shape_sampler.specs.declared.stepped.Stepped.TheVariants.{Moved}
use Rattle.shape_sampler.specs.contracts.session.Session.{the_view}
use Rattle.shape_sampler.specs.State.{SessionState}
use Rattle.shape_sampler.specs.Visit.{leaf_visited}
use Rattle.shape_sampler.specs.Answer.{IsPlainVisit}
use Rattle.shape_sampler.proofs.PlainMoves.{leaf-move}
use Rattle.shape_sampler.proofs.session.Session.move_leaf.Goals as goal

pub returns-clause-moved : goal.returns-clause-moved
returns-clause-moved c = λ told.
    let running = ap (λ (st : SessionState). st.stopped) c.self.view_is ∙ c.requires.running in
    subst (λ st. IsPlainVisit leaf_visited st Moved (record (the_view c.self.inside) { pending = c.drop_first.new.pending.items; tokens = c.put_token.new.shape.items })) c.self.view_is
    (leaf-move (the_view c.self.inside) running c.drop_first.new.pending.items c.put_token.new.shape.items (c.has_more.ensures.0 (cc)) c.drop_first.ensures (c.put_token.ensures ∙ ap (λ ts. ts ++ token.Unit ∷ []) c.reserve.ensures.items))
