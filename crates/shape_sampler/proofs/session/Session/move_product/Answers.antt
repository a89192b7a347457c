-- A product's parts are pending in its place.
use Rattle.std.proofs.Common.{◌≡◌, ◌≢◌, [], ◌∷◌, ◌++◌, map, sym, ◌∙◌, ap, subst, ℕ, List}
use Rattle.class_system.specs.Views.{number}
use Rattle.shape_sampler.specs.declared.stepped.Stepped.TheVariants.{Moved}
use Rattle.shape_sampler.specs.contracts.session.Session.{the_view}
use Rattle.shape_sampler.specs.State.{SessionState}
use Rattle.shape_sampler.specs.Answer.{IsPlainVisit, replaced_by}
use Rattle.shape_sampler.proofs.PlainMoves.{nodes-move, some-parts}
use Rattle.shape_sampler.proofs.session.Session.move_product.Goals as goal

pub returns-clause-moved : goal.returns-clause-moved
returns-clause-moved c = λ told.
    let running = ap (λ (st : SessionState). st.stopped) c.self.view_is ∙ c.requires.running in
    let some = subst (λ (st : SessionState). st.pending ≢ []) (sym c.self.view_is) c.requires.pending in
    let placed = subst (λ es. (e : ℕ) (rest : List ℕ) → es ≡ e ∷ rest → c.replace_first.new.pending.items ≡ map number c.args.parts.now ++ rest) c.reserve.ensures.items c.replace_first.ensures in
    subst (λ st. IsPlainVisit (replaced_by (map number c.args.parts.now)) st Moved (record (the_view c.self.inside) { pending = c.replace_first.new.pending.items })) c.self.view_is
    (nodes-move (the_view c.self.inside) running (map number c.args.parts.now) c.replace_first.new.pending.items some (some-parts c.args.parts.now c.if-is_empty.ensures) placed)
