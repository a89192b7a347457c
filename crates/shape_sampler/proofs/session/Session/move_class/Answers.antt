-- A class's body is pending in its place.
use Rattle.std.proofs.Common.{◌≡◌, ◌≢◌, [], ◌∷◌, sym, ◌∙◌, ap, subst, ℕ, List}
use Rattle.shape_sampler.specs.declared.stepped.Stepped.TheVariants.{Moved}
use Rattle.shape_sampler.specs.contracts.session.Session.{the_view}
use Rattle.shape_sampler.specs.State.{SessionState}
use Rattle.shape_sampler.specs.Answer.{IsPlainVisit, replaced_by}
use Rattle.shape_sampler.proofs.PlainMoves.{nodes-move}
use Rattle.shape_sampler.proofs.session.Session.move_class.Goals as goal

pub returns-clause-moved : goal.returns-clause-moved
returns-clause-moved c = λ told.
    let running = ap (λ (st : SessionState). st.stopped) c.self.view_is ∙ c.requires.running in
    let some = subst (λ (st : SessionState). st.pending ≢ []) (sym c.self.view_is) c.requires.pending in
    let placed = subst (λ es. (e : ℕ) (rest : List ℕ) → es ≡ e ∷ rest → c.put_first.new.pending.items ≡ c.args.body.0 ∷ rest) c.reserve.ensures.items c.put_first.ensures in
    subst (λ st. IsPlainVisit (replaced_by (c.args.body.0 ∷ [])) st Moved (record (the_view c.self.inside) { pending = c.put_first.new.pending.items })) c.self.view_is
    (nodes-move (the_view c.self.inside) running (c.args.body.0 ∷ []) c.put_first.new.pending.items some (λ none. absurd (cc)) placed)
