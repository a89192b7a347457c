-- The tokens are asked of the class's body.
use Rattle.std.proofs.Common.{◌≡◌, ◌↔◌, ℕ, ◌∷◌, List, [], Result, Ok, Err, IfOk, sym, subst₂, ◌∙◌}
use Rattle.std.specs.Prelude.{Some}
use Rattle.bz_model.specs.Spec.{Spec, body_of}
use Rattle.object_store.specs.declared.token.Token.{Token}
use Rattle.object_store.specs.Tokens.{AreOf, IsOf}
use Rattle.object_store.specs.Walking.{Walking}
use Rattle.object_store.proofs.InRange.{body-below}
use Rattle.object_store.proofs.Walked.{of-body}
use Rattle.object_store.proofs.shape.Shape.walk.Goals as goal

pub new-requires : goal.new-requires
new-requires c = record { in_range = body-below c.args.system.now c.known.ensures.sound c.args.c.0 c.body.result.0 c.body.ensures.body }

asked-of : {E : Type 0} (s : Spec) (c body : ℕ) (all items : List Token) (r : Result Walking E) → body_of s c ≡ Some body → all ≡ items → IfOk r (λ w. w.waiting ≡ body ∷ []) → IfOk r (λ w. w.left ≡ all) → IfOk r (λ w. AreOf s w.waiting w.left ↔ IsOf s c items)
asked-of s c body all items (Ok w) at same waiting left =
    let of = of-body s c body items at in
    (λ a. of.0 (subst₂ (AreOf s) waiting (left ∙ same) a), λ h. subst₂ (AreOf s) (sym waiting) (sym (left ∙ same)) (of.1 h))
asked-of s c body all items (Err e) at same waiting left = tt

pub returns-clause-asked : goal.returns-clause-asked
returns-clause-asked c = asked-of c.args.system.now c.args.c.0 c.body.result.0 c.tokens.result.now c.args.self.now.items c.new.result c.body.ensures.body c.tokens.ensures c.new.ensures.waiting c.new.ensures.left
