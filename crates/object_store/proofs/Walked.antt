-- What an answer of the walk means.
use Rattle.std.proofs.Common.{◌≡◌, ◌↔◌, ℕ, List, [], ◌∷◌, ◌++◌, Bool, false, IsTrue, Some, refl, sym, ◌∙◌, ap, subst, append-nil}
use Rattle.bz_model.specs.Spec.{Spec, body_of}
use Rattle.bz_model.specs.Object.{none, more, Belongs}
use Rattle.object_store.specs.declared.token.Token.{Token}
use Rattle.object_store.specs.Tokens.{tokens_of, tokens_all, AreOf, IsOf}
use Rattle.object_store.proofs.NextToken.{first, of-none}

-- The answer false is right where the fact doesn't hold.
pub never_true : {A : Type 0} → ¬ A → IsTrue false ↔ A
never_true h = (λ t. absurd (cc), λ a. absurd (h a))

-- The tokens of the body's object are those of the class's object.
pub of-body : (s : Spec) (c body : ℕ) (ts : List Token) → body_of s c ≡ Some body → AreOf s (body ∷ []) ts ↔ IsOf s c ts
of-body s c body ts at = (to, from)
  where
    to : AreOf s (body ∷ []) ts → IsOf s c ts
    to a =
        let f = first s body [] ts a in
        let none_left = (of-none s (tokens_all f.others)).0 (record { objects = f.others; belong = f.belong; spelled = refl }) in
        record { body = body; is_body = at; object = f.object; belongs = f.belongs; spelled = sym (append-nil (tokens_of f.object)) ∙ ap (λ us. tokens_of f.object ++ us) (sym none_left) ∙ f.spelled }

    from : IsOf s c ts → AreOf s (body ∷ []) ts
    from h =
        let same : h.body ≡ body = let is_body = h.is_body in cc in
        record { objects = more h.object none; belong = (subst (λ e. Belongs s e h.object) same h.belongs, tt); spelled = append-nil (tokens_of h.object) ∙ h.spelled }

-- Two facts that hold together have the same answer.
pub same-answer : {A B : Type 0} (b : Bool) → A ↔ B → IsTrue b ↔ A → IsTrue b ↔ B
same-answer b h k = (λ t. h.0 (k.0 t), λ x. k.1 (h.1 x))
