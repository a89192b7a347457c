-- Choices among the parts of a node that have an atom, as the code counts them.
use Rattle.std.proofs.Common.{◌≡◌, ◌≢◌, ℕ, zero, suc, ◌≤◌, inl, inr, List, [], ◌∷◌, take, map, length, arith, refl, sym, ◌∙◌, ap, Bool}
use Rattle.std.proofs.lemmas.List.{take_all, take-map}
use Rattle.bz_model.specs.Spec.{Spec}
use Rattle.class_system.specs.Views.{number}
use Rattle.class_system.specs.declared.ids.ExprId.{ExprId}
use Rattle.object_store.specs.declared.token.Token.TheVariants as token
use Rattle.well_founded.specs.EmptyObjects.{answer_at}
use Rattle.pointing.specs.Forms.{all_forms}
use Rattle.pointing.specs.Atoms.{atomic_classes, atomic_nodes, is_atomic_node}
use Rattle.pointing.specs.PointedForm.{how_many}
use Rattle.pointing.specs.Marking.{choices, choice_at}
use Rattle.pointing.specs.Writing.{pick_of}
use Rattle.pointing.proofs.AtomMarks.{mark-found}
use Rattle.pointing.proofs.Searches.{below-or}

-- The marks of some nodes.
pub marks-of : (s : Spec) (marks : List Bool) (ps : List ℕ) → marks ≡ atomic_nodes s → map (answer_at marks) ps ≡ map (is_atomic_node s) ps
marks-of s marks [] e = refl
marks-of s marks (p ∷ ps) e = ap (λ b. b ∷ map (answer_at marks) ps) (ap (λ ms. answer_at ms p) e ∙ mark-found (atomic_classes s) (all_forms s) p) ∙ ap (λ bs. is_atomic_node s p ∷ bs) (marks-of s marks ps e)

-- The number of parts that the code's marks say have an atom is the number of choices at the node,
-- where the marks are those of the nodes.
pub choices-counted : (s : Spec) (marks : List Bool) (ps : List ℕ) (parts : List ExprId) (n : ℕ) → marks ≡ atomic_nodes s → map number parts ≡ ps → n ≡ how_many (map (answer_at marks) (map number parts)) → n ≡ choices (is_atomic_node s) ps
choices-counted s marks ps parts n e same h = h ∙ ap how_many (ap (map (answer_at marks)) same ∙ marks-of s marks ps e)

-- Those before a place are counted among the first n, where these are all parts before it.
pub choice-counted : (s : Spec) (marks : List Bool) (ps : List ℕ) (parts : List ExprId) (n place count : ℕ) → marks ≡ atomic_nodes s → map number parts ≡ ps → (place ≤ length parts → n ≡ place) → (length parts ≤ place → n ≡ length parts) → count ≡ how_many (map (answer_at marks) (map number (take n parts))) → count ≡ choice_at (is_atomic_node s) ps place
choice-counted s marks ps parts n place count e same short long h =
    h ∙ ap how_many (ap (map (answer_at marks)) (sym (take-map number n parts) ∙ cut) ∙ marks-of s marks (take place ps) e ∙ sym (take-map (is_atomic_node s) place ps))
  where
    long-one : (n : ℕ) (ls : List ExprId) → length (map number ls) ≡ length ls
    long-one n [] = refl
    long-one n (l ∷ ls) = ap suc (long-one n ls)

    cut : take n (map number parts) ≡ take place ps
    cut = elim (below-or (length parts) place) [
      | inl lt ↦ ap (λ m. take m (map number parts)) (short (omega arith)) ∙ ap (take place) same
      | inr le ↦ ap (λ m. take m (map number parts)) (long le) ∙ let l = long-one n parts in take_all (length parts) (map number parts) (omega arith) ∙ sym (take_all place (map number parts) (omega arith)) ∙ ap (take place) same
    ]

-- Where there is just one choice, no pick is written.
pub one-pick : (n i : ℕ) → n ≡ 1 → pick_of n i ≡ []
one-pick n i e = ap (λ m. pick_of m i) e

-- Where there isn't just one choice, the pick of choice i is written.
pub some-pick : (n i : ℕ) → n ≢ 1 → pick_of n i ≡ token.Pick i ∷ []
some-pick zero i e = refl
some-pick (suc zero) i e = absurd (e refl)
some-pick (suc (suc n)) i e = refl
