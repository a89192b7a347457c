-- What is made at the end is one shape for all numbers of the cells.
use Rattle.std.proofs.Common.{◌≡◌, ℕ, List, [], ◌++◌, sym, ◌∙◌, ap, subst, append-nil}
use Rattle.bz_model.specs.declared.cell.Cell.{Cell}
use Rattle.bz_model.specs.Fraction.{Fraction}
use Rattle.bz_model.specs.Spec.{Spec}
use Rattle.bz_model.specs.Cell.{AreInCells}
use Rattle.bz_model.specs.Object.{Object, none, Belongs}
use Rattle.bz_model.specs.Making.{Just, ClassMakes}
use Rattle.bz_model.specs.Making as making
use Rattle.bz_laws.proofs.Makings.{fine}
use Rattle.object_store.specs.declared.token.Token.{Token}
use Rattle.object_store.specs.Tokens.{tokens_of}
use Rattle.object_store.proofs.OneToOne.{one-object}
use Rattle.shape_sampler.specs.Belonging.{MakesTokens, Continues, IsIdealShape}
use Rattle.shape_sampler.proofs.Numbers.{least_of, least_of-in}

-- objects that class 0 makes with the same tokens are the same
one-made : (s : Spec) (x : Fraction) (whole r q : ℕ) (us vs left rest : List Fraction) (o p : Object) → ClassMakes s x 0 whole us (Just o r) left → ClassMakes s x 0 whole vs (Just p q) rest → tokens_of o ≡ tokens_of p → o ≡ p
one-made s x whole r q us vs left rest o p h k e =
    let same : k.0 ≡ h.0 = let a = h.1 in let b = k.1 in cc in
    let here : Belongs s h.0 o = (fine s x h.2).0 in
    let there : Belongs s h.0 p = subst (λ n. Belongs s n p) same (fine s x k.2).0 in
    (one-object s h.0 o p here there [] [] (ap (λ ts. ts ++ []) e)).0

-- Where an attempt goes on as it should and no node is pending, its tokens and cells are an ideal
-- shape.
pub ideal-shape : (s : Spec) (x : Fraction) (whole : ℕ) (tokens : List Token) (cells : List Cell) (room : ℕ) → Continues s x whole tokens cells room [] → IsIdealShape s x whole tokens cells
ideal-shape s x whole tokens cells room g = record { object = first.object; spelled = first.spelled ∙ append-nil tokens; room_left = room; made = made }
  where
    first : MakesTokens s x whole (least_of cells ++ []) (tokens ++ []) room []
    first = g.makes (least_of cells) [] [] none room (least_of-in cells) making.done

    made : (us rest : List Fraction) → AreInCells us cells → ClassMakes s x 0 whole (us ++ rest) (Just first.object room) rest
    made us rest inside =
        let m = g.makes us rest rest none room inside making.done in
        let same : m.object ≡ first.object = one-made s x whole room room (us ++ rest) (least_of cells ++ []) rest [] m.object first.object m.made first.made (m.spelled ∙ sym first.spelled) in
        subst (λ o. ClassMakes s x 0 whole (us ++ rest) (Just o room) rest) same m.made
