-- The text of an object doesn't depend on the height that it is known to have.
use Rattle.std.proofs.Common.{◌≡◌, ℕ, zero, suc, ◌+◌, ◌-◌, ◌≤◌, max, List, [], ◌∷◌, ◌++◌, take, drop, arith, refl, sym, ◌∙◌, ap, subst, Option, Some, add-zero, add-suc}
use Rattle.std.specs.Prelude.{slice_get, decimal, codes}
use Rattle.std.proofs.Math.Nat.{le-max_left, le-max_right}
use Rattle.bz_model.specs.Spec.{Spec, Node, Range, node_at, range_at, node_of, range_of, body_of}
use Rattle.bz_model.specs.Object.{Object, Objects, none, more, Has, HaveEach, HaveAll, ClassHas, HasWithin, Belongs}
use Rattle.bz_model.specs.Measures.{size}
use Rattle.bz_laws.proofs.Heights.{class-raised}
use Rattle.bz_model.specs.ObjectText.{Arrangement, text_by, texts_of_each, texts_of_all, class_text, text_within, spaced, set_parts, cycle_parts, least_label}

module _ (a : Arrangement) (s : Spec) (R : ℕ → Object → Type 0) (T U : ℕ → Object → List ℕ → List ℕ) (same : (c : ℕ) (o : Object) (labels : List ℕ) → R c o → T c o labels ≡ U c o labels) where
  mutual
    pub same_text : (n : Option Node) (r : Option Range) (o : Object) (labels : List ℕ) → Has s R n r o → text_by a s T n o labels ≡ text_by a s U n o labels
    same_text (Some (Node.Class c)) r o labels h = same c o labels h
    same_text (Some (Node.Empty w)) r Object.Unit_ labels h = refl
    same_text (Some (Node.Atom w)) r Object.Dot labels h = refl
    same_text (Some (Node.Union parts)) r (Object.Pick i o) labels h = ap (λ t. decimal i ++ codes "." ++ t) (same_text (node_of s (slice_get parts i)) (range_of s (slice_get parts i)) o labels h)
    same_text (Some (Node.Product parts)) r (Object.Tuple os) labels h = ap (λ ts. codes "(" ++ spaced ts ++ codes ")") (same_each parts os labels h)
    same_text (Some (Node.Seq part)) r (Object.SeqOf os) labels h = ap (λ ts. codes "[" ++ spaced ts ++ codes "]") (same_all part os labels h.1)
    same_text (Some (Node.Set part)) r (Object.SetOf os) labels h = ap (λ ts. codes "{" ++ spaced (set_parts a ts) ++ codes "}") (same_all part os labels h.1)
    same_text (Some (Node.Cyc part)) r (Object.CycOf os) labels h = ap (λ ts. codes "<" ++ spaced (cycle_parts a ts) ++ codes ">") (same_all part os labels h.1)
    same_text _ _ _ labels h = elim h [ ]

    same_each : (parts : List ℕ) (os : Objects) (labels : List ℕ) → HaveEach s R parts os → texts_of_each a s T parts os labels ≡ texts_of_each a s U parts os labels
    same_each [] none labels h = refl
    same_each (part ∷ parts) (more o os) labels h =
        ap (λ t. record { least = least_label (take (size o) labels); text = t } ∷ texts_of_each a s T parts os (drop (size o) labels)) (same_text (node_at s part) (range_at s part) o (take (size o) labels) h.0)
        ∙ ap (λ ts. record { least = least_label (take (size o) labels); text = text_by a s U (node_at s part) o (take (size o) labels) } ∷ ts) (same_each parts os (drop (size o) labels) h.1)
    same_each _ _ labels h = elim h [ ]

    same_all : (part : ℕ) (os : Objects) (labels : List ℕ) → HaveAll s R part os → texts_of_all a s T part os labels ≡ texts_of_all a s U part os labels
    same_all part none labels h = refl
    same_all part (more o os) labels h =
        ap (λ t. record { least = least_label (take (size o) labels); text = t } ∷ texts_of_all a s T part os (drop (size o) labels)) (same_text (node_at s part) (range_at s part) o (take (size o) labels) h.0)
        ∙ ap (λ ts. record { least = least_label (take (size o) labels); text = text_by a s U (node_at s part) o (take (size o) labels) } ∷ ts) (same_all part os (drop (size o) labels) h.1)

class_higher : (a : Arrangement) (s : Spec) (h c : ℕ) (o : Object) (labels : List ℕ) → ClassHas s h c o → class_text a s h c o labels ≡ class_text a s (suc h) c o labels
class_higher a s zero c o labels k = elim k [ ]
class_higher a s (suc h) c o labels k = same_text a s (ClassHas s h) (class_text a s h) (class_text a s (suc h)) (class_higher a s h) (node_of s (body_of s c)) (range_of s (body_of s c)) o labels k

class_up_to : (a : Arrangement) (s : Spec) (h k c : ℕ) (o : Object) (labels : List ℕ) → ClassHas s h c o → class_text a s h c o labels ≡ class_text a s (h + k) c o labels
class_up_to a s h zero c o labels p = rw add-zero refl
class_up_to a s h (suc k) c o labels p = class_up_to a s h k c o labels p ∙ rw add-suc (class_higher a s (h + k) c o labels (class-raised s h k c o p))

within_up_to : (a : Arrangement) (s : Spec) (h k : ℕ) → h ≤ k → (e : Option ℕ) (o : Object) (labels : List ℕ) → HasWithin s h e o → text_within a s h e o labels ≡ text_within a s k e o labels
within_up_to a s h k le e o labels p =
    let eq : h + (k - h) ≡ k = omega arith in
    subst (λ j. text_within a s h e o labels ≡ text_within a s j e o labels) eq (same_text a s (ClassHas s h) (class_text a s h) (class_text a s (h + (k - h))) (class_up_to a s h (k - h)) (node_of s e) (range_of s e) o labels p)

-- two heights give one text
pub one_text : (a : Arrangement) (s : Spec) (e : ℕ) (o : Object) (labels : List ℕ) (b c : Belongs s e o) → text_within a s b.0 (Some e) o labels ≡ text_within a s c.0 (Some e) o labels
one_text a s e o labels b c =
    within_up_to a s b.0 (max b.0 c.0) (omega (arith, le-max_left)) (Some e) o labels b.1
    ∙ sym (within_up_to a s c.0 (max b.0 c.0) (omega (arith, le-max_right)) (Some e) o labels c.1)
