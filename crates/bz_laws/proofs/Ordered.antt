-- An object that stands in order has the text that its parts give as they stand.
use Rattle.std.proofs.Common.{◌≡◌, ℕ, zero, suc, inl, inr, List, [], ◌∷◌, ◌++◌, map, take, drop, arith, refl, sym, ◌∙◌, ap, subst, Option, Some}
use Rattle.std.specs.Prelude.{Bool, true, false, nat_le, nat_eq, if◌then◌else◌, slice_get, decimal, codes}
use Rattle.std.proofs.lemmas.Bool.Decides.{leb_tells, eqb_tells}
use Rattle.std.proofs.lemmas.List.{append-nil}
use Rattle.bz_model.specs.Spec.{Spec, Node, Range, node_at, range_at, node_of, range_of, body_of}
use Rattle.bz_model.specs.Object.{Object, Objects, none, more, Has, HaveEach, HaveAll, ClassHas, Belongs}
use Rattle.bz_model.specs.Measures.{size}
use Rattle.bz_model.specs.ObjectText.{Arrangement, PartText, put, in_order, least_of, rotated_to, lesser_label, least_label, text_by, texts_of_each, texts_of_all, class_text, text_within, object_text, spaced}
use Rattle.bz_laws.specs.InOrder.{leasts, IsRising, BeginsWithLeast, StandsInOrder, AllStandInOrder}

abbrev pub standing : Arrangement
standing = Arrangement.AsItStands

abbrev pub canonical : Arrangement
canonical = Arrangement.Canonical

abbrev pub least_at : PartText → ℕ
least_at p = p.least

if-true : {A : Type 0} (b : Bool) (x y : A) → b ≡ true → (if b then x else y) ≡ x
if-true true x y e = refl
if-true false x y e = absurd (cc)

-- parts in order stay as they are
pub rising-in_order : (parts : List PartText) → IsRising (map least_at parts) → in_order parts ≡ parts
rising-in_order [] h = refl
rising-in_order (p ∷ []) h = refl
rising-in_order (p ∷ q ∷ parts) h =
    ap (put p) (rising-in_order (q ∷ parts) h.1) ∙ if-true (nat_le p.least q.least) (p ∷ q ∷ parts) (q ∷ put p parts) (elim (leb_tells p.least q.least) [ inl k ↦ k.0 | inr k ↦ absurd (let a = h.0 in let b = k.1 in omega arith) ])

-- The least label that any part's text holds is the least label of the list of the parts' least
-- labels.
pub least-same : (parts : List PartText) → least_of parts ≡ least_label (map least_at parts)
least-same [] = refl
least-same (p ∷ parts) = ap (lesser_label p.least) (least-same parts)

pub beginning-rotated : (parts : List PartText) → BeginsWithLeast (map least_at parts) → rotated_to (least_of parts) [] parts ≡ parts
beginning-rotated [] h = refl
beginning-rotated (p ∷ parts) h =
    let e : p.least ≡ least_of (p ∷ parts) = h ∙ ap (lesser_label p.least) (sym (least-same parts)) in
    if-true (nat_eq p.least (least_of (p ∷ parts))) ((p ∷ parts) ++ []) (rotated_to (least_of (p ∷ parts)) ([] ++ p ∷ []) parts) (elim (eqb_tells p.least (least_of (p ∷ parts))) [ inl k ↦ k.0 | inr k ↦ absurd (k.1 e) ]) ∙ append-nil (p ∷ parts)

-- The least labels of the objects of a part are the least labels that stand with their texts.
pub leasts-texts : (a : Arrangement) (s : Spec) (T : ℕ → Object → List ℕ → List ℕ) (part : ℕ) (os : Objects) (l : List ℕ) → leasts os l ≡ map least_at (texts_of_all a s T part os l)
leasts-texts a s T part none l = refl
leasts-texts a s T part (more o os) l = ap (λ ls. least_label (take (size o) l) ∷ ls) (leasts-texts a s T part os (drop (size o) l))

module _ (s : Spec) (R : ℕ → Object → Type 0) (T U : ℕ → Object → List ℕ → List ℕ) (class_same : (c : ℕ) (o : Object) (l : List ℕ) → R c o → StandsInOrder o l → T c o l ≡ U c o l) where
  mutual
    pub ordered-text : (n : Option Node) (g : Option Range) (o : Object) (l : List ℕ) → Has s R n g o → StandsInOrder o l → text_by canonical s T n o l ≡ text_by standing s U n o l
    ordered-text (Some (Node.Class c)) g o l h k = class_same c o l h k
    ordered-text (Some (Node.Empty w)) g Object.Unit_ l h k = refl
    ordered-text (Some (Node.Atom w)) g Object.Dot l h k = refl
    ordered-text (Some (Node.Union parts)) g (Object.Pick i o) l h k = ap (λ t. decimal i ++ codes "." ++ t) (ordered-text (node_of s (slice_get parts i)) (range_of s (slice_get parts i)) o l h k)
    ordered-text (Some (Node.Product parts)) g (Object.Tuple os) l h k = ap (λ ts. codes "(" ++ spaced ts ++ codes ")") (ordered-each parts os l h k)
    ordered-text (Some (Node.Seq part)) g (Object.SeqOf os) l h k = ap (λ ts. codes "[" ++ spaced ts ++ codes "]") (ordered-all part os l h.1 k)
    ordered-text (Some (Node.Set part)) g (Object.SetOf os) l h k = ap (λ ts. codes "{" ++ spaced ts ++ codes "}") (rising-in_order (texts_of_all canonical s T part os l) (subst IsRising (leasts-texts canonical s T part os l) k.0) ∙ ordered-all part os l h.1 k.1)
    ordered-text (Some (Node.Cyc part)) g (Object.CycOf os) l h k = ap (λ ts. codes "<" ++ spaced ts ++ codes ">") (beginning-rotated (texts_of_all canonical s T part os l) (subst BeginsWithLeast (leasts-texts canonical s T part os l) k.0) ∙ ordered-all part os l h.1 k.1)
    ordered-text _ g _ l h k = elim h [ ]

    ordered-each : (parts : List ℕ) (os : Objects) (l : List ℕ) → HaveEach s R parts os → AllStandInOrder os l → texts_of_each canonical s T parts os l ≡ texts_of_each standing s U parts os l
    ordered-each [] none l h k = refl
    ordered-each (part ∷ parts) (more o os) l h k =
        ap (λ t. record { least = least_label (take (size o) l); text = t } ∷ texts_of_each canonical s T parts os (drop (size o) l)) (ordered-text (node_at s part) (range_at s part) o (take (size o) l) h.0 k.0)
        ∙ ap (λ ts. record { least = least_label (take (size o) l); text = text_by standing s U (node_at s part) o (take (size o) l) } ∷ ts) (ordered-each parts os (drop (size o) l) h.1 k.1)
    ordered-each _ _ l h k = elim h [ ]

    ordered-all : (part : ℕ) (os : Objects) (l : List ℕ) → HaveAll s R part os → AllStandInOrder os l → texts_of_all canonical s T part os l ≡ texts_of_all standing s U part os l
    ordered-all part none l h k = refl
    ordered-all part (more o os) l h k =
        ap (λ t. record { least = least_label (take (size o) l); text = t } ∷ texts_of_all canonical s T part os (drop (size o) l)) (ordered-text (node_at s part) (range_at s part) o (take (size o) l) h.0 k.0)
        ∙ ap (λ ts. record { least = least_label (take (size o) l); text = text_by standing s U (node_at s part) o (take (size o) l) } ∷ ts) (ordered-all part os (drop (size o) l) h.1 k.1)

ordered-class : (s : Spec) (h c : ℕ) (o : Object) (l : List ℕ) → ClassHas s h c o → StandsInOrder o l → class_text canonical s h c o l ≡ class_text standing s h c o l
ordered-class s zero c o l k m = elim k [ ]
ordered-class s (suc h) c o l k m = ordered-text s (ClassHas s h) (class_text canonical s h) (class_text standing s h) (ordered-class s h) (node_of s (body_of s c)) (range_of s (body_of s c)) o l k m

-- an object in order is printed as it stands
pub ordered-printed : (s : Spec) (e : ℕ) (o : Object) (l : List ℕ) (b : Belongs s e o) → StandsInOrder o l → object_text s e o b l ≡ text_within standing s b.0 (Some e) o l
ordered-printed s e o l b k = ordered-text s (ClassHas s b.0) (class_text canonical s b.0) (class_text standing s b.0) (ordered-class s b.0) (node_at s e) (range_at s e) o l b.1 k
