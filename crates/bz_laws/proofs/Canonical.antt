-- Each object has a canonical form, which stands in order and whose text as it stands is the object's canonical text. So a canonical text is that of an object in order.
use Rattle.std.proofs.Common.{◌≡◌, ℕ, zero, suc, ◌+◌, ◌≤◌, List, [], ◌∷◌, ◌++◌, map, take, drop, arith, refl, sym, ◌∙◌, ap, subst, Option, Some}
use Rattle.std.specs.Prelude.{slice_get, decimal, codes}
use Rattle.std.specs.List.{AllByRecursion}
use Rattle.std.proofs.lemmas.List.{take-append-drop, length-append}
use Rattle.std.proofs.Math.Seq.{take-append_seam, drop-append_seam}
use Rattle.bz_model.specs.Spec.{Spec, Mode, Node, Range, node_at, range_at, node_of, range_of, body_of, IsInRange}
use Rattle.bz_model.specs.Object.{Object, Objects, none, more, count, Has, HaveEach, HaveAll, ClassHas, Belongs}
use Rattle.bz_model.specs.Measures.{size, sizes}
use Rattle.bz_model.specs.ObjectText.{PartText, in_order, rotated_to, least_of, lesser_label, least_label, HasLabels, IsObjectText, text_by, texts_of_each, texts_of_all, class_text, object_text, spaced}
use Rattle.bz_laws.specs.InOrder.{leasts, IsRising, BeginsWithLeast, StandsInOrder, AllStandInOrder}
use Rattle.bz_laws.specs.Spelled.{IsPlain}
use Rattle.bz_laws.proofs.Nodes.{HasAt}
use Rattle.bz_laws.proofs.Samples.{AllByRecursion-append}
use Rattle.bz_laws.proofs.Texts.{one_text}
use Rattle.bz_laws.proofs.Readings.{HasAllLabels, first-labels, other-labels, none-labels, part-labels, pick-labels, one_reading}
use Rattle.bz_laws.proofs.Ordered.{standing, canonical, least_at, least-same, leasts-texts, ordered-printed}
use Rattle.bz_laws.proofs.Items.{Item, key, objects_of, labels_of, labels-least, least-append, added, items_in_order, items_rotated, order-map, rotate-map, order-all, rotate-all, order-added, rotated-added, order-least, rotate-least, order-rising, rotated-begins}

-- an object with labels in order, whose text is this
record CanonOf (P : Object → Type 0) (mode : Mode) (t : Object → List ℕ → List ℕ) (o : Object) (l text : List ℕ) : Type 0 where
  object : Object
  labels : List ℕ
  has : P object
  labelled : HasLabels mode object labels
  ordered : StandsInOrder object labels
  shown : t object labels ≡ text
  sized : size object ≡ size o
  least : least_label labels ≡ least_label l

no-label : (mode : Mode) → HasAllLabels mode none []
no-label Mode.Unlabelled = refl
no-label Mode.Labelled = (refl, tt)

join-all : (mode : Mode) (o : Object) (os : Objects) (l rest : List ℕ) → HasLabels mode o l → HasAllLabels mode os rest → HasAllLabels mode (more o os) (l ++ rest)
join-all Mode.Unlabelled o os l rest h k = ap (λ z. z ++ rest) h ∙ k
join-all Mode.Labelled o os l rest h k = (let a = h.0 in let b = k.0 in omega (arith, length-append l rest), AllByRecursion-append (λ label. (1 ≤ label) × (label ≤ 1000000)) l rest h.1 k.1)

nil-take : (n : ℕ) (l rest : List ℕ) → l ≡ [] → rest ≡ [] → (take n (l ++ rest) ≡ l) × (drop n (l ++ rest) ≡ rest)
nil-take zero [] [] e f = (refl, refl)
nil-take (suc n) [] [] e f = (refl, refl)
nil-take n (a ∷ l) rest e f = absurd (cc)
nil-take n [] (a ∷ rest) e f = absurd (cc)

take-part : (mode : Mode) (o : Object) (os : Objects) (l rest : List ℕ) → HasLabels mode o l → HasAllLabels mode os rest → (take (size o) (l ++ rest) ≡ l) × (drop (size o) (l ++ rest) ≡ rest)
take-part Mode.Unlabelled o os l rest h k = nil-take (size o) l rest h k
take-part Mode.Labelled o os l rest h k = (subst (λ n. take n (l ++ rest) ≡ l) h.0 (take-append_seam l rest), subst (λ n. drop n (l ++ rest) ≡ rest) h.0 (drop-append_seam l rest))

whole-labels : (mode : Mode) (o : Object) (os : Objects) (l : List ℕ) → size o ≡ sizes os → HasAllLabels mode os l → HasLabels mode o l
whole-labels Mode.Unlabelled o os l e h = h
whole-labels Mode.Labelled o os l e h = (h.0 ∙ sym e, h.1)

same-labels : (mode : Mode) (o p : Object) (l : List ℕ) → size o ≡ size p → HasLabels mode o l → HasLabels mode p l
same-labels Mode.Unlabelled o p l e h = h
same-labels Mode.Labelled o p l e h = (h.0 ∙ e, h.1)

abbrev item_size : Item → ℕ
item_size i = size i.object

abbrev one_each : Item → ℕ
one_each i = 1

items-size : (items : List Item) → sizes (objects_of items) ≡ added item_size items
items-size [] = refl
items-size (i ∷ items) = ap (λ n. size i.object + n) (items-size items)

items-count : (items : List Item) → count (objects_of items) ≡ added one_each items
items-count [] = refl
items-count (i ∷ items) = let e = items-count items in omega arith

split-least : (n : ℕ) (l : List ℕ) → lesser_label (least_label (take n l)) (least_label (drop n l)) ≡ least_label l
split-least n l = sym (least-append (take n l) (drop n l)) ∙ ap least_label (take-append-drop n l)

module _ (s : Spec) (R : ℕ → Object → Type 0) (T U : ℕ → Object → List ℕ → List ℕ) where
  abbrev text_at : ℕ → Object → List ℕ → List ℕ
  text_at part o l = text_by standing s T (node_at s part) o l

  -- an item of the part, in order
  abbrev IsItemOf : ℕ → Item → Type 0
  IsItemOf part i = HasAt s R part i.object × HasLabels s.mode i.object i.labels × StandsInOrder i.object i.labels

  abbrev item_text : ℕ → Item → PartText
  item_text part i = record { least = least_label i.labels; text = text_at part i.object i.labels }

  -- a list of items as one list of objects with one list of labels
  record Assembled (part : ℕ) (items : List Item) : Type 0 where
    have : HaveAll s R part (objects_of items)
    labelled : HasAllLabels s.mode (objects_of items) (labels_of items)
    ordered : AllStandInOrder (objects_of items) (labels_of items)
    texts : texts_of_all standing s T part (objects_of items) (labels_of items) ≡ map (item_text part) items

  assemble : (part : ℕ) (items : List Item) → AllByRecursion (IsItemOf part) items → Assembled part items
  assemble part [] h = record { have = tt; labelled = no-label s.mode; ordered = tt; texts = refl }
  assemble part (i ∷ items) h =
      let r = assemble part items h.1 in
      let t = take-part s.mode i.object (objects_of items) i.labels (labels_of items) h.0.1 r.labelled in
      record {
        have = (h.0.0, r.have);
        labelled = join-all s.mode i.object (objects_of items) i.labels (labels_of items) h.0.1 r.labelled;
        ordered = (subst (StandsInOrder i.object) (sym t.0) h.0.2, subst (AllStandInOrder (objects_of items)) (sym t.1) r.ordered);
        texts =
            ap (λ z. record { least = least_label z; text = text_at part i.object z } ∷ texts_of_all standing s T part (objects_of items) (drop (size i.object) (i.labels ++ labels_of items))) t.0
            ∙ ap (λ z. item_text part i ∷ texts_of_all standing s T part (objects_of items) z) t.1
            ∙ ap (λ ts. item_text part i ∷ ts) r.texts;
      }

  items-leasts : (part : ℕ) (items : List Item) → Assembled part items → leasts (objects_of items) (labels_of items) ≡ map key items
  items-leasts part items a = leasts-texts standing s T part (objects_of items) (labels_of items) ∙ ap (map least_at) a.texts ∙ keys part items
    where
      keys : (part : ℕ) (items : List Item) → map least_at (map (item_text part) items) ≡ map key items
      keys part [] = refl
      keys part (i ∷ items) = ap (λ ks. key i ∷ ks) (keys part items)

  -- items whose texts are the canonical ones of a list of objects
  record ItemsOf (part : ℕ) (os : Objects) (l : List ℕ) : Type 0 where
    items : List Item
    good : AllByRecursion (IsItemOf part) items
    texts : map (item_text part) items ≡ texts_of_all canonical s U part os l
    counted : added one_each items ≡ count os
    sized : added item_size items ≡ sizes os
    least : least_label (map key items) ≡ least_label l

  -- a list with one object of each part, in order
  record EachOf (parts : List ℕ) (os : Objects) (l : List ℕ) : Type 0 where
    objects : Objects
    labels : List ℕ
    have : HaveEach s R parts objects
    labelled : HasAllLabels s.mode objects labels
    ordered : AllStandInOrder objects labels
    texts : texts_of_each standing s T parts objects labels ≡ texts_of_each canonical s U parts os l
    sized : sizes objects ≡ sizes os
    least : least_label labels ≡ least_label l

  range-count : (items : List Item) (os : Objects) (g : Option Range) → added one_each items ≡ count os → IsInRange (count os) g → IsInRange (count (objects_of items)) g
  range-count items os g e h = subst (λ n. IsInRange n g) (sym (items-count items ∙ e)) h

  keys-least : (part : ℕ) (items : List Item) → least_label (map least_at (map (item_text part) items)) ≡ least_label (map key items)
  keys-least part [] = refl
  keys-least part (i ∷ items) = ap (lesser_label (key i)) (keys-least part items)

  module _ (class_canon : (c : ℕ) (o : Object) (l : List ℕ) → R c o → HasLabels s.mode o l → CanonOf (R c) s.mode (T c) o l (U c o l)) where
    mutual
      canon : (n : Option Node) (g : Option Range) (o : Object) (l : List ℕ) → Has s R n g o → HasLabels s.mode o l → CanonOf (Has s R n g) s.mode (text_by standing s T n) o l (text_by canonical s U n o l)
      canon (Some (Node.Class c)) g o l h x = let r = class_canon c o l h x in record { object = r.object; labels = r.labels; has = r.has; labelled = r.labelled; ordered = r.ordered; shown = r.shown; sized = r.sized; least = r.least }
      canon (Some (Node.Empty w)) g Object.Unit_ l h x = record { object = Object.Unit_; labels = l; has = tt; labelled = x; ordered = tt; shown = refl; sized = refl; least = refl }
      canon (Some (Node.Atom w)) g Object.Dot l h x = record { object = Object.Dot; labels = l; has = tt; labelled = x; ordered = tt; shown = refl; sized = refl; least = refl }
      canon (Some (Node.Union parts)) g (Object.Pick i o) l h x =
          let r = canon (node_of s (slice_get parts i)) (range_of s (slice_get parts i)) o l h (pick-labels s.mode i o l x) in
          record { object = Object.Pick i r.object; labels = r.labels; has = r.has; labelled = same-labels s.mode r.object (Object.Pick i r.object) r.labels refl r.labelled; ordered = r.ordered; shown = ap (λ t. decimal i ++ codes "." ++ t) r.shown; sized = r.sized; least = r.least }
      canon (Some (Node.Product parts)) g (Object.Tuple os) l h x =
          let r = canon-each parts os l h (part-labels s.mode (Object.Tuple os) os l refl x) in
          record { object = Object.Tuple r.objects; labels = r.labels; has = r.have; labelled = whole-labels s.mode (Object.Tuple r.objects) r.objects r.labels refl r.labelled; ordered = r.ordered; shown = ap (λ ts. codes "(" ++ spaced ts ++ codes ")") r.texts; sized = r.sized; least = r.least }
      canon (Some (Node.Seq part)) g (Object.SeqOf os) l h x =
          let r = canon-all part os l h.1 (part-labels s.mode (Object.SeqOf os) os l refl x) in
          let a = assemble part r.items r.good in
          record { object = Object.SeqOf (objects_of r.items); labels = labels_of r.items; has = (range-count r.items os g r.counted h.0, a.have); labelled = whole-labels s.mode (Object.SeqOf (objects_of r.items)) (objects_of r.items) (labels_of r.items) refl a.labelled; ordered = a.ordered; shown = ap (λ ts. codes "[" ++ spaced ts ++ codes "]") (a.texts ∙ r.texts); sized = items-size r.items ∙ r.sized; least = labels-least r.items ∙ r.least }
      canon (Some (Node.Set part)) g (Object.SetOf os) l h x =
          let r = canon-all part os l h.1 (part-labels s.mode (Object.SetOf os) os l refl x) in
          let items = items_in_order r.items in
          let a = assemble part items (order-all (IsItemOf part) r.items r.good) in
          record {
            object = Object.SetOf (objects_of items);
            labels = labels_of items;
            has = (range-count items os g (order-added one_each r.items ∙ r.counted) h.0, a.have);
            labelled = whole-labels s.mode (Object.SetOf (objects_of items)) (objects_of items) (labels_of items) refl a.labelled;
            ordered = (subst IsRising (sym (items-leasts part items a)) (order-rising r.items), a.ordered);
            shown = ap (λ ts. codes "{" ++ spaced ts ++ codes "}") (a.texts ∙ order-map (item_text part) (λ i. refl) r.items ∙ ap in_order r.texts);
            sized = items-size items ∙ order-added item_size r.items ∙ r.sized;
            least = labels-least items ∙ order-least r.items ∙ r.least;
          }
      canon (Some (Node.Cyc part)) g (Object.CycOf os) l h x =
          let r = canon-all part os l h.1 (part-labels s.mode (Object.CycOf os) os l refl x) in
          let items = items_rotated (least_label (map key r.items)) [] r.items in
          let a = assemble part items (rotate-all (IsItemOf part) (least_label (map key r.items)) [] r.items tt r.good) in
          let begins = least-same (texts_of_all canonical s U part os l) ∙ ap (λ ts. least_label (map least_at ts)) (sym r.texts) ∙ keys-least part r.items in
          record {
            object = Object.CycOf (objects_of items);
            labels = labels_of items;
            has = (range-count items os g (rotated-added one_each (least_label (map key r.items)) r.items ∙ r.counted) h.0, a.have);
            labelled = whole-labels s.mode (Object.CycOf (objects_of items)) (objects_of items) (labels_of items) refl a.labelled;
            ordered = (subst BeginsWithLeast (sym (items-leasts part items a)) (rotated-begins r.items), a.ordered);
            shown = ap (λ ts. codes "<" ++ spaced ts ++ codes ">") (a.texts ∙ rotate-map (item_text part) (λ i. refl) (least_label (map key r.items)) [] r.items ∙ ap (λ n. rotated_to n [] (map (item_text part) r.items)) (sym begins) ∙ ap (rotated_to (least_of (texts_of_all canonical s U part os l)) []) r.texts);
            sized = items-size items ∙ rotated-added item_size (least_label (map key r.items)) r.items ∙ r.sized;
            least = labels-least items ∙ rotate-least (least_label (map key r.items)) [] r.items ∙ r.least;
          }
      canon _ g _ l h x = elim h [ ]

      canon-each : (parts : List ℕ) (os : Objects) (l : List ℕ) → HaveEach s R parts os → HasAllLabels s.mode os l → EachOf parts os l
      canon-each [] none l h x = record { objects = none; labels = []; have = tt; labelled = no-label s.mode; ordered = tt; texts = refl; sized = refl; least = ap least_label (sym (none-labels s.mode l x)) }
      canon-each (part ∷ parts) (more o os) l h x =
          let c = canon (node_at s part) (range_at s part) o (take (size o) l) h.0 (first-labels s.mode o os l x) in
          let r = canon-each parts os (drop (size o) l) h.1 (other-labels s.mode o os l x) in
          let t = take-part s.mode c.object r.objects c.labels r.labels c.labelled r.labelled in
          record {
            objects = more c.object r.objects;
            labels = c.labels ++ r.labels;
            have = (c.has, r.have);
            labelled = join-all s.mode c.object r.objects c.labels r.labels c.labelled r.labelled;
            ordered = (subst (StandsInOrder c.object) (sym t.0) c.ordered, subst (AllStandInOrder r.objects) (sym t.1) r.ordered);
            texts =
                ap (λ z. record { least = least_label z; text = text_at part c.object z } ∷ texts_of_each standing s T parts r.objects (drop (size c.object) (c.labels ++ r.labels))) t.0
                ∙ ap (λ z. record { least = least_label c.labels; text = text_at part c.object c.labels } ∷ texts_of_each standing s T parts r.objects z) t.1
                ∙ ap (λ ts. record { least = least_label c.labels; text = text_at part c.object c.labels } ∷ ts) r.texts
                ∙ ap (λ n. record { least = n; text = text_at part c.object c.labels } ∷ texts_of_each canonical s U parts os (drop (size o) l)) c.least
                ∙ ap (λ z. record { least = least_label (take (size o) l); text = z } ∷ texts_of_each canonical s U parts os (drop (size o) l)) c.shown;
            sized = let a = c.sized in let b = r.sized in omega arith;
            least = least-append c.labels r.labels ∙ ap (λ n. lesser_label n (least_label r.labels)) c.least ∙ ap (lesser_label (least_label (take (size o) l))) r.least ∙ split-least (size o) l;
          }
      canon-each _ _ l h x = elim h [ ]

      canon-all : (part : ℕ) (os : Objects) (l : List ℕ) → HaveAll s R part os → HasAllLabels s.mode os l → ItemsOf part os l
      canon-all part none l h x = record { items = []; good = tt; texts = refl; counted = refl; sized = refl; least = ap least_label (sym (none-labels s.mode l x)) }
      canon-all part (more o os) l h x =
          let c = canon (node_at s part) (range_at s part) o (take (size o) l) h.0 (first-labels s.mode o os l x) in
          let r = canon-all part os (drop (size o) l) h.1 (other-labels s.mode o os l x) in
          record {
            items = record { object = c.object; labels = c.labels } ∷ r.items;
            good = ((c.has, c.labelled, c.ordered), r.good);
            texts =
                ap (λ ts. record { least = least_label c.labels; text = text_at part c.object c.labels } ∷ ts) r.texts
                ∙ ap (λ n. record { least = n; text = text_at part c.object c.labels } ∷ texts_of_all canonical s U part os (drop (size o) l)) c.least
                ∙ ap (λ z. record { least = least_label (take (size o) l); text = z } ∷ texts_of_all canonical s U part os (drop (size o) l)) c.shown;
            counted = let e = r.counted in omega arith;
            sized = let a = c.sized in let b = r.sized in omega arith;
            least = ap (λ n. lesser_label n (least_label (map key r.items))) c.least ∙ ap (lesser_label (least_label (take (size o) l))) r.least ∙ split-least (size o) l;
          }

canon-class : (s : Spec) (h c : ℕ) (o : Object) (l : List ℕ) → ClassHas s h c o → HasLabels s.mode o l → CanonOf (ClassHas s h c) s.mode (class_text standing s h c) o l (class_text canonical s h c o l)
canon-class s zero c o l k x = elim k [ ]
canon-class s (suc h) c o l k x = canon s (ClassHas s h) (class_text standing s h) (class_text canonical s h) (canon-class s h) (node_of s (body_of s c)) (range_of s (body_of s c)) o l k x

-- a text that is the canonical one of what is read from it is read in order
pub canonical-ordered : (s : Spec) → IsPlain s → (e : ℕ) (text : List ℕ) (o : Object) (l : List ℕ) (b : Belongs s e o) → IsObjectText s e text o l → text ≡ object_text s e o b l → StandsInOrder o l
canonical-ordered s plain e text o l b a eq =
    let c = canon s (ClassHas s b.0) (class_text standing s b.0) (class_text canonical s b.0) (canon-class s b.0) (node_at s e) (range_at s e) o l b.1 a.labelled in
    let t = one_reading s plain e text o c.object l c.labels a (record { belongs = (b.0, c.has); labelled = c.labelled; spelled = eq ∙ sym c.shown }) in
    subst (λ z. StandsInOrder z l) (sym t.0) (subst (StandsInOrder c.object) (sym t.1) c.ordered)

-- and the other way round
pub ordered-canonical : (s : Spec) (e : ℕ) (text : List ℕ) (o : Object) (l : List ℕ) (b : Belongs s e o) → IsObjectText s e text o l → StandsInOrder o l → text ≡ object_text s e o b l
ordered-canonical s e text o l b a k = a.spelled ∙ one_text standing s e o l a.belongs b ∙ sym (ordered-printed s e o l b k)
