-- An object in canonical order is of the same node and has the object's canonical text as its text as it stands.
use Rattle.std.proofs.Common.{◌≡◌, ℕ, zero, suc, ◌+◌, ◌≤◌, List, [], ◌∷◌, ◌++◌, map, take, drop, arith, refl, sym, ◌∙◌, ap, subst, Option, Some, length-append, Bool, true, false}
use Rattle.std.specs.Prelude.{slice_get, decimal, codes, nat_le, nat_eq, if◌then◌else◌}
use Rattle.std.specs.List.{AllByRecursion}
use Rattle.std.proofs.lemmas.List.{take-append-drop, map-append}
use Rattle.bz_model.specs.Spec.{Spec, Mode, Node, Range, node_at, range_at, node_of, range_of, body_of, IsInRange}
use Rattle.bz_model.specs.Object.{Object, Objects, none, more, count, Has, HaveEach, HaveAll, ClassHas, Belongs}
use Rattle.bz_model.specs.Object.Object.{Unit_, Dot, Pick, Tuple, SeqOf, SetOf, CycOf}
use Rattle.bz_model.specs.Measures.{size, sizes}
use Rattle.bz_model.specs.ObjectText.{Arrangement, PartText, in_order, rotated_to, least_of, lesser_label, least_label, HasLabels, IsObjectText, text_by, texts_of_each, texts_of_all, class_text, object_text, spaced}
use Rattle.bz_laws.specs.InOrder.{leasts, IsRising, BeginsWithLeast, StandsInOrder, AllStandInOrder}
use Rattle.bz_laws.proofs.Nodes.{HasAt}
use Rattle.bz_laws.proofs.Samples.{AllByRecursion-append}
use Rattle.bz_laws.proofs.Readings.{HasAllLabels, first-labels, other-labels, none-labels, part-labels, pick-labels}
use Rattle.bz_laws.proofs.Ordered.{least_at, least-same, leasts-texts}
use Rattle.bz_laws.proofs.Items.{Item, key, objects_of, labels_of, labels-least, least-append, added, put_item, items_in_order, items_rotated, order-map, rotate-map, order-all, rotate-all, order-added, rotated-added, order-least, rotate-least, order-rising, rotated-begins}
use Rattle.object_text.specs.Arranged.{LabelledObject, objects_in, labels_in, least_in, put_part, by_least_label, from_label, from_least_label, arranged, arranged_each}
use Rattle.object_text.proofs.ObjectTexts.{standing, same-labels, parts-apart}

abbrev canonical : Arrangement
canonical = Arrangement.Canonical

-- The same in the words of the laws.
abbrev item : LabelledObject → Item
item p = record { object = p.object; labels = p.labels }

objects-same : (ps : List LabelledObject) → objects_in ps ≡ objects_of (map item ps)
objects-same [] = refl
objects-same (p ∷ ps) = ap (more p.object) (objects-same ps)

labels-same : (ps : List LabelledObject) → labels_in ps ≡ labels_of (map item ps)
labels-same [] = refl
labels-same (p ∷ ps) = ap (λ l. p.labels ++ l) (labels-same ps)

put-same : (p : LabelledObject) (ps : List LabelledObject) → map item (put_part p ps) ≡ put_item (item p) (map item ps)
put-same p [] = refl
put-same p (q ∷ ps) = go (nat_le (least_in p) (least_in q)) (put-same p ps)
  where
    go : (b : Bool) → map item (put_part p ps) ≡ put_item (item p) (map item ps) → map item (if b then p ∷ q ∷ ps else q ∷ put_part p ps) ≡ (if b then item p ∷ item q ∷ map item ps else item q ∷ put_item (item p) (map item ps))
    go true h = refl
    go false h = ap (λ is. item q ∷ is) h

order-same : (ps : List LabelledObject) → map item (by_least_label ps) ≡ items_in_order (map item ps)
order-same [] = refl
order-same (p ∷ ps) = put-same p (by_least_label ps) ∙ ap (put_item (item p)) (order-same ps)

rotate-same : (label : ℕ) (seen ps : List LabelledObject) → map item (from_label label seen ps) ≡ items_rotated label (map item seen) (map item ps)
rotate-same label seen [] = refl
rotate-same label seen (p ∷ ps) = go (nat_eq (least_in p) label) (rotate-same label (seen ++ p ∷ []) ps ∙ ap (λ is. items_rotated label is (map item ps)) (map-append item seen (p ∷ [])))
  where
    go : (b : Bool) → map item (from_label label (seen ++ p ∷ []) ps) ≡ items_rotated label (map item seen ++ item p ∷ []) (map item ps) → map item (if b then (p ∷ ps) ++ seen else from_label label (seen ++ p ∷ []) ps) ≡ (if b then (item p ∷ map item ps) ++ map item seen else items_rotated label (map item seen ++ item p ∷ []) (map item ps))
    go true h = map-append item (p ∷ ps) seen
    go false h = h

leasts-same : (ps : List LabelledObject) → map least_in ps ≡ map key (map item ps)
leasts-same [] = refl
leasts-same (p ∷ ps) = ap (λ ls. least_in p ∷ ls) (leasts-same ps)

-- An object in canonical order, in the words of the laws.
abbrev mutual
  pub form : Object → List ℕ → Item
  form Unit_ l = record { object = Unit_; labels = l }
  form Dot l = record { object = Dot; labels = l }
  form (Pick i o) l = record { object = Pick i (form o l).object; labels = (form o l).labels }
  form (Tuple os) l = record { object = Tuple (objects_of (forms os l)); labels = labels_of (forms os l) }
  form (SeqOf os) l = record { object = SeqOf (objects_of (forms os l)); labels = labels_of (forms os l) }
  form (SetOf os) l = record { object = SetOf (objects_of (items_in_order (forms os l))); labels = labels_of (items_in_order (forms os l)) }
  form (CycOf os) l = record { object = CycOf (objects_of (items_rotated (least_label (map key (forms os l))) [] (forms os l))); labels = labels_of (items_rotated (least_label (map key (forms os l))) [] (forms os l)) }

  pub forms : Objects → List ℕ → List Item
  forms none l = []
  forms (more o os) l = form o (take (size o) l) ∷ forms os (drop (size o) l)

made-same : (f : Objects → Object) (ps : List LabelledObject) (is : List Item) → map item ps ≡ is → item (record { object = f (objects_in ps); labels = labels_in ps }) ≡ record { object = f (objects_of is); labels = labels_of is }
made-same f ps is e =
    ap (λ os. record { object = f os; labels = labels_in ps }) (objects-same ps ∙ ap objects_of e)
    ∙ ap (λ l. record { object = f (objects_of is); labels = l }) (labels-same ps ∙ ap labels_of e)

mutual
  pub form-same : (o : Object) (l : List ℕ) → item (arranged o l) ≡ form o l
  form-same Unit_ l = refl
  form-same Dot l = refl
  form-same (Pick i o) l = ap (λ (x : Item). record { object = Pick i x.object; labels = x.labels }) (form-same o l)
  form-same (Tuple os) l = made-same Tuple (arranged_each os l) (forms os l) (forms-same os l)
  form-same (SeqOf os) l = made-same SeqOf (arranged_each os l) (forms os l) (forms-same os l)
  form-same (SetOf os) l = made-same SetOf (by_least_label (arranged_each os l)) (items_in_order (forms os l)) (order-same (arranged_each os l) ∙ ap items_in_order (forms-same os l))
  form-same (CycOf os) l =
      made-same CycOf (from_least_label (arranged_each os l)) (items_rotated (least_label (map key (forms os l))) [] (forms os l))
      (rotate-same (least_label (map least_in (arranged_each os l))) [] (arranged_each os l)
      ∙ ap (λ is. items_rotated (least_label (map least_in (arranged_each os l))) [] is) (forms-same os l)
      ∙ ap (λ n. items_rotated (least_label n) [] (forms os l)) (leasts-same (arranged_each os l) ∙ ap (map key) (forms-same os l)))

  forms-same : (os : Objects) (l : List ℕ) → map item (arranged_each os l) ≡ forms os l
  forms-same none l = refl
  forms-same (more o os) l = ap (λ x. x ∷ map item (arranged_each os (drop (size o) l))) (form-same o (take (size o) l)) ∙ ap (λ xs. form o (take (size o) l) ∷ xs) (forms-same os (drop (size o) l))

-- An item that is of a node, stands in order, and has this text.
record IsForm (P : Object → Type 0) (mode : Mode) (t : Object → List ℕ → List ℕ) (i : Item) (o : Object) (l text : List ℕ) : Type 0 where
  has : P i.object
  labelled : HasLabels mode i.object i.labels
  ordered : StandsInOrder i.object i.labels
  shown : t i.object i.labels ≡ text
  sized : size i.object ≡ size o
  least : least_label i.labels ≡ least_label l

no-label : (mode : Mode) → HasAllLabels mode none []
no-label Mode.Unlabelled = refl
no-label Mode.Labelled = (refl, tt)

join-all : (mode : Mode) (o : Object) (os : Objects) (l rest : List ℕ) → HasLabels mode o l → HasAllLabels mode os rest → HasAllLabels mode (more o os) (l ++ rest)
join-all Mode.Unlabelled o os l rest h k = ap (λ z. z ++ rest) h ∙ k
join-all Mode.Labelled o os l rest h k = (let a = h.0 in let b = k.0 in omega (arith, length-append l rest), AllByRecursion-append (λ label. (1 ≤ label) × (label ≤ 1000000)) l rest h.1 k.1)

picked : (mode : Mode) (i : ℕ) (o : Object) (l : List ℕ) → HasLabels mode o l → HasLabels mode (Pick i o) l
picked Mode.Unlabelled i o l h = h
picked Mode.Labelled i o l h = h

abbrev item_size : Item → ℕ
item_size i = size i.object

abbrev one_each : Item → ℕ
one_each i = 1

items-size : (items : List Item) → sizes (objects_of items) ≡ added item_size items
items-size [] = refl
items-size (i ∷ items) = ap (λ n. size i.object + n) (items-size items)

items-count : (items : List Item) → count (objects_of items) ≡ added one_each items
items-count [] = refl
items-count (i ∷ items) = let e = items-count items in omega arith

split-least : (n : ℕ) (l : List ℕ) → lesser_label (least_label (take n l)) (least_label (drop n l)) ≡ least_label l
split-least n l = sym (least-append (take n l) (drop n l)) ∙ ap least_label (take-append-drop n l)

module _ (s : Spec) (R : ℕ → Object → Type 0) (T U : ℕ → Object → List ℕ → List ℕ) where
  abbrev text_at : ℕ → Object → List ℕ → List ℕ
  text_at part o l = text_by standing s T (node_at s part) o l

  -- an item of the part, in order
  abbrev IsItemOf : ℕ → Item → Type 0
  IsItemOf part i = HasAt s R part i.object × HasLabels s.mode i.object i.labels × StandsInOrder i.object i.labels

  abbrev item_text : ℕ → Item → PartText
  item_text part i = record { least = least_label i.labels; text = text_at part i.object i.labels }

  -- a list of items as one list of objects with one list of labels
  record Assembled (part : ℕ) (items : List Item) : Type 0 where
    have : HaveAll s R part (objects_of items)
    labelled : HasAllLabels s.mode (objects_of items) (labels_of items)
    ordered : AllStandInOrder (objects_of items) (labels_of items)
    texts : texts_of_all standing s T part (objects_of items) (labels_of items) ≡ map (item_text part) items

  assemble : (part : ℕ) (items : List Item) → AllByRecursion (IsItemOf part) items → Assembled part items
  assemble part [] h = record { have = tt; labelled = no-label s.mode; ordered = tt; texts = refl }
  assemble part (i ∷ items) h =
      let r = assemble part items h.1 in
      let t = parts-apart s.mode i.object (objects_of items) i.labels (labels_of items) h.0.1 r.labelled in
      record {
        have = (h.0.0, r.have);
        labelled = join-all s.mode i.object (objects_of items) i.labels (labels_of items) h.0.1 r.labelled;
        ordered = (subst (StandsInOrder i.object) (sym t.0) h.0.2, subst (AllStandInOrder (objects_of items)) (sym t.1) r.ordered);
        texts =
            ap (λ z. record { least = least_label z; text = text_at part i.object z } ∷ texts_of_all standing s T part (objects_of items) (drop (size i.object) (i.labels ++ labels_of items))) t.0
            ∙ ap (λ z. item_text part i ∷ texts_of_all standing s T part (objects_of items) z) t.1
            ∙ ap (λ ts. item_text part i ∷ ts) r.texts;
      }

  items-leasts : (part : ℕ) (items : List Item) → Assembled part items → leasts (objects_of items) (labels_of items) ≡ map key items
  items-leasts part items a = leasts-texts standing s T part (objects_of items) (labels_of items) ∙ ap (map least_at) a.texts ∙ keys part items
    where
      keys : (part : ℕ) (items : List Item) → map least_at (map (item_text part) items) ≡ map key items
      keys part [] = refl
      keys part (i ∷ items) = ap (λ ks. key i ∷ ks) (keys part items)

  -- items whose texts are the canonical ones of a list of objects
  record ItemsOf (part : ℕ) (items : List Item) (os : Objects) (l : List ℕ) : Type 0 where
    good : AllByRecursion (IsItemOf part) items
    texts : map (item_text part) items ≡ texts_of_all canonical s U part os l
    counted : added one_each items ≡ count os
    sized : added item_size items ≡ sizes os
    least : least_label (map key items) ≡ least_label l

  -- the same of one object of each part, in order
  record EachOf (parts : List ℕ) (items : List Item) (os : Objects) (l : List ℕ) : Type 0 where
    have : HaveEach s R parts (objects_of items)
    labelled : HasAllLabels s.mode (objects_of items) (labels_of items)
    ordered : AllStandInOrder (objects_of items) (labels_of items)
    texts : texts_of_each standing s T parts (objects_of items) (labels_of items) ≡ texts_of_each canonical s U parts os l
    sized : sizes (objects_of items) ≡ sizes os
    least : least_label (labels_of items) ≡ least_label l

  range-count : (items : List Item) (os : Objects) (g : Option Range) → added one_each items ≡ count os → IsInRange (count os) g → IsInRange (count (objects_of items)) g
  range-count items os g e h = subst (λ n. IsInRange n g) (sym (items-count items ∙ e)) h

  keys-least : (part : ℕ) (items : List Item) → least_label (map least_at (map (item_text part) items)) ≡ least_label (map key items)
  keys-least part [] = refl
  keys-least part (i ∷ items) = ap (lesser_label (key i)) (keys-least part items)

  module _ (class_form : (c : ℕ) (o : Object) (l : List ℕ) → R c o → HasLabels s.mode o l → IsForm (R c) s.mode (T c) (form o l) o l (U c o l)) where
    mutual
      is-form : (n : Option Node) (g : Option Range) (o : Object) (l : List ℕ) → Has s R n g o → HasLabels s.mode o l → IsForm (Has s R n g) s.mode (text_by standing s T n) (form o l) o l (text_by canonical s U n o l)
      is-form (Some (Node.Class c)) g o l h x = let r = class_form c o l h x in record { has = r.has; labelled = r.labelled; ordered = r.ordered; shown = r.shown; sized = r.sized; least = r.least }
      is-form (Some (Node.Empty w)) g Unit_ l h x = record { has = tt; labelled = x; ordered = tt; shown = refl; sized = refl; least = refl }
      is-form (Some (Node.Atom w)) g Dot l h x = record { has = tt; labelled = x; ordered = tt; shown = refl; sized = refl; least = refl }
      is-form (Some (Node.Union parts)) g (Pick i o) l h x =
          let r = is-form (node_of s (slice_get parts i)) (range_of s (slice_get parts i)) o l h (pick-labels s.mode i o l x) in
          record { has = r.has; labelled = picked s.mode i (form o l).object (form o l).labels r.labelled; ordered = r.ordered; shown = ap (λ t. decimal i ++ codes "." ++ t) r.shown; sized = r.sized; least = r.least }
      is-form (Some (Node.Product parts)) g (Tuple os) l h x =
          let r = is-each parts os l h (part-labels s.mode (Tuple os) os l refl x) in
          record { has = r.have; labelled = same-labels s.mode (Tuple (objects_of (forms os l))) (objects_of (forms os l)) (labels_of (forms os l)) refl r.labelled; ordered = r.ordered; shown = ap (λ ts. codes "(" ++ spaced ts ++ codes ")") r.texts; sized = r.sized; least = r.least }
      is-form (Some (Node.Seq part)) g (SeqOf os) l h x =
          let r = is-all part os l h.1 (part-labels s.mode (SeqOf os) os l refl x) in
          let a = assemble part (forms os l) r.good in
          record { has = (range-count (forms os l) os g r.counted h.0, a.have); labelled = same-labels s.mode (SeqOf (objects_of (forms os l))) (objects_of (forms os l)) (labels_of (forms os l)) refl a.labelled; ordered = a.ordered; shown = ap (λ ts. codes "[" ++ spaced ts ++ codes "]") (a.texts ∙ r.texts); sized = items-size (forms os l) ∙ r.sized; least = labels-least (forms os l) ∙ r.least }
      is-form (Some (Node.Set part)) g (SetOf os) l h x =
          let r = is-all part os l h.1 (part-labels s.mode (SetOf os) os l refl x) in
          let a = assemble part (items_in_order (forms os l)) (order-all (IsItemOf part) (forms os l) r.good) in
          record {
            has = (range-count (items_in_order (forms os l)) os g (order-added one_each (forms os l) ∙ r.counted) h.0, a.have);
            labelled = same-labels s.mode (SetOf (objects_of (items_in_order (forms os l)))) (objects_of (items_in_order (forms os l))) (labels_of (items_in_order (forms os l))) refl a.labelled;
            ordered = (subst IsRising (sym (items-leasts part (items_in_order (forms os l)) a)) (order-rising (forms os l)), a.ordered);
            shown = ap (λ ts. codes "{" ++ spaced ts ++ codes "}") (a.texts ∙ order-map (item_text part) (λ i. refl) (forms os l) ∙ ap in_order r.texts);
            sized = items-size (items_in_order (forms os l)) ∙ order-added item_size (forms os l) ∙ r.sized;
            least = labels-least (items_in_order (forms os l)) ∙ order-least (forms os l) ∙ r.least;
          }
      is-form (Some (Node.Cyc part)) g (CycOf os) l h x =
          let r = is-all part os l h.1 (part-labels s.mode (CycOf os) os l refl x) in
          let first : ℕ = least_label (map key (forms os l)) in
          let items : List Item = items_rotated (least_label (map key (forms os l))) [] (forms os l) in
          let a = assemble part (items_rotated (least_label (map key (forms os l))) [] (forms os l)) (rotate-all (IsItemOf part) (least_label (map key (forms os l))) [] (forms os l) tt r.good) in
          let begins = least-same (texts_of_all canonical s U part os l) ∙ ap (λ ts. least_label (map least_at ts)) (sym r.texts) ∙ keys-least part (forms os l) in
          record {
            has = (range-count items os g (rotated-added one_each first (forms os l) ∙ r.counted) h.0, a.have);
            labelled = same-labels s.mode (CycOf (objects_of items)) (objects_of items) (labels_of items) refl a.labelled;
            ordered = (subst BeginsWithLeast (sym (items-leasts part items a)) (rotated-begins (forms os l)), a.ordered);
            shown = ap (λ ts. codes "<" ++ spaced ts ++ codes ">") (a.texts ∙ rotate-map (item_text part) (λ i. refl) first [] (forms os l) ∙ ap (λ n. rotated_to n [] (map (item_text part) (forms os l))) (sym begins) ∙ ap (rotated_to (least_of (texts_of_all canonical s U part os l)) []) r.texts);
            sized = items-size items ∙ rotated-added item_size first (forms os l) ∙ r.sized;
            least = labels-least items ∙ rotate-least first [] (forms os l) ∙ r.least;
          }
      is-form _ g _ l h x = elim h [ ]

      is-each : (parts : List ℕ) (os : Objects) (l : List ℕ) → HaveEach s R parts os → HasAllLabels s.mode os l → EachOf parts (forms os l) os l
      is-each [] none l h x = record { have = tt; labelled = no-label s.mode; ordered = tt; texts = refl; sized = refl; least = ap least_label (sym (none-labels s.mode l x)) }
      is-each (part ∷ parts) (more o os) l h x =
          let c = is-form (node_at s part) (range_at s part) o (take (size o) l) h.0 (first-labels s.mode o os l x) in
          let r = is-each parts os (drop (size o) l) h.1 (other-labels s.mode o os l x) in
          let i : Item = form o (take (size o) l) in
          let is : List Item = forms os (drop (size o) l) in
          let t = parts-apart s.mode (form o (take (size o) l)).object (objects_of is) (form o (take (size o) l)).labels (labels_of is) c.labelled r.labelled in
          record {
            have = (c.has, r.have);
            labelled = join-all s.mode (form o (take (size o) l)).object (objects_of is) (form o (take (size o) l)).labels (labels_of is) c.labelled r.labelled;
            ordered = (subst (StandsInOrder (form o (take (size o) l)).object) (sym t.0) c.ordered, subst (AllStandInOrder (objects_of is)) (sym t.1) r.ordered);
            texts =
                ap (λ z. record { least = least_label z; text = text_at part (form o (take (size o) l)).object z } ∷ texts_of_each standing s T parts (objects_of is) (drop (size (form o (take (size o) l)).object) ((form o (take (size o) l)).labels ++ labels_of is))) t.0
                ∙ ap (λ z. record { least = least_label (form o (take (size o) l)).labels; text = text_at part (form o (take (size o) l)).object (form o (take (size o) l)).labels } ∷ texts_of_each standing s T parts (objects_of is) z) t.1
                ∙ ap (λ ts. record { least = least_label (form o (take (size o) l)).labels; text = text_at part (form o (take (size o) l)).object (form o (take (size o) l)).labels } ∷ ts) r.texts
                ∙ ap (λ n. record { least = n; text = text_at part (form o (take (size o) l)).object (form o (take (size o) l)).labels } ∷ texts_of_each canonical s U parts os (drop (size o) l)) c.least
                ∙ ap (λ z. record { least = least_label (take (size o) l); text = z } ∷ texts_of_each canonical s U parts os (drop (size o) l)) c.shown;
            sized = let a = c.sized in let b = r.sized in omega arith;
            least = least-append (form o (take (size o) l)).labels (labels_of is) ∙ ap (λ n. lesser_label n (least_label (labels_of is))) c.least ∙ ap (lesser_label (least_label (take (size o) l))) r.least ∙ split-least (size o) l;
          }
      is-each _ _ l h x = elim h [ ]

      is-all : (part : ℕ) (os : Objects) (l : List ℕ) → HaveAll s R part os → HasAllLabels s.mode os l → ItemsOf part (forms os l) os l
      is-all part none l h x = record { good = tt; texts = refl; counted = refl; sized = refl; least = ap least_label (sym (none-labels s.mode l x)) }
      is-all part (more o os) l h x =
          let c = is-form (node_at s part) (range_at s part) o (take (size o) l) h.0 (first-labels s.mode o os l x) in
          let r = is-all part os (drop (size o) l) h.1 (other-labels s.mode o os l x) in
          record {
            good = ((c.has, c.labelled, c.ordered), r.good);
            texts =
                ap (λ ts. record { least = least_label (form o (take (size o) l)).labels; text = text_at part (form o (take (size o) l)).object (form o (take (size o) l)).labels } ∷ ts) r.texts
                ∙ ap (λ n. record { least = n; text = text_at part (form o (take (size o) l)).object (form o (take (size o) l)).labels } ∷ texts_of_all canonical s U part os (drop (size o) l)) c.least
                ∙ ap (λ z. record { least = least_label (take (size o) l); text = z } ∷ texts_of_all canonical s U part os (drop (size o) l)) c.shown;
            counted = let e = r.counted in omega arith;
            sized = let a = c.sized in let b = r.sized in omega arith;
            least = ap (λ n. lesser_label n (least_label (map key (forms os (drop (size o) l))))) c.least ∙ ap (lesser_label (least_label (take (size o) l))) r.least ∙ split-least (size o) l;
          }

is-class : (s : Spec) (h c : ℕ) (o : Object) (l : List ℕ) → ClassHas s h c o → HasLabels s.mode o l → IsForm (ClassHas s h c) s.mode (class_text standing s h c) (form o l) o l (class_text canonical s h c o l)
is-class s zero c o l k x = elim k [ ]
is-class s (suc h) c o l k x = is-form s (ClassHas s h) (class_text standing s h) (class_text canonical s h) (is-class s h) (node_of s (body_of s c)) (range_of s (body_of s c)) o l k x

-- What a printed text is read as.
pub record IsArranged (s : Spec) (e : ℕ) (o : Object) (l : List ℕ) (b : Belongs s e o) (i : LabelledObject) : Type 0 where
  pub is_text : IsObjectText s e (object_text s e o b l) i.object i.labels
  pub ordered : StandsInOrder i.object i.labels
  pub sized : size i.object ≡ size o

-- An object with labels, once arranged in canonical order, is one of the same node and size, stands
-- in order, and has the printed text.
pub is-arranged : (s : Spec) (e : ℕ) (o : Object) (l : List ℕ) (b : Belongs s e o) → HasLabels s.mode o l → IsArranged s e o l b (arranged o l)
is-arranged s e o l b x =
    let c = is-form s (ClassHas s b.0) (class_text standing s b.0) (class_text canonical s b.0) (is-class s b.0) (node_at s e) (range_at s e) o l b.1 x in
    let f = form-same o l in
    let there : IsArranged s e o l b (record { object = (form o l).object; labels = (form o l).labels }) =
    record { is_text = record { belongs = (b.0, c.has); labelled = c.labelled; spelled = sym c.shown }; ordered = c.ordered; sized = c.sized } in
    subst (IsArranged s e o l b) (sym (ap (λ (i : Item). record { object = i.object; labels = i.labels }) f)) there
