-- Parts with their labels, put in order and rotated as their texts are.
use Rattle.std.proofs.Common.{◌≡◌, ◌≢◌, ℕ, zero, suc, ◌+◌, ◌≤◌, ◌<◌, ◌⊎◌, inl, inr, min, List, [], ◌∷◌, ◌++◌, map, arith, refl, sym, ◌∙◌, ap, subst}
use Rattle.std.specs.Prelude.{Bool, true, false, nat_le, nat_eq, if◌then◌else◌}
use Rattle.std.specs.List.{AllByRecursion}
use Rattle.std.proofs.lemmas.Bool.Decides.{leb_tells, eqb_tells}
use Rattle.std.proofs.lemmas.List.{map-append}
use Rattle.bz_model.specs.Object.{Object, Objects, none, more}
use Rattle.bz_model.specs.ObjectText.{PartText, put, in_order, rotated_to, lesser_label, least_label}
use Rattle.bz_laws.specs.Lists.{IsOneOf}
use Rattle.bz_laws.specs.InOrder.{IsRising, IsRisingFrom, BeginsWithLeast}
use Rattle.bz_laws.proofs.Samples.{AllByRecursion-append}

-- the lesser of two labels
min-suc : (a b : ℕ) → min (suc a) (suc b) ≡ suc (min a b)
min-suc a b = omega arith

-- The lesser of a label and no label, for which 0 stands, is the label.
pub lesser-zero : (a : ℕ) → lesser_label a 0 ≡ a
lesser-zero zero = refl
lesser-zero (suc a) = refl

pub lesser-comm : (a b : ℕ) → lesser_label a b ≡ lesser_label b a
lesser-comm zero b = sym (lesser-zero b)
lesser-comm (suc a) zero = refl
lesser-comm (suc a) (suc b) = omega arith

-- Taking the lesser of labels, 0 standing for none, is associative.
pub lesser-assoc : (a b c : ℕ) → lesser_label (lesser_label a b) c ≡ lesser_label a (lesser_label b c)
lesser-assoc zero b c = refl
lesser-assoc (suc a) zero c = refl
lesser-assoc (suc a) (suc b) zero = lesser-zero (min (suc a) (suc b))
lesser-assoc (suc a) (suc b) (suc c) =
    let r : min (suc (min a b)) (suc c) ≡ min (suc a) (suc (min b c)) = omega arith in
    ap (λ z. lesser_label z (suc c)) (min-suc a b) ∙ r ∙ ap (lesser_label (suc a)) (sym (min-suc b c))

pub lesser-swap : (a b c : ℕ) → lesser_label a (lesser_label b c) ≡ lesser_label b (lesser_label a c)
lesser-swap a b c = sym (lesser-assoc a b c) ∙ ap (λ z. lesser_label z c) (lesser-comm a b) ∙ lesser-assoc b a c

lesser-is : (a b : ℕ) → (lesser_label a b ≡ a) ⊎ (lesser_label a b ≡ b)
lesser-is zero b = inr refl
lesser-is (suc a) zero = inl refl
lesser-is (suc a) (suc b) = go (leb_tells (suc a) (suc b))
  where
    go : ((nat_le (suc a) (suc b) ≡ true) × (suc a ≤ suc b)) ⊎ ((nat_le (suc a) (suc b) ≡ false) × (suc b < suc a)) → (min (suc a) (suc b) ≡ suc a) ⊎ (min (suc a) (suc b) ≡ suc b)
    go (inl k) = let le = k.1 in inl (omega arith)
    go (inr k) = let lt = k.1 in inr (omega arith)

-- The least label of two lists together is the lesser of their least labels.
pub least-append : (l m : List ℕ) → least_label (l ++ m) ≡ lesser_label (least_label l) (least_label m)
least-append [] m = refl
least-append (a ∷ l) m = ap (lesser_label a) (least-append l m) ∙ sym (lesser-assoc a (least_label l) (least_label m))

-- the least of some numbers is one of them
least-attained : (a : ℕ) (numbers : List ℕ) → IsOneOf (a ∷ numbers) (least_label (a ∷ numbers))
least-attained a [] = inl (lesser-zero a)
least-attained a (b ∷ numbers) = elim (lesser-is a (least_label (b ∷ numbers))) [ inl e ↦ inl e | inr e ↦ inr (subst (IsOneOf (b ∷ numbers)) (sym e) (least-attained b numbers)) ]

-- an object with its labels
pub record Item : Type 0 where
  pub object : Object
  pub labels : List ℕ

abbrev pub key : Item → ℕ
key i = least_label i.labels

abbrev pub objects_of : List Item → Objects
objects_of [] = none
objects_of (i ∷ items) = more i.object (objects_of items)

abbrev pub labels_of : List Item → List ℕ
labels_of [] = []
labels_of (i ∷ items) = i.labels ++ labels_of items

-- The least of all labels of some items is the least of the items' own least labels.
pub labels-least : (items : List Item) → least_label (labels_of items) ≡ least_label (map key items)
labels-least [] = refl
labels-least (i ∷ items) = least-append i.labels (labels_of items) ∙ ap (lesser_label (key i)) (labels-least items)

-- a measure of each item, added
abbrev pub added : (Item → ℕ) → List Item → ℕ
added m [] = 0
added m (i ∷ items) = m i + added m items

-- in order, as texts are put in order
abbrev pub put_item : Item → List Item → List Item
put_item i [] = i ∷ []
put_item i (j ∷ items) = if nat_le (key i) (key j) then i ∷ j ∷ items else j ∷ put_item i items

abbrev pub items_in_order : List Item → List Item
items_in_order [] = []
items_in_order (i ∷ items) = put_item i (items_in_order items)

-- rotated, as texts are rotated
abbrev pub items_rotated : ℕ → List Item → List Item → List Item
items_rotated label seen [] = seen
items_rotated label seen (i ∷ items) = if nat_eq (key i) label then (i ∷ items) ++ seen else items_rotated label (seen ++ i ∷ []) items

module _ (f : Item → PartText) (keeps : (i : Item) → (f i).least ≡ key i) where
  if-map : (b : Bool) (x y : List Item) (z w : List PartText) → map f x ≡ z → map f y ≡ w → map f (if b then x else y) ≡ (if b then z else w)
  if-map true x y z w p q = p
  if-map false x y z w p q = q

  pub put-map : (i : Item) (items : List Item) → map f (put_item i items) ≡ put (f i) (map f items)
  put-map i [] = refl
  put-map i (j ∷ items) =
      if-map (nat_le (key i) (key j)) (i ∷ j ∷ items) (j ∷ put_item i items) (f i ∷ f j ∷ map f items) (f j ∷ put (f i) (map f items)) refl (ap (λ ps. f j ∷ ps) (put-map i items))
      ∙ ap (λ a. if nat_le a (key j) then f i ∷ f j ∷ map f items else f j ∷ put (f i) (map f items)) (sym (keeps i))
      ∙ ap (λ b. if nat_le (f i).least b then f i ∷ f j ∷ map f items else f j ∷ put (f i) (map f items)) (sym (keeps j))

  pub order-map : (items : List Item) → map f (items_in_order items) ≡ in_order (map f items)
  order-map [] = refl
  order-map (i ∷ items) = put-map i (items_in_order items) ∙ ap (put (f i)) (order-map items)

  pub rotate-map : (label : ℕ) (seen items : List Item) → map f (items_rotated label seen items) ≡ rotated_to label (map f seen) (map f items)
  rotate-map label seen [] = refl
  rotate-map label seen (i ∷ items) =
      if-map (nat_eq (key i) label) ((i ∷ items) ++ seen) (items_rotated label (seen ++ i ∷ []) items) ((f i ∷ map f items) ++ map f seen) (rotated_to label (map f seen ++ f i ∷ []) (map f items)) (map-append f (i ∷ items) seen) (rotate-map label (seen ++ i ∷ []) items ∙ ap (λ ps. rotated_to label ps (map f items)) (map-append f seen (i ∷ [])))
      ∙ ap (λ a. if nat_eq a label then (f i ∷ map f items) ++ map f seen else rotated_to label (map f seen ++ f i ∷ []) (map f items)) (sym (keeps i))

-- a property of every item, and a measure, are kept
module _ (P : Item → Type 0) where
  put-all : (i : Item) (items : List Item) → P i → AllByRecursion P items → AllByRecursion P (put_item i items)
  put-all i [] p h = (p, tt)
  put-all i (j ∷ items) p h = go (nat_le (key i) (key j)) (put-all i items p h.1)
    where
      go : (b : Bool) → AllByRecursion P (put_item i items) → AllByRecursion P (if b then i ∷ j ∷ items else j ∷ put_item i items)
      go true k = (p, h)
      go false k = (h.0, k)

  pub order-all : (items : List Item) → AllByRecursion P items → AllByRecursion P (items_in_order items)
  order-all [] h = tt
  order-all (i ∷ items) h = put-all i (items_in_order items) h.0 (order-all items h.1)

  pub rotate-all : (label : ℕ) (seen items : List Item) → AllByRecursion P seen → AllByRecursion P items → AllByRecursion P (items_rotated label seen items)
  rotate-all label seen [] g h = g
  rotate-all label seen (i ∷ items) g h = go (nat_eq (key i) label) (rotate-all label (seen ++ i ∷ []) items (AllByRecursion-append P seen (i ∷ []) g (h.0, tt)) h.1)
    where
      go : (b : Bool) → AllByRecursion P (items_rotated label (seen ++ i ∷ []) items) → AllByRecursion P (if b then (i ∷ items) ++ seen else items_rotated label (seen ++ i ∷ []) items)
      go true k = AllByRecursion-append P (i ∷ items) seen h g
      go false k = k

module _ (m : Item → ℕ) where
  added-append : (xs ys : List Item) → added m (xs ++ ys) ≡ added m xs + added m ys
  added-append [] ys = omega arith
  added-append (i ∷ xs) ys = let e = added-append xs ys in omega arith

  put-added : (i : Item) (items : List Item) → added m (put_item i items) ≡ m i + added m items
  put-added i [] = refl
  put-added i (j ∷ items) = go (nat_le (key i) (key j)) (put-added i items)
    where
      go : (b : Bool) → added m (put_item i items) ≡ m i + added m items → added m (if b then i ∷ j ∷ items else j ∷ put_item i items) ≡ m i + (m j + added m items)
      go true k = refl
      go false k = omega arith

  pub order-added : (items : List Item) → added m (items_in_order items) ≡ added m items
  order-added [] = refl
  order-added (i ∷ items) = let e = order-added items in let f = put-added i (items_in_order items) in omega arith

  rotate-added : (label : ℕ) (seen items : List Item) → added m (items_rotated label seen items) ≡ added m seen + added m items
  rotate-added label seen [] = omega arith
  rotate-added label seen (i ∷ items) = go (nat_eq (key i) label) (rotate-added label (seen ++ i ∷ []) items)
    where
      go : (b : Bool) → added m (items_rotated label (seen ++ i ∷ []) items) ≡ added m (seen ++ i ∷ []) + added m items → added m (if b then (i ∷ items) ++ seen else items_rotated label (seen ++ i ∷ []) items) ≡ added m seen + (m i + added m items)
      go true k = let e : added m ((i ∷ items) ++ seen) ≡ added m (i ∷ items) + added m seen = added-append (i ∷ items) seen in omega arith
      go false k = let e = added-append seen (i ∷ []) in omega arith

  pub rotated-added : (label : ℕ) (items : List Item) → added m (items_rotated label [] items) ≡ added m items
  rotated-added label items = let e = rotate-added label [] items in omega arith

-- the least label is kept
put-least : (i : Item) (items : List Item) → least_label (map key (put_item i items)) ≡ lesser_label (key i) (least_label (map key items))
put-least i [] = refl
put-least i (j ∷ items) = go (nat_le (key i) (key j)) (put-least i items)
  where
    go : (b : Bool) → least_label (map key (put_item i items)) ≡ lesser_label (key i) (least_label (map key items)) → least_label (map key (if b then i ∷ j ∷ items else j ∷ put_item i items)) ≡ lesser_label (key i) (lesser_label (key j) (least_label (map key items)))
    go true k = refl
    go false k = ap (lesser_label (key j)) k ∙ lesser-swap (key j) (key i) (least_label (map key items))

-- Items put in order have the same least label as before.
pub order-least : (items : List Item) → least_label (map key (items_in_order items)) ≡ least_label (map key items)
order-least [] = refl
order-least (i ∷ items) = put-least i (items_in_order items) ∙ ap (lesser_label (key i)) (order-least items)

keys-append : (xs ys : List Item) → least_label (map key (xs ++ ys)) ≡ lesser_label (least_label (map key xs)) (least_label (map key ys))
keys-append xs ys = ap least_label (map-append key xs ys) ∙ least-append (map key xs) (map key ys)

-- Items that are rotated, together with those passed already, have as least label the lesser of the
-- least labels of both.
pub rotate-least : (label : ℕ) (seen items : List Item) → least_label (map key (items_rotated label seen items)) ≡ lesser_label (least_label (map key seen)) (least_label (map key items))
rotate-least label seen [] = sym (lesser-zero (least_label (map key seen)))
rotate-least label seen (i ∷ items) = go (nat_eq (key i) label) (rotate-least label (seen ++ i ∷ []) items)
  where
    go : (b : Bool) → least_label (map key (items_rotated label (seen ++ i ∷ []) items)) ≡ lesser_label (least_label (map key (seen ++ i ∷ []))) (least_label (map key items)) → least_label (map key (if b then (i ∷ items) ++ seen else items_rotated label (seen ++ i ∷ []) items)) ≡ lesser_label (least_label (map key seen)) (least_label (map key (i ∷ items)))
    go true k = keys-append (i ∷ items) seen ∙ lesser-comm (least_label (map key (i ∷ items))) (least_label (map key seen))
    go false k =
        k ∙ ap (λ z. lesser_label z (least_label (map key items))) (keys-append seen (i ∷ []) ∙ ap (lesser_label (least_label (map key seen))) (lesser-zero (key i)))
        ∙ lesser-assoc (least_label (map key seen)) (key i) (least_label (map key items))

-- what is in order rises
put-from : (a : ℕ) (i : Item) (items : List Item) → a ≤ key i → IsRisingFrom a (map key items) → IsRisingFrom a (map key (put_item i items))
put-from a i [] le h = (le, tt)
put-from a i (j ∷ items) le h = go (λ lt. put-from (key j) i items lt h.1) (leb_tells (key i) (key j))
  where
    shown : (b : Bool) → nat_le (key i) (key j) ≡ b → IsRisingFrom a (map key (if b then i ∷ j ∷ items else j ∷ put_item i items)) → IsRisingFrom a (map key (put_item i (j ∷ items)))
    shown b e k = subst (λ c. IsRisingFrom a (map key (if c then i ∷ j ∷ items else j ∷ put_item i items))) (sym e) k

    go : (key j ≤ key i → IsRisingFrom (key j) (map key (put_item i items))) → ((nat_le (key i) (key j) ≡ true) × (key i ≤ key j)) ⊎ ((nat_le (key i) (key j) ≡ false) × (key j < key i)) → IsRisingFrom a (map key (put_item i (j ∷ items)))
    go later (inl k) = shown true k.0 (le, (k.1, h.1))
    go later (inr k) = shown false k.0 (h.0, later (let lt = k.1 in omega arith))

rising-from : (numbers : List ℕ) → IsRising numbers → IsRisingFrom 0 numbers
rising-from [] h = tt
rising-from (a ∷ numbers) h = (omega arith, h)

from-rising : (numbers : List ℕ) → IsRisingFrom 0 numbers → IsRising numbers
from-rising [] h = tt
from-rising (a ∷ numbers) h = h.1

-- The least labels of items that are put in order never fall from one item to the next.
pub order-rising : (items : List Item) → IsRising (map key (items_in_order items))
order-rising items = from-rising (map key (items_in_order items)) (go items)
  where
    go : (items : List Item) → IsRisingFrom 0 (map key (items_in_order items))
    go [] = tt
    go (i ∷ items) = put-from 0 i (items_in_order items) (omega arith) (go items)

-- what is rotated to its least label begins with it
rotate-begins : (label : ℕ) (seen items : List Item) → label ≡ lesser_label (least_label (map key seen)) (least_label (map key items)) → IsOneOf (map key items) label → BeginsWithLeast (map key (items_rotated label seen items))
rotate-begins label seen [] e m = elim m [ ]
rotate-begins label seen (i ∷ items) e m = go (rotate-begins label (seen ++ i ∷ []) items) (eqb_tells (key i) label)
  where
    shown : (b : Bool) → nat_eq (key i) label ≡ b → BeginsWithLeast (map key (if b then (i ∷ items) ++ seen else items_rotated label (seen ++ i ∷ []) items)) → BeginsWithLeast (map key (items_rotated label seen (i ∷ items)))
    shown b q k = subst (λ c. BeginsWithLeast (map key (if c then (i ∷ items) ++ seen else items_rotated label (seen ++ i ∷ []) items))) (sym q) k

    further : key i ≢ label → IsOneOf (map key (i ∷ items)) label → IsOneOf (map key items) label
    further ne (inl q) = absurd (ne (sym q))
    further ne (inr k) = k

    go : (label ≡ lesser_label (least_label (map key (seen ++ i ∷ []))) (least_label (map key items)) → IsOneOf (map key items) label → BeginsWithLeast (map key (items_rotated label (seen ++ i ∷ []) items))) → ((nat_eq (key i) label ≡ true) × (key i ≡ label)) ⊎ ((nat_eq (key i) label ≡ false) × (key i ≢ label)) → BeginsWithLeast (map key (items_rotated label seen (i ∷ items)))
    go later (inl k) = shown true k.0 (k.1 ∙ e ∙ lesser-comm (least_label (map key seen)) (least_label (map key (i ∷ items))) ∙ sym (keys-append (i ∷ items) seen))
    go later (inr k) =
        shown false k.0 (later
        (e ∙ sym (lesser-assoc (least_label (map key seen)) (key i) (least_label (map key items))) ∙ ap (λ z. lesser_label z (least_label (map key items))) (sym (keys-append seen (i ∷ []) ∙ ap (lesser_label (least_label (map key seen))) (lesser-zero (key i)))))
        (further k.1 m))

-- Items that are rotated to their least label begin with the item that holds it.
pub rotated-begins : (items : List Item) → BeginsWithLeast (map key (items_rotated (least_label (map key items)) [] items))
rotated-begins [] = tt
rotated-begins (i ∷ items) = rotate-begins (least_label (map key (i ∷ items))) [] (i ∷ items) refl (least-attained (key i) (map key items))
