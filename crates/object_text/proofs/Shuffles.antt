-- The labels of an object in canonical order are its labels in some order.
use Rattle.std.proofs.Common.{◌≡◌, ◌≢◌, ℕ, suc, ◌≤◌, List, [], ◌∷◌, ◌++◌, map, take, drop, refl, sym, ◌∙◌, ap, subst, length, append_assoc, append-nil, Bool, true, false}
use Rattle.std.specs.Prelude.{nat_le, nat_eq, if◌then◌else◌}
use Rattle.std.specs.List.{AllByRecursion}
use Rattle.std.proofs.lemmas.List.{take-append-drop}
use Rattle.bz_model.specs.Spec.{Mode}
use Rattle.bz_model.specs.Object.{Object, Objects, none, more}
use Rattle.bz_model.specs.Object.Object.{Unit_, Dot, Pick, Tuple, SeqOf, SetOf, CycOf}
use Rattle.bz_model.specs.Measures.{size}
use Rattle.bz_model.specs.ObjectText.{HasLabels, AreLabelsOf, least_label}
use Rattle.bz_model.specs.Totals.{IsDistinct}
use Rattle.bz_laws.proofs.Readings.{HasAllLabels, first-labels, other-labels, none-labels, part-labels, pick-labels}
use Rattle.bz_laws.proofs.Items.{Item, key, labels_of, put_item, items_in_order, items_rotated}
use Rattle.object_text.proofs.Arranging.{form, forms}

-- The second list has the elements of the first in some order.
data Shuffled : List ℕ → List ℕ → Type 0 where
  empty : Shuffled [] []
  keep : {a : ℕ} {xs ys : List ℕ} → Shuffled xs ys → Shuffled (a ∷ xs) (a ∷ ys)
  swap : {a b : ℕ} {xs : List ℕ} → Shuffled (a ∷ b ∷ xs) (b ∷ a ∷ xs)
  further : {xs ys zs : List ℕ} → Shuffled xs ys → Shuffled ys zs → Shuffled xs zs

as-is : (xs : List ℕ) → Shuffled xs xs
as-is [] = Shuffled.empty
as-is (x ∷ xs) = Shuffled.keep (as-is xs)

behind : (zs xs ys : List ℕ) → Shuffled xs ys → Shuffled (zs ++ xs) (zs ++ ys)
behind [] xs ys h = h
behind (z ∷ zs) xs ys h = Shuffled.keep (behind zs xs ys h)

before : (zs xs ys : List ℕ) → Shuffled xs ys → Shuffled (xs ++ zs) (ys ++ zs)
before zs _ _ Shuffled.empty = as-is zs
before zs _ _ (Shuffled.keep {xs = xs} {ys = ys} h) = Shuffled.keep (before zs xs ys h)
before zs _ _ Shuffled.swap = Shuffled.swap
before zs _ _ (Shuffled.further {xs = xs} {ys = ys} {zs = us} h k) = Shuffled.further (before zs xs ys h) (before zs ys us k)

both : (xs ys us vs : List ℕ) → Shuffled xs ys → Shuffled us vs → Shuffled (xs ++ us) (ys ++ vs)
both xs ys us vs h k = Shuffled.further (before us xs ys h) (behind ys us vs k)

to-front : (a : ℕ) (xs ys : List ℕ) → Shuffled (xs ++ a ∷ ys) (a ∷ (xs ++ ys))
to-front a [] ys = as-is (a ∷ ys)
to-front a (x ∷ xs) ys = Shuffled.further (Shuffled.keep (to-front a xs ys)) Shuffled.swap

turned : (xs ys : List ℕ) → Shuffled (xs ++ ys) (ys ++ xs)
turned [] ys = subst (Shuffled ys) (sym (append-nil ys)) (as-is ys)
turned (x ∷ xs) ys = Shuffled.further (Shuffled.keep (turned xs ys)) (back x ys xs)
  where
    back : (x : ℕ) (ys xs : List ℕ) → Shuffled (x ∷ (ys ++ xs)) (ys ++ x ∷ xs)
    back x [] xs = as-is (x ∷ xs)
    back x (y ∷ ys) xs = Shuffled.further Shuffled.swap (Shuffled.keep (back x ys xs))

-- what lies between changes places
exchanged : (xs ys zs : List ℕ) → Shuffled (xs ++ (ys ++ zs)) (ys ++ (xs ++ zs))
exchanged xs ys zs =
    subst (λ l. Shuffled l (ys ++ (xs ++ zs))) (append_assoc xs ys zs)
    (subst (Shuffled ((xs ++ ys) ++ zs)) (append_assoc ys xs zs) (before zs (xs ++ ys) (ys ++ xs) (turned xs ys)))

shuffled-length : (xs ys : List ℕ) → Shuffled xs ys → length xs ≡ length ys
shuffled-length _ _ Shuffled.empty = refl
shuffled-length _ _ (Shuffled.keep {xs = xs} {ys = ys} h) = ap suc (shuffled-length xs ys h)
shuffled-length _ _ Shuffled.swap = refl
shuffled-length _ _ (Shuffled.further {xs = xs} {ys = ys} {zs = zs} h k) = shuffled-length xs ys h ∙ shuffled-length ys zs k

shuffled-all : (P : ℕ → Type 0) (xs ys : List ℕ) → Shuffled xs ys → AllByRecursion P xs → AllByRecursion P ys
shuffled-all P _ _ Shuffled.empty h = tt
shuffled-all P _ _ (Shuffled.keep {xs = xs} {ys = ys} k) h = (h.0, shuffled-all P xs ys k h.1)
shuffled-all P _ _ Shuffled.swap h = (h.1.0, (h.0, h.1.1))
shuffled-all P _ _ (Shuffled.further {xs = xs} {ys = ys} {zs = zs} j k) h = shuffled-all P ys zs k (shuffled-all P xs ys j h)

shuffled-distinct : (xs ys : List ℕ) → Shuffled xs ys → IsDistinct xs → IsDistinct ys
shuffled-distinct _ _ Shuffled.empty h = tt
shuffled-distinct _ _ (Shuffled.keep {a = a} {xs = xs} {ys = ys} k) h = (shuffled-all (λ b. b ≢ a) xs ys k h.0, shuffled-distinct xs ys k h.1)
shuffled-distinct _ _ Shuffled.swap h = (((λ e. h.0.0 (sym e)), h.1.0), (h.0.1, h.1.1))
shuffled-distinct _ _ (Shuffled.further {xs = xs} {ys = ys} {zs = zs} j k) h = shuffled-distinct ys zs k (shuffled-distinct xs ys j h)

-- putting parts in order, and rotating them, shuffles the labels
put-shuffled : (i : Item) (items : List Item) → Shuffled (i.labels ++ labels_of items) (labels_of (put_item i items))
put-shuffled i [] = as-is (i.labels ++ [])
put-shuffled i (j ∷ items) = go (nat_le (key i) (key j)) (put-shuffled i items)
  where
    go : (b : Bool) → Shuffled (i.labels ++ labels_of items) (labels_of (put_item i items)) → Shuffled (i.labels ++ (j.labels ++ labels_of items)) (labels_of (if b then i ∷ j ∷ items else j ∷ put_item i items))
    go true h = as-is (i.labels ++ (j.labels ++ labels_of items))
    go false h = Shuffled.further (exchanged i.labels j.labels (labels_of items)) (behind j.labels (i.labels ++ labels_of items) (labels_of (put_item i items)) h)

order-shuffled : (items : List Item) → Shuffled (labels_of items) (labels_of (items_in_order items))
order-shuffled [] = Shuffled.empty
order-shuffled (i ∷ items) = Shuffled.further (behind i.labels (labels_of items) (labels_of (items_in_order items)) (order-shuffled items)) (put-shuffled i (items_in_order items))

labels-append : (xs ys : List Item) → labels_of (xs ++ ys) ≡ labels_of xs ++ labels_of ys
labels-append [] ys = refl
labels-append (x ∷ xs) ys = ap (λ l. x.labels ++ l) (labels-append xs ys) ∙ sym (append_assoc x.labels (labels_of xs) (labels_of ys))

rotate-shuffled : (label : ℕ) (seen items : List Item) → Shuffled (labels_of seen ++ labels_of items) (labels_of (items_rotated label seen items))
rotate-shuffled label seen [] = subst (λ l. Shuffled l (labels_of seen)) (sym (append-nil (labels_of seen))) (as-is (labels_of seen))
rotate-shuffled label seen (i ∷ items) = go (nat_eq (key i) label) (rotate-shuffled label (seen ++ i ∷ []) items)
  where
    more-seen : labels_of (seen ++ i ∷ []) ++ labels_of items ≡ labels_of seen ++ (i.labels ++ labels_of items)
    more-seen = ap (λ l. l ++ labels_of items) (labels-append seen (i ∷ []) ∙ ap (λ l. labels_of seen ++ l) (append-nil i.labels)) ∙ append_assoc (labels_of seen) i.labels (labels_of items)

    go : (b : Bool) → Shuffled (labels_of (seen ++ i ∷ []) ++ labels_of items) (labels_of (items_rotated label (seen ++ i ∷ []) items)) → Shuffled (labels_of seen ++ (i.labels ++ labels_of items)) (labels_of (if b then (i ∷ items) ++ seen else items_rotated label (seen ++ i ∷ []) items))
    go true h = subst (Shuffled (labels_of seen ++ (i.labels ++ labels_of items))) (sym (labels-append (i ∷ items) seen)) (turned (labels_of seen) (i.labels ++ labels_of items))
    go false h = subst (λ l. Shuffled l (labels_of (items_rotated label (seen ++ i ∷ []) items))) more-seen h

mutual
  form-shuffled : (mode : Mode) (o : Object) (l : List ℕ) → HasLabels mode o l → Shuffled l (form o l).labels
  form-shuffled mode Unit_ l x = as-is l
  form-shuffled mode Dot l x = as-is l
  form-shuffled mode (Pick i o) l x = form-shuffled mode o l (pick-labels mode i o l x)
  form-shuffled mode (Tuple os) l x = forms-shuffled mode os l (part-labels mode (Tuple os) os l refl x)
  form-shuffled mode (SeqOf os) l x = forms-shuffled mode os l (part-labels mode (SeqOf os) os l refl x)
  form-shuffled mode (SetOf os) l x = Shuffled.further (forms-shuffled mode os l (part-labels mode (SetOf os) os l refl x)) (order-shuffled (forms os l))
  form-shuffled mode (CycOf os) l x = Shuffled.further (forms-shuffled mode os l (part-labels mode (CycOf os) os l refl x)) (rotate-shuffled (least_label (map key (forms os l))) [] (forms os l))

  forms-shuffled : (mode : Mode) (os : Objects) (l : List ℕ) → HasAllLabels mode os l → Shuffled l (labels_of (forms os l))
  forms-shuffled mode none l x = subst (λ m. Shuffled m []) (sym (none-labels mode l x)) Shuffled.empty
  forms-shuffled mode (more o os) l x =
      subst (λ m. Shuffled m ((form o (take (size o) l)).labels ++ labels_of (forms os (drop (size o) l)))) (take-append-drop (size o) l)
      (both (take (size o) l) (form o (take (size o) l)).labels (drop (size o) l) (labels_of (forms os (drop (size o) l))) (form-shuffled mode o (take (size o) l) (first-labels mode o os l x)) (forms-shuffled mode os (drop (size o) l) (other-labels mode o os l x)))

-- Labels 1 to the size stay that.
pub still-labels : (mode : Mode) (o : Object) (l : List ℕ) (p : Object) → HasLabels mode o l → size p ≡ size o → HasLabels mode p (form o l).labels → AreLabelsOf mode o l → AreLabelsOf mode p (form o l).labels
still-labels Mode.Unlabelled o l p x e y k = y
still-labels Mode.Labelled o l p x e y k =
    let s = form-shuffled Mode.Labelled o l x in
    record {
      count = y.0;
      within = subst (λ n. AllByRecursion (λ label. (1 ≤ label) × (label ≤ n)) (form o l).labels) (sym e) (shuffled-all (λ label. (1 ≤ label) × (label ≤ size o)) l (form o l).labels s k.within);
      distinct = shuffled-distinct l (form o l).labels s k.distinct;
    }
