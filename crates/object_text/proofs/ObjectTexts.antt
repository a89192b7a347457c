-- The text of an object by the kind of its node: a leaf's word, or the texts of parts.
use Rattle.std.proofs.Common.{◌≡◌, ℕ, zero, suc, ◌≤◌, List, [], ◌∷◌, ◌++◌, map, take, drop, length, arith, refl, sym, ◌∙◌, ap, subst, append_assoc, append-nil, Option, Some, None, replicate, decimal, length-append}
use Rattle.std.specs.Prelude.{slice_get}
use Rattle.std.specs.List.{AllByRecursion, join_with_byte}
use Rattle.std.proofs.lemmas.List.{take-append-drop}
use Rattle.std.proofs.Math.Seq.{take-append_seam, drop-append_seam}
use Rattle.bz_model.specs.Spec.{Spec, Mode, Node, Range, node_at, range_at, node_of, range_of, body_of, IsInRange}
use Rattle.bz_model.specs.Object.{Object, Objects, none, more, count, Has, HaveEach, HaveAll, ClassHas}
use Rattle.bz_model.specs.Object.Object.{Pick, Tuple, SeqOf, SetOf, CycOf}
use Rattle.bz_model.specs.Measures.{size, sizes}
use Rattle.bz_model.specs.ObjectText.{Arrangement, PartText, HasLabels, IsObjectText, text_by, texts_of_each, texts_of_all, class_text, spaced, least_label}
use Rattle.bz_laws.proofs.Nodes.{known, unknown, ClassBelongs, belongs-has, each-belongs}
use Rattle.bz_laws.proofs.Readings.{HasAllLabels, first-labels, other-labels, none-labels, part-labels, pick-labels}
use Rattle.bz_laws.proofs.Samples.{AllByRecursion-append}
use Rattle.bz_laws.proofs.Texts.{one_text}
use Rattle.object_text.specs.declared.parsed.Kind.{Kind}
use Rattle.object_text.specs.declared.parsed.Kind.TheVariants.{Sequence, Set, Cycle}
use Rattle.object_text.specs.Expected.{opener, closer, list_node}

abbrev pub standing : Arrangement
standing = Arrangement.AsItStands

-- The labels of objects one after the other.
all-labels : (mode : Mode) (o : Object) (os : Objects) (l : List ℕ) → HasLabels mode o (take (size o) l) → HasAllLabels mode os (drop (size o) l) → HasAllLabels mode (more o os) l
all-labels Mode.Unlabelled o os l h k = sym (take-append-drop (size o) l) ∙ ap (λ z. z ++ drop (size o) l) h ∙ k
all-labels Mode.Labelled o os l h k =
    let a = h.0 in
    let b = k.0 in
    let whole : take (size o) l ++ drop (size o) l ≡ l = take-append-drop (size o) l in
    (omega (arith, ap length whole, length-append (take (size o) l) (drop (size o) l)), subst (AllByRecursion (λ label. (1 ≤ label) × (label ≤ 1000000))) whole (AllByRecursion-append (λ label. (1 ≤ label) × (label ≤ 1000000)) (take (size o) l) (drop (size o) l) h.1 k.1))

-- The labels of an object with the same number of atoms.
pub same-labels : (mode : Mode) (o : Object) (os : Objects) (l : List ℕ) → size o ≡ sizes os → HasAllLabels mode os l → HasLabels mode o l
same-labels Mode.Unlabelled o os l e h = h
same-labels Mode.Labelled o os l e h = (h.0 ∙ sym e, h.1)

nil-parts : (n : ℕ) (l rest : List ℕ) → l ≡ [] → rest ≡ [] → (take n (l ++ rest) ≡ l) × (drop n (l ++ rest) ≡ rest)
nil-parts zero [] [] e f = (refl, refl)
nil-parts (suc n) [] [] e f = (refl, refl)
nil-parts n (a ∷ l) rest e f = absurd (cc)
nil-parts n [] (a ∷ rest) e f = absurd (cc)

-- Labels that were put together are taken apart again.
pub parts-apart : (mode : Mode) (o : Object) (os : Objects) (l rest : List ℕ) → HasLabels mode o l → HasAllLabels mode os rest → (take (size o) (l ++ rest) ≡ l) × (drop (size o) (l ++ rest) ≡ rest)
parts-apart Mode.Unlabelled o os l rest h k = nil-parts (size o) l rest h k
parts-apart Mode.Labelled o os l rest h k = (subst (λ n. take n (l ++ rest) ≡ l) h.0 (take-append_seam l rest), subst (λ n. drop n (l ++ rest) ≡ rest) h.0 (drop-append_seam l rest))

-- The text of an object of a node that is known.
pub record TextBy (s : Spec) (node : Node) (range : Option Range) (text : List ℕ) (o : Object) (l : List ℕ) : Type 0 where
  pub height : ℕ
  pub has : Has s (ClassHas s height) (Some node) range o
  pub labelled : HasLabels s.mode o l
  pub spelled : text ≡ text_by standing s (class_text standing s height) (Some node) o l

-- Texts of objects of nodes, each with as many labels as it has atoms.
pub data AreTexts (s : Spec) : List ℕ → List (List ℕ) → Objects → List ℕ → Type 0 where
  no_text : AreTexts s [] [] none []
  one_more : {part : ℕ} {parts : List ℕ} {text : List ℕ} {texts : List (List ℕ)} {o : Object} {os : Objects} {l : List ℕ} → IsObjectText s part text o (take (size o) l) → AreTexts s parts texts os (drop (size o) l) → AreTexts s (part ∷ parts) (text ∷ texts) (more o os) l

-- The texts with a space before each.
abbrev pub spaces : List (List ℕ) → List ℕ
spaces [] = []
spaces (text ∷ texts) = 32 ∷ (text ++ spaces texts)

-- Texts joined by spaces are the first text, followed by each of the others with a space before it.
pub join-first : (text : List ℕ) (texts : List (List ℕ)) → join_with_byte 32 (text ∷ texts) ≡ text ++ spaces texts
join-first text [] = sym (append-nil text)
join-first text (u ∷ texts) = ap (λ t. text ++ 32 ∷ t) (join-first u texts)

-- The object that a list makes of its parts.
abbrev pub list_object : Kind → Objects → Object
list_object Sequence os = SeqOf os
list_object Set os = SetOf os
list_object Cycle os = CycOf os

abbrev text_of : PartText → List ℕ
text_of p = p.text

module _ (s : Spec) where
  pub known-text : (e : ℕ) (node : Node) → node_at s e ≡ Some node → (text : List ℕ) (o : Object) (l : List ℕ) → IsObjectText s e text o l → TextBy s node (range_at s e) text o l
  known-text e node at text o l h = record {
    height = h.belongs.0;
    has = known s (ClassHas s h.belongs.0) e at o h.belongs.1;
    labelled = h.labelled;
    spelled = h.spelled ∙ ap (λ n. text_by standing s (class_text standing s h.belongs.0) n o l) at;
  }

  pub text-known : (e : ℕ) (node : Node) → node_at s e ≡ Some node → (text : List ℕ) (o : Object) (l : List ℕ) → TextBy s node (range_at s e) text o l → IsObjectText s e text o l
  text-known e node at text o l h = record {
    belongs = (h.height, unknown s (ClassHas s h.height) e at o h.has);
    labelled = h.labelled;
    spelled = h.spelled ∙ ap (λ n. text_by standing s (class_text standing s h.height) n o l) (sym at);
  }

  have-texts : (h : ℕ) (parts : List ℕ) (os : Objects) (l : List ℕ) → HaveEach s (ClassHas s h) parts os → HasAllLabels s.mode os l → AreTexts s parts (map text_of (texts_of_each standing s (class_text standing s h) parts os l)) os l
  have-texts h [] none l w x = subst (λ m. AreTexts s [] [] none m) (sym (none-labels s.mode l x)) AreTexts.no_text
  have-texts h (part ∷ parts) (more o os) l w x = AreTexts.one_more (record { belongs = (h, w.0); labelled = first-labels s.mode o os l x; spelled = refl }) (have-texts h parts os (drop (size o) l) w.1 (other-labels s.mode o os l x))
  have-texts h _ _ l w x = elim w [ ]

  texts-have : (parts : List ℕ) (texts : List (List ℕ)) (os : Objects) (l : List ℕ) → AreTexts s parts texts os l → HaveEach s (ClassBelongs s) parts os
  texts-have _ _ _ _ AreTexts.no_text = tt
  texts-have _ _ _ _ (AreTexts.one_more {part = part} {parts = parts} {texts = texts} {o = o} {os = os} {l = l} t r) = (belongs-has s part o t.belongs, texts-have parts texts os (drop (size o) l) r)

  pub texts-labels : (parts : List ℕ) (texts : List (List ℕ)) (os : Objects) (l : List ℕ) → AreTexts s parts texts os l → HasAllLabels s.mode os l
  texts-labels _ _ _ _ AreTexts.no_text = none-of s.mode
    where
      none-of : (mode : Mode) → HasAllLabels mode none []
      none-of Mode.Unlabelled = refl
      none-of Mode.Labelled = (refl, tt)
  texts-labels _ _ _ _ (AreTexts.one_more {parts = parts} {texts = texts} {o = o} {os = os} {l = l} t r) = all-labels s.mode o os l t.labelled (texts-labels parts texts os (drop (size o) l) r)

  texts-spelled : (h : ℕ) (parts : List ℕ) (texts : List (List ℕ)) (os : Objects) (l : List ℕ) → AreTexts s parts texts os l → HaveEach s (ClassHas s h) parts os → texts ≡ map text_of (texts_of_each standing s (class_text standing s h) parts os l)
  texts-spelled h _ _ _ _ AreTexts.no_text w = refl
  texts-spelled h _ _ _ _ (AreTexts.one_more {part = part} {parts = parts} {text = text} {texts = texts} {o = o} {os = os} {l = l} t r) w =
      ap (λ u. u ∷ texts) (t.spelled ∙ one_text standing s part o (take (size o) l) t.belongs (h, w.0))
      ∙ ap (λ us. text_by standing s (class_text standing s h) (node_at s part) o (take (size o) l) ∷ us) (texts-spelled h parts texts os (drop (size o) l) r w.1)

  all-each : (h part : ℕ) (os : Objects) (l : List ℕ) → texts_of_all standing s (class_text standing s h) part os l ≡ texts_of_each standing s (class_text standing s h) (replicate (count os) part) os l
  all-each h part none l = refl
  all-each h part (more o os) l = ap (λ ps. record { least = least_label (take (size o) l); text = text_by standing s (class_text standing s h) (node_at s part) o (take (size o) l) } ∷ ps) (all-each h part os (drop (size o) l))

  have-each : (R : ℕ → Object → Type 0) (part : ℕ) (os : Objects) → HaveAll s R part os → HaveEach s R (replicate (count os) part) os
  have-each R part none w = tt
  have-each R part (more o os) w = (w.0, have-each R part os w.1)

  have-all : (R : ℕ → Object → Type 0) (part : ℕ) (os : Objects) → HaveEach s R (replicate (count os) part) os → HaveAll s R part os
  have-all R part none w = tt
  have-all R part (more o os) w = (w.0, have-all R part os w.1)

  -- A class's text is that of its body.
  pub class-in : (e c body : ℕ) → node_at s e ≡ Some (Node.Class c) → body_of s c ≡ Some body → (text : List ℕ) (o : Object) (l : List ℕ) → IsObjectText s body text o l → IsObjectText s e text o l
  class-in e c body at b text o l h = text-known e (Node.Class c) at text o l (record {
    height = suc h.belongs.0;
    has = subst (λ n. Has s (ClassHas s h.belongs.0) (node_of s n) (range_of s n) o) (sym b) h.belongs.1;
    labelled = h.labelled;
    spelled = h.spelled ∙ ap (λ n. text_by standing s (class_text standing s h.belongs.0) (node_of s n) o l) (sym b);
  })

  pub class-out : (e c body : ℕ) → node_at s e ≡ Some (Node.Class c) → body_of s c ≡ Some body → (text : List ℕ) (o : Object) (l : List ℕ) → IsObjectText s e text o l → IsObjectText s body text o l
  class-out e c body at b text o l h = let k = known-text e (Node.Class c) at text o l h in go k.height k.has k.spelled
    where
      go : (h' : ℕ) → ClassHas s h' c o → text ≡ class_text standing s h' c o l → IsObjectText s body text o l
      go zero w t = elim w [ ]
      go (suc h') w t = record {
        belongs = (h', subst (λ n. Has s (ClassHas s h') (node_of s n) (range_of s n) o) b w);
        labelled = h.labelled;
        spelled = t ∙ ap (λ n. text_by standing s (class_text standing s h') (node_of s n) o l) b;
      }

  -- The text of a union's object.
  pub record OptionText (parts : List ℕ) (text : List ℕ) (o : Object) (l : List ℕ) : Type 0 where
    pub option : ℕ
    pub part : ℕ
    pub object : Object
    pub own : List ℕ
    pub is_part : slice_get parts option ≡ Some part
    pub is_pick : o ≡ Pick option object
    pub is_text : IsObjectText s part own object l
    pub spelled : text ≡ decimal option ++ 46 ∷ own

  part-text : (part : Option ℕ) (h : ℕ) (o : Object) (l : List ℕ) → Has s (ClassHas s h) (node_of s part) (range_of s part) o → HasLabels s.mode o l → (p : ℕ) × (part ≡ Some p) × IsObjectText s p (text_by standing s (class_text standing s h) (node_of s part) o l) o l
  part-text (Some p) h o l w x = (p, refl, record { belongs = (h, w); labelled = x; spelled = refl })
  part-text None h o l w x = elim w [ ]

  pub option-out : (parts : List ℕ) (range : Option Range) (text : List ℕ) (o : Object) (l : List ℕ) → TextBy s (Node.Union parts) range text o l → OptionText parts text o l
  option-out parts range text (Pick i o) l h =
      let p = part-text (slice_get parts i) h.height o l h.has (pick-labels s.mode i o l h.labelled) in
      record { option = i; part = p.0; object = o; own = text_by standing s (class_text standing s h.height) (node_of s (slice_get parts i)) o l; is_part = p.1; is_pick = refl; is_text = p.2; spelled = h.spelled ∙ append_assoc (decimal i) (46 ∷ []) (text_by standing s (class_text standing s h.height) (node_of s (slice_get parts i)) o l) }
  option-out parts range text _ l h = elim h.has [ ]

  pub option-in : (parts : List ℕ) (range : Option Range) (text : List ℕ) (i part : ℕ) (own : List ℕ) (o : Object) (l : List ℕ) → slice_get parts i ≡ Some part → IsObjectText s part own o l → text ≡ decimal i ++ 46 ∷ own → TextBy s (Node.Union parts) range text (Pick i o) l
  option-in parts range text i part own o l at h e = record {
    height = h.belongs.0;
    has = subst (λ n. Has s (ClassHas s h.belongs.0) (node_of s n) (range_of s n) o) (sym at) h.belongs.1;
    labelled = picked s.mode h.labelled;
    spelled =
        e ∙ ap (λ t. decimal i ++ 46 ∷ t) (h.spelled ∙ ap (λ n. text_by standing s (class_text standing s h.belongs.0) (node_of s n) o l) (sym at))
        ∙ sym (append_assoc (decimal i) (46 ∷ []) (text_by standing s (class_text standing s h.belongs.0) (node_of s (slice_get parts i)) o l));
  }
    where
      picked : (mode : Mode) → HasLabels mode o l → HasLabels mode (Pick i o) l
      picked Mode.Unlabelled h = h
      picked Mode.Labelled h = h

  -- The text of a product's object.
  pub record TupleText (parts : List ℕ) (text : List ℕ) (o : Object) (l : List ℕ) : Type 0 where
    pub objects : Objects
    pub texts : List (List ℕ)
    pub is_tuple : o ≡ Tuple objects
    pub each : AreTexts s parts texts objects l
    pub spelled : text ≡ 40 ∷ (join_with_byte 32 texts ++ 41 ∷ [])

  pub tuple-out : (parts : List ℕ) (range : Option Range) (text : List ℕ) (o : Object) (l : List ℕ) → TextBy s (Node.Product parts) range text o l → TupleText parts text o l
  tuple-out parts range text (Tuple os) l h = record { objects = os; texts = _; is_tuple = refl; each = have-texts h.height parts os l h.has (part-labels s.mode (Tuple os) os l refl h.labelled); spelled = h.spelled }
  tuple-out parts range text _ l h = elim h.has [ ]

  pub tuple-in : (parts : List ℕ) (range : Option Range) (text : List ℕ) (os : Objects) (texts : List (List ℕ)) (l : List ℕ) → AreTexts s parts texts os l → text ≡ 40 ∷ (join_with_byte 32 texts ++ 41 ∷ []) → TextBy s (Node.Product parts) range text (Tuple os) l
  tuple-in parts range text os texts l each e =
      let b = each-belongs s parts os (texts-have parts texts os l each) in
      record {
        height = b.0;
        has = b.1;
        labelled = same-labels s.mode (Tuple os) os l refl (texts-labels parts texts os l each);
        spelled = e ∙ ap (λ ts. 40 ∷ (join_with_byte 32 ts ++ 41 ∷ [])) (texts-spelled b.0 parts texts os l each b.1);
      }

  -- The text of a list's object.
  pub record ListText (kind : Kind) (part : ℕ) (range : Option Range) (text : List ℕ) (o : Object) (l : List ℕ) : Type 0 where
    pub objects : Objects
    pub texts : List (List ℕ)
    pub is_list : o ≡ list_object kind objects
    pub in_range : IsInRange (count objects) range
    pub each : AreTexts s (replicate (count objects) part) texts objects l
    pub spelled : text ≡ opener kind ∷ (join_with_byte 32 texts ++ closer kind ∷ [])

  list-text : (kind : Kind) (part : ℕ) (range : Option Range) (text : List ℕ) (os : Objects) (l : List ℕ) (h : ℕ) → IsInRange (count os) range → HaveAll s (ClassHas s h) part os → HasAllLabels s.mode os l → text ≡ opener kind ∷ (spaced (texts_of_all standing s (class_text standing s h) part os l) ++ closer kind ∷ []) → ListText kind part range text (list_object kind os) l
  list-text kind part range text os l h r w x e = record {
    objects = os;
    texts = map text_of (texts_of_each standing s (class_text standing s h) (replicate (count os) part) os l);
    is_list = refl;
    in_range = r;
    each = have-texts h (replicate (count os) part) os l (have-each (ClassHas s h) part os w) x;
    spelled = e ∙ ap (λ ps. opener kind ∷ (spaced ps ++ closer kind ∷ [])) (all-each h part os l);
  }

  pub list-out : (kind : Kind) (part : ℕ) (range : Option Range) (text : List ℕ) (o : Object) (l : List ℕ) → TextBy s (list_node kind part) range text o l → ListText kind part range text o l
  list-out Sequence part range text (SeqOf os) l h = list-text Sequence part range text os l h.height h.has.0 h.has.1 (part-labels s.mode (SeqOf os) os l refl h.labelled) h.spelled
  list-out Set part range text (SetOf os) l h = list-text Set part range text os l h.height h.has.0 h.has.1 (part-labels s.mode (SetOf os) os l refl h.labelled) h.spelled
  list-out Cycle part range text (CycOf os) l h = list-text Cycle part range text os l h.height h.has.0 h.has.1 (part-labels s.mode (CycOf os) os l refl h.labelled) h.spelled
  list-out Sequence part range text _ l h = elim h.has [ ]
  list-out Set part range text _ l h = elim h.has [ ]
  list-out Cycle part range text _ l h = elim h.has [ ]

  pub list-in : (kind : Kind) (part : ℕ) (range : Option Range) (text : List ℕ) (os : Objects) (texts : List (List ℕ)) (l : List ℕ) → IsInRange (count os) range → AreTexts s (replicate (count os) part) texts os l → text ≡ opener kind ∷ (join_with_byte 32 texts ++ closer kind ∷ []) → TextBy s (list_node kind part) range text (list_object kind os) l
  list-in kind part range text os texts l r each e =
      let b = each-belongs s (replicate (count os) part) os (texts-have (replicate (count os) part) texts os l each) in
      let all : HaveAll s (ClassHas s b.0) part os = have-all (ClassHas s b.0) part os b.1 in
      let spelled : text ≡ opener kind ∷ (spaced (texts_of_all standing s (class_text standing s b.0) part os l) ++ closer kind ∷ []) =
      e ∙ ap (λ ts. opener kind ∷ (join_with_byte 32 ts ++ closer kind ∷ [])) (texts-spelled b.0 (replicate (count os) part) texts os l each b.1)
      ∙ ap (λ ps. opener kind ∷ (spaced ps ++ closer kind ∷ [])) (sym (all-each b.0 part os l)) in
      go kind b.0 all spelled
    where
      x : HasAllLabels s.mode os l
      x = texts-labels (replicate (count os) part) texts os l each

      go : (kind : Kind) (h : ℕ) → HaveAll s (ClassHas s h) part os → text ≡ opener kind ∷ (spaced (texts_of_all standing s (class_text standing s h) part os l) ++ closer kind ∷ []) → TextBy s (list_node kind part) range text (list_object kind os) l
      go Sequence h all e = record { height = h; has = (r, all); labelled = same-labels s.mode (SeqOf os) os l refl x; spelled = e }
      go Set h all e = record { height = h; has = (r, all); labelled = same-labels s.mode (SetOf os) os l refl x; spelled = e }
      go Cycle h all e = record { height = h; has = (r, all); labelled = same-labels s.mode (CycOf os) os l refl x; spelled = e }
