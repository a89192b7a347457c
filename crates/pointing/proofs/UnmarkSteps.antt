-- What is marked at a node tells what it came from.
use Rattle.std.proofs.Common.{◌≡◌, ◌≢◌, ℕ, zero, suc, ◌+◌, ◌-◌, List, ◌∷◌, ◌++◌, map, take, arith, refl, sym, ◌∙◌, ap, subst, append_assoc, append-nil, Bool, true, Some, slice_get}
use Rattle.std.specs.Prelude.{option_map}
use Rattle.std.proofs.lemmas.List.{take-map}
use Rattle.std.proofs.lemmas.Option.{slice_get-map}
use Rattle.bz_model.specs.Spec.{Spec, Node, node_at}
use Rattle.bz_model.specs.Object.{Object, Objects, none, more, count}
use Rattle.bz_model.specs.Object.Object.{Pick, Tuple}
use Rattle.bz_model.specs.Measures.{size, sizes}
use Rattle.class_system.specs.Views.{number}
use Rattle.class_system.specs.declared.ids.ExprId.{ExprId}
use Rattle.object_store.specs.declared.token.Token.{Token}
use Rattle.object_store.specs.Tokens.{tokens_of, tokens_all, size_of}
use Rattle.object_store.specs.Waiting.{joined}
use Rattle.object_store.proofs.Sizes.{size_of-append, size_of-tokens}
use Rattle.well_founded.specs.EmptyObjects.{answer_at}
use Rattle.pointing.specs.Atoms.{is_atomic_node, atomic_classes, atomic_nodes}
use Rattle.pointing.specs.Correspondence.{IsPointable}
use Rattle.pointing.specs.Forms.{all_forms}
use Rattle.pointing.specs.PointedForm.{how_many}
use Rattle.pointing.specs.Marking.{Marks, MarksOne, Splits, chosen, choices, choice_at}
use Rattle.pointing.specs.Unmarking.{due_copies, ToRead, CopiesObjects, Unmarks, ReadsDue, IsChoice}
use Rattle.pointing.specs.declared.dues.Due.{Due}
use Rattle.pointing.specs.declared.dues.Due.TheVariants as due
use Rattle.pointing.proofs.AtomMarks.{mark-found}
use Rattle.pointing.proofs.Chosen.{marks-of}
use Rattle.pointing.proofs.Choices.{choice_below, one_choice}
use Rattle.pointing.proofs.Marked.{HoldsOnward, at-node}
use Rattle.pointing.proofs.Onward.{onward}
use Rattle.pointing.proofs.OneSource.{marked-has, marked-one-has}
use Rattle.pointing.proofs.Rounds.{are-atomic}

-- All of some objects are written, and what is to come comes after them.
pub passes-all : (after : ToRead) (members others : Objects) (w : List Token) → after others (w ++ tokens_all members) → CopiesObjects (count members) after (joined members others) w
passes-all after none others w h = subst (after others) (append-nil w) h
passes-all after (more o os) others w h = passes-all after os others (w ++ tokens_of o) (subst (after others) (sym (append_assoc w (tokens_of o) (tokens_all os))) h)

pick-chosen : (n c i : ℕ) (o : Object) (t : Objects) → Pick i o ≡ chosen n c (Tuple t) → (i ≡ c) × (o ≡ Tuple t)
pick-chosen zero c i o t e = (cc, cc)
pick-chosen (suc zero) c i o t e = absurd (cc)
pick-chosen (suc (suc n)) c i o t e = (cc, cc)

tuple-chosen : (n c : ℕ) (t u : Objects) → Tuple t ≡ chosen n c (Tuple u) → (n ≡ 1) × (t ≡ u)
tuple-chosen zero c t u e = absurd (cc)
tuple-chosen (suc zero) c t u e = (refl, cc)
tuple-chosen (suc (suc n)) c t u e = absurd (cc)

some-chosen : (n c i : ℕ) (o q : Object) → n ≢ 1 → Pick i o ≡ chosen n c q → (i ≡ c) × (o ≡ q)
some-chosen zero c i o q ne e = (cc, cc)
some-chosen (suc zero) c i o q ne e = absurd (ne refl)
some-chosen (suc (suc n)) c i o q ne e = (cc, cc)

same-part : (parts : List ℕ) (i p q : ℕ) → slice_get parts i ≡ Some p → slice_get parts i ≡ Some q → p ≡ q
same-part parts i p q x y = cc

-- A choice among the parts of a node, as the code finds it.
pub record IsPlace (s : Spec) (ps : List ℕ) (choice place part : ℕ) : Type 0 where
  pub is_part : slice_get ps place ≡ Some part
  pub marked : is_atomic_node s part ≡ true
  pub before : choice_at (is_atomic_node s) ps place ≡ choice

-- A choice that the code finds by its marks is a choice among the node's parts, where the marks are
-- those of the nodes and the parts are its parts.
pub choice-place : (s : Spec) (marks : List Bool) (ps : List ℕ) (parts : List ExprId) (choice place : ℕ) (part : ExprId) → marks ≡ atomic_nodes s → map number parts ≡ ps → IsChoice marks parts choice place part → IsPlace s ps choice place part.0
choice-place s marks ps parts choice place part e same k = record {
  is_part = ap (λ z. slice_get z place) (sym same) ∙ slice_get-map number parts place ∙ ap (option_map number) k.is_part;
  marked = sym (mark-found (atomic_classes s) (all_forms s) part.0) ∙ ap (λ ms. answer_at ms part.0) (sym e) ∙ k.is_marked;
  before = sym (ap how_many (ap (map (answer_at marks)) (sym (take-map number place parts) ∙ ap (take place) same) ∙ marks-of s marks (take place ps) e ∙ sym (take-map (is_atomic_node s) place ps))) ∙ k.before;
}

module _ (s : Spec) (able : IsPointable s) where
  abbrev pub has : ℕ → Bool
  has = is_atomic_node s

  on : HoldsOnward s (is_atomic_node s)
  on = onward s able (atomic_classes s) (are-atomic s able.inhabited able.sound able.is_plain).closed

  -- the pick of a union with several choices
  pub from-pick : (e choice place part a : ℕ) (ps : List ℕ) (o q : Object) → node_at s e ≡ Some (Node.Union ps) → choices has ps ≢ 1 → IsPlace s ps choice place part → Marks s has e o a (Pick choice q) → (p : Object) × Marks s has part p a q × (o ≡ Pick place p)
  from-pick e choice place part a ps o q at ne k m =
      let r = at-node s has (Node.Union ps) at m in
      let i = r.0 in
      let f = some-chosen (choices has ps) (choice_at has ps i) choice q r.3 ne r.7 in
      let here : place ≡ i = one_choice has ps place i part r.1 k.is_part r.4 k.marked (marked-has s has on r.5) (k.before ∙ f.0) in
      let same : r.1 ≡ part = same-part ps place r.1 part (subst (λ z. slice_get ps z ≡ Some r.1) (sym here) r.4) k.is_part in
      (r.2, subst (λ z. Marks s has part r.2 a z) (sym f.1) (subst (λ z. Marks s has z r.2 a r.3) same r.5), r.6 ∙ ap (λ z. Pick z r.2) (sym here))

  -- a union with one choice
  pub from-one : (e place part a : ℕ) (ps : List ℕ) (o m : Object) → node_at s e ≡ Some (Node.Union ps) → choices has ps ≡ 1 → IsPlace s ps 0 place part → Marks s has e o a m → (p : Object) × Marks s has part p a m × (o ≡ Pick place p)
  from-one e place part a ps o m at one k h =
      let r = at-node s has (Node.Union ps) at h in
      let i = r.0 in
      let few = choice_below has ps i r.1 r.4 (marked-has s has on r.5) in
      let none_before : choice_at has ps i ≡ 0 = omega arith in
      let here : place ≡ i = one_choice has ps place i part r.1 k.is_part r.4 k.marked (marked-has s has on r.5) (k.before ∙ sym none_before) in
      let same : r.1 ≡ part = same-part ps place r.1 part (subst (λ z. slice_get ps z ≡ Some r.1) (sym here) r.4) k.is_part in
      let is : m ≡ r.3 = r.7 ∙ ap (λ n. chosen n (choice_at has ps i) r.3) one in
      (r.2, subst (λ z. Marks s has part r.2 a z) (sym is) (subst (λ z. Marks s has z r.2 a r.3) same r.5), r.6 ∙ ap (λ z. Pick z r.2) (sym here))

  -- the pick of a product with several choices
  pub from-choice : (e choice place part a : ℕ) (ps : List ℕ) (o q : Object) → node_at s e ≡ Some (Node.Product ps) → IsPlace s ps choice place part → Marks s has e o a (Pick choice q) → (os : Objects) × (ms : Objects) × MarksOne s has ps os a place ms × (o ≡ Tuple os) × (q ≡ Tuple ms)
  from-choice e choice place part a ps o q at k m =
      let r = at-node s has (Node.Product ps) at m in
      let i = r.0 in
      let f = pick-chosen (choices has ps) (choice_at has ps i) choice q r.2 r.5 in
      let t = marked-one-has s has on r.3 in
      let here : place ≡ i = one_choice has ps place i part t.0 k.is_part t.1 k.marked t.2 (k.before ∙ f.0) in
      (r.1, r.2, subst (λ z. MarksOne s has ps r.1 a z r.2) (sym here) r.3, r.4, f.1)

  -- the tuple of a product with one choice
  pub from-tuple : (e place part a : ℕ) (ps : List ℕ) (o : Object) (members : Objects) → node_at s e ≡ Some (Node.Product ps) → IsPlace s ps 0 place part → Marks s has e o a (Tuple members) → (os : Objects) × MarksOne s has ps os a place members × (o ≡ Tuple os)
  from-tuple e place part a ps o members at k m =
      let r = at-node s has (Node.Product ps) at m in
      let i = r.0 in
      let f = tuple-chosen (choices has ps) (choice_at has ps i) members r.2 r.5 in
      let t = marked-one-has s has on r.3 in
      let few = choice_below has ps i t.0 t.1 t.2 in
      let one = f.0 in
      let none_before : choice_at has ps i ≡ 0 = omega arith in
      let here : place ≡ i = one_choice has ps place i part t.0 k.is_part t.1 k.marked t.2 (k.before ∙ sym none_before) in
      (r.1, subst (λ z. MarksOne s has ps r.1 a place z) (sym f.1) (subst (λ z. MarksOne s has ps r.1 a z r.2) (sym here) r.3), r.4)

-- A sequence comes apart at the marked object.
pub record Parted (s : Spec) (part : ℕ) (os before later : Objects) (a : ℕ) (m : Object) : Type 0 where
  pub object : Object
  pub atom : ℕ
  pub marks : Marks s (is_atomic_node s) part object atom m
  pub number_is : a ≡ sizes before + atom
  pub tokens : tokens_all os ≡ tokens_all before ++ (tokens_of object ++ tokens_all later)
  pub counted : count os ≡ count before + 1 + count later

-- A sequence that splits at its marked object has its tokens, its number of parts and its atom's
-- number composed of those before, at and after it.
pub parted : (s : Spec) {part a : ℕ} {os before later : Objects} {m : Object} → Splits s (is_atomic_node s) part os a before m later → Parted s part os before later a m
parted s {part} {a} {os} {before} {later} {m} (Splits.here o eo k eb) = record {
  object = o;
  atom = a;
  marks = k;
  number_is = let e = ap sizes eb in let f : sizes none ≡ 0 = refl in omega arith;
  tokens = ap tokens_all eo ∙ ap (λ z. tokens_all z ++ (tokens_of o ++ tokens_all later)) (sym eb);
  counted = let e = ap count eo in let f = ap count eb in let g : count none ≡ 0 = refl in let h : count (more o later) ≡ suc (count later) = refl in omega arith;
}
parted s {part} {a} {os} {before} {later} {m} (Splits.further o others front b eo k ea eb) =
    let r = parted s k in
    record {
      object = r.object;
      atom = r.atom;
      marks = r.marks;
      number_is = let e = ap sizes eb in let f : sizes (more o front) ≡ size o + sizes front = refl in let g = r.number_is in omega arith;
      tokens = ap tokens_all eo ∙ ap (λ z. tokens_of o ++ z) r.tokens ∙ sym (append_assoc (tokens_of o) (tokens_all front) (tokens_of r.object ++ tokens_all later)) ∙ ap (λ z. tokens_all z ++ (tokens_of r.object ++ tokens_all later)) (sym eb);
      counted = let e = ap count eo in let f = ap count eb in let g : count (more o front) ≡ suc (count front) = refl in let h : count (more o others) ≡ suc (count others) = refl in let i = r.counted in omega arith;
    }

module _ (s : Spec) (whole : List Token) (atom : ℕ) (ds : List Due) where
  pub put-due : (n told : ℕ) (os : Objects) (w : List Token) → CopiesObjects n (ReadsDue s whole atom ds told) os w → ReadsDue s whole atom (due_copies n ++ ds) told os w
  put-due zero told os w h = h
  put-due (suc n) told os w h = h

  pub put-dues : (k n told : ℕ) (os : Objects) (w : List Token) → CopiesObjects k (CopiesObjects n (ReadsDue s whole atom ds told)) os w → ReadsDue s whole atom (due_copies k ++ (due_copies n ++ ds)) told os w
  put-dues zero zero told os w h = h
  put-dues zero (suc n) told os w h = h
  put-dues (suc k) zero told os w h = h
  put-dues (suc k) (suc n) told os w h = h

  -- a tuple with one of its objects marked
  pub tuple-reads : {parts : List ℕ} {os ms : Objects} {a i : ℕ} (others : Objects) (w : List Token) (part : ExprId) (later told : ℕ) → MarksOne s (is_atomic_node s) parts os a i ms → slice_get parts i ≡ Some part.0 → later ≡ count ms - i - 1 → ReadsDue s whole atom ds (size_of w + a) others (w ++ tokens_all os) → CopiesObjects i (ReadsDue s whole atom (due.Marked part ∷ (due_copies later ++ ds)) told) (joined ms others) w
  tuple-reads {parts} {os} {ms} {a} {i} others w part later told (MarksOne.first p rest o m tail ep eo k ei em) at left h =
      let same : p ≡ part.0 = same-part parts 0 p part.0 (ap (λ z. slice_get z 0) ep) (subst (λ z. slice_get parts z ≡ Some part.0) ei at) in
      let all : ReadsDue s whole atom ds (size_of w + a) others ((w ++ tokens_of o) ++ tokens_all tail) = subst (ReadsDue s whole atom ds (size_of w + a) others) (ap (λ z. w ++ tokens_all z) eo ∙ sym (append_assoc w (tokens_of o) (tokens_all tail))) h in
      let so_many : count tail ≡ later = (let e = ap count em in let f : count (more m tail) ≡ suc (count tail) = refl in omega arith) in
      let rest_read : ReadsDue s whole atom (due_copies later ++ ds) (size_of w + a) (joined tail others) (w ++ tokens_of o) = put-due later (size_of w + a) (joined tail others) (w ++ tokens_of o) (subst (λ n. CopiesObjects n (ReadsDue s whole atom ds (size_of w + a)) (joined tail others) (w ++ tokens_of o)) so_many (passes-all (ReadsDue s whole atom ds (size_of w + a)) tail others (w ++ tokens_of o) all)) in
      let first : Unmarks s part.0 (ReadsDue s whole atom (due_copies later ++ ds)) m (joined tail others) w = record { atom = a; object = o; marks = subst (λ z. Marks s (is_atomic_node s) z o a m) same k; rest = rest_read } in
      subst (λ z. CopiesObjects z (ReadsDue s whole atom (due.Marked part ∷ (due_copies later ++ ds)) told) (joined ms others) w) (sym ei)
      (subst (λ z. CopiesObjects 0 (ReadsDue s whole atom (due.Marked part ∷ (due_copies later ++ ds)) told) (joined z others) w) (sym em) first)
  tuple-reads {parts} {os} {ms} {a} {i} others w part later told (MarksOne.later p rest o tail marked b j ep eo k ea ei em) at left h =
      let at_rest : slice_get rest j ≡ Some part.0 = (let e : slice_get (p ∷ rest) (suc j) ≡ Some part.0 = subst (λ z. slice_get z (suc j) ≡ Some part.0) ep (subst (λ z. slice_get parts z ≡ Some part.0) ei at) in e) in
      let so_far : size_of w + a ≡ size_of (w ++ tokens_of o) + b = (let e = size_of-append w (tokens_of o) in let f = size_of-tokens o in omega arith) in
      let all : ReadsDue s whole atom ds (size_of (w ++ tokens_of o) + b) others ((w ++ tokens_of o) ++ tokens_all tail) =
      subst (λ n. ReadsDue s whole atom ds n others ((w ++ tokens_of o) ++ tokens_all tail)) so_far (subst (ReadsDue s whole atom ds (size_of w + a) others) (ap (λ z. w ++ tokens_all z) eo ∙ sym (append_assoc w (tokens_of o) (tokens_all tail))) h) in
      let next = tuple-reads others (w ++ tokens_of o) part later told k at_rest (let e = ap count em in let f : count (more o marked) ≡ suc (count marked) = refl in omega arith) all in
      subst (λ z. CopiesObjects z (ReadsDue s whole atom (due.Marked part ∷ (due_copies later ++ ds)) told) (joined ms others) w) (sym ei)
      (subst (λ z. CopiesObjects (suc j) (ReadsDue s whole atom (due.Marked part ∷ (due_copies later ++ ds)) told) (joined z others) w) (sym em) next)
