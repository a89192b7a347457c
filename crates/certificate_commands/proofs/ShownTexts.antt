-- The text of an object is one or more bytes from space to ~.
use Rattle.std.proofs.Common.{rules, ◌≡◌, ℕ, zero, suc, ◌+◌, ◌/◌, ◌%◌, ◌<◌, ◌≤◌, ◌⊎◌, inl, inr, arith, Bool, true, false, cond, ◌||◌, ◌&&◌, List, [], ◌∷◌, ◌++◌, take, drop, length, length-append, refl, decimal}
use Rattle.std.specs.Prelude.{Option, Some, None, nat_eq, nat_le, nat_lt, slice_get, ◌==◌}
use Rattle.std.specs.Int.{is_in_range}
use Rattle.std.specs.Fmt.{digits, digits_onto, digit_glyph}
use Rattle.std.specs.List.{AllByRecursion, AllPass}
use Rattle.std.proofs.lemmas.Bool.{leb-true}
use Rattle.bz_model.specs.Spec.{Spec, Mode, Node, Range, node_at, range_at, node_of, range_of, body_of}
use Rattle.bz_model.specs.Object.{Object, Objects, none, more, Has, HaveEach, HaveAll, ClassHas, Belongs}
use Rattle.bz_model.specs.Object.Object.{Unit_, Dot, Pick, Tuple, SeqOf, SetOf, CycOf}
use Rattle.bz_model.specs.Measures.{size}
use Rattle.bz_model.specs.ObjectText.{Arrangement, PartText, put, in_order, least_of, rotated_to, spaced, leaf_text, label_text, text_by, texts_of_each, texts_of_all, class_text, object_text}
use Rattle.bz_laws.proofs.Samples.{AllByRecursion-append}
use Rattle.class_system.specs.Sound.{IsSound, HasLeafWord}
use Rattle.class_system.specs.Words.{is_run_byte}
use Rattle.certificate.specs.Fields.{IsPrinted}

-- Each byte is one from space to ~.
abbrev AreShown : List ℕ → Type 0
AreShown text = AllByRecursion (λ b. (32 ≤ b) × (b ≤ 126)) text

shown-both : (xs ys : List ℕ) → AreShown xs → AreShown ys → AreShown (xs ++ ys)
shown-both xs ys h k = AllByRecursion-append (λ b. (32 ≤ b) × (b ≤ 126)) xs ys h k

-- digits
glyph-shown : (d : ℕ) (small : Bool) → d < 10 → (32 ≤ cond small (48 + d) (87 + d)) × (cond small (48 + d) (87 + d) ≤ 126)
glyph-shown d true h = (omega arith, omega arith)
glyph-shown d false h = (omega arith, omega arith)

digits-shown : (k n : ℕ) (acc : List ℕ) → AreShown acc → AreShown (digits_onto k 10 false n acc)
digits-shown zero n acc h = h
digits-shown (suc k) n acc h = by (n / 10 == 0) (digits-shown k (n / 10) (digit_glyph false (n % 10) ∷ acc) here)
  where
    here : AreShown (digit_glyph false (n % 10) ∷ acc)
    here = (glyph-shown (n % 10) (nat_lt (n % 10) 10) (omega arith), h)

    by : (b : Bool) → AreShown (digits_onto k 10 false (n / 10) (digit_glyph false (n % 10) ∷ acc)) → AreShown (cond b (digit_glyph false (n % 10) ∷ acc) (digits_onto k 10 false (n / 10) (digit_glyph false (n % 10) ∷ acc)))
    by true later = here
    by false later = later

decimal-shown : (n : ℕ) → AreShown (decimal n)
unfolding digits
decimal-shown n = digits-shown 64 n [] tt

-- runs of letters, digits and underscores
either : (a b : Bool) → (a || b) ≡ true → (a ≡ true) ⊎ (b ≡ true)
either true b e = inl refl
either false b e = inr e

both : (a b : Bool) → (a && b) ≡ true → (a ≡ true) × (b ≡ true)
both true b e = (refl, e)
both false b e = absurd (cc)

in-range : (lo hi b : ℕ) → 32 ≤ lo → hi ≤ 126 → is_in_range lo hi b ≡ true → (32 ≤ b) × (b ≤ 126)
in-range lo hi b low high e =
    let parts = both (nat_le lo b) (nat_le b hi) e in
    let from = leb-true lo b parts.0 in
    let to = leb-true b hi parts.1 in
    (omega (arith, from, low), omega (arith, to, high))

byte-shown : (b : ℕ) → is_run_byte b ≡ true → (32 ≤ b) × (b ≤ 126)
byte-shown b e = elim (either ((is_in_range 48 57 b || is_in_range 65 90 b) || is_in_range 97 122 b) (nat_eq b 95) e) [
  | inl letter ↦ elim (either (is_in_range 48 57 b || is_in_range 65 90 b) (is_in_range 97 122 b) letter) [
    | inl upper ↦ elim (either (is_in_range 48 57 b) (is_in_range 65 90 b) upper) [
      | inl digit ↦ in-range 48 57 b (omega arith) (omega arith) digit
      | inr capital ↦ in-range 65 90 b (omega arith) (omega arith) capital
    ]
    | inr small ↦ in-range 97 122 b (omega arith) (omega arith) small
  ]
  | inr line ↦ let same : b ≡ 95 = search rules in (omega (arith, same), omega (arith, same))
]

run-shown : (word : List ℕ) → AllPass is_run_byte word → AreShown word
run-shown [] h = tt
run-shown (b ∷ word) h = (byte-shown b (h 0 0 (omega arith)), run-shown word (λ k d lt. h (suc k) d (omega arith)))

leaf-shown : (letter word : List ℕ) → AreShown letter → 1 ≤ length letter → AllPass is_run_byte word → IsPrinted (leaf_text letter word)
leaf-shown letter [] h some run = record { some = some; each = h }
leaf-shown letter (b ∷ word) h some run = record { some = omega arith; each = run-shown (b ∷ word) run }

label-shown : (m : Mode) (labels : List ℕ) → AreShown (label_text m labels)
label-shown Mode.Labelled (label ∷ labels) = ((omega arith, omega arith), decimal-shown label)
label-shown Mode.Labelled [] = tt
label-shown Mode.Unlabelled labels = tt

-- parts, in whatever order they are printed
abbrev ArePartsShown : List PartText → Type 0
ArePartsShown parts = AllByRecursion (λ p. AreShown p.text) parts

spaced-shown : (parts : List PartText) → ArePartsShown parts → AreShown (spaced parts)
spaced-shown [] h = tt
spaced-shown (p ∷ []) h = h.0
spaced-shown (p ∷ q ∷ parts) h = shown-both p.text (32 ∷ spaced (q ∷ parts)) h.0 ((omega arith, omega arith), spaced-shown (q ∷ parts) h.1)

put-shown : (p : PartText) (parts : List PartText) → AreShown p.text → ArePartsShown parts → ArePartsShown (put p parts)
put-shown p [] h k = (h, tt)
put-shown p (q ∷ parts) h k = by (nat_le p.least q.least) (put-shown p parts h k.1)
  where
    by : (b : Bool) → ArePartsShown (put p parts) → ArePartsShown (cond b (p ∷ q ∷ parts) (q ∷ put p parts))
    by true later = (h, k)
    by false later = (k.0, later)

order-shown : (parts : List PartText) → ArePartsShown parts → ArePartsShown (in_order parts)
order-shown [] h = tt
order-shown (p ∷ parts) h = put-shown p (in_order parts) h.0 (order-shown parts h.1)

parts-both : (parts others : List PartText) → ArePartsShown parts → ArePartsShown others → ArePartsShown (parts ++ others)
parts-both parts others h k = AllByRecursion-append (λ (p : PartText). AreShown p.text) parts others h k

rotated-shown : (label : ℕ) (seen parts : List PartText) → ArePartsShown seen → ArePartsShown parts → ArePartsShown (rotated_to label seen parts)
rotated-shown label seen [] h k = h
rotated-shown label seen (p ∷ parts) h k = by (nat_eq p.least label) (rotated-shown label (seen ++ p ∷ []) parts (parts-both seen (p ∷ []) h (k.0, tt)) k.1)
  where
    by : (b : Bool) → ArePartsShown (rotated_to label (seen ++ p ∷ []) parts) → ArePartsShown (cond b ((p ∷ parts) ++ seen) (rotated_to label (seen ++ p ∷ []) parts))
    by true later = parts-both (p ∷ parts) seen k h
    by false later = later

-- a text in brackets
in-brackets : (opener closer : ℕ) (text : List ℕ) → (32 ≤ opener) × (opener ≤ 126) → (32 ≤ closer) × (closer ≤ 126) → AreShown text → IsPrinted (opener ∷ (text ++ closer ∷ []))
in-brackets opener closer text h k shown = record { some = omega arith; each = (h, shown-both text (closer ∷ []) shown (k, tt)) }

-- a text after the number of an option
option-shown : (i : ℕ) (text : List ℕ) → IsPrinted text → IsPrinted ((decimal i ++ 46 ∷ []) ++ text)
option-shown i text h =
    let some = h.some in
    record { some = omega (arith, some, length-append (decimal i ++ 46 ∷ []) text); each = shown-both (decimal i ++ 46 ∷ []) text (shown-both (decimal i) (46 ∷ []) (decimal-shown i) ((omega arith, omega arith), tt)) h.each }

-- the word of a leaf, where a node is one
abbrev Worded : Option Node → Type 0
Worded None = Unit {0}
Worded (Some node) = HasLeafWord node

module _ (s : Spec) (sound : IsSound s) (of_class : ℕ → Object → List ℕ → List ℕ) (class_has : ℕ → Object → Type 0) (class_shown : (c : ℕ) (o : Object) (labels : List ℕ) → class_has c o → IsPrinted (of_class c o labels)) where
  worded-at : (e : ℕ) → Worded (node_at s e)
  worded-at e = by (node_at s e) refl
    where
      by : (o : Option Node) → node_at s e ≡ o → Worded o
      by None at = tt
      by (Some node) at = sound.leaves.at e node at

  worded-of : (o : Option ℕ) → Worded (node_of s o)
  worded-of None = tt
  worded-of (Some e) = worded-at e

  mutual
    text-shown : (node : Option Node) (r : Option Range) (o : Object) (labels : List ℕ) → Worded node → Has s class_has node r o → IsPrinted (text_by Arrangement.Canonical s of_class node o labels)
    text-shown None r o labels w h = absurd h
    text-shown (Some (Node.Empty word)) r Unit_ labels w h = leaf-shown (69 ∷ []) word ((omega arith, omega arith), tt) (omega arith) w.run
    text-shown (Some (Node.Empty word)) r o labels w h = absurd h
    text-shown (Some (Node.Atom word)) r Dot labels w h =
        let leaf = leaf-shown (90 ∷ []) word ((omega arith, omega arith), tt) (omega arith) w.run in
        let some = leaf.some in
        record { some = omega (arith, some, length-append (leaf_text (90 ∷ []) word) (label_text s.mode labels)); each = shown-both (leaf_text (90 ∷ []) word) (label_text s.mode labels) leaf.each (label-shown s.mode labels) }
    text-shown (Some (Node.Atom word)) r o labels w h = absurd h
    text-shown (Some (Node.Class c)) r o labels w h = class_shown c o labels h
    text-shown (Some (Node.Union parts)) r (Pick i o) labels w h =
        let part = text-shown (node_of s (slice_get parts i)) (range_of s (slice_get parts i)) o labels (worded-of (slice_get parts i)) h in
        let text = text_by Arrangement.Canonical s of_class (node_of s (slice_get parts i)) o labels in
        option-shown i text part
    text-shown (Some (Node.Union parts)) r o labels w h = absurd h
    text-shown (Some (Node.Product parts)) r (Tuple os) labels w h = in-brackets 40 41 (spaced (texts_of_each Arrangement.Canonical s of_class parts os labels)) (omega arith, omega arith) (omega arith, omega arith) (spaced-shown (texts_of_each Arrangement.Canonical s of_class parts os labels) (each-shown parts os labels h))
    text-shown (Some (Node.Product parts)) r o labels w h = absurd h
    text-shown (Some (Node.Seq part)) r (SeqOf os) labels w h = in-brackets 91 93 (spaced (texts_of_all Arrangement.Canonical s of_class part os labels)) (omega arith, omega arith) (omega arith, omega arith) (spaced-shown (texts_of_all Arrangement.Canonical s of_class part os labels) (all-shown part os labels h.1))
    text-shown (Some (Node.Seq part)) r o labels w h = absurd h
    text-shown (Some (Node.Set part)) r (SetOf os) labels w h =
        let parts = texts_of_all Arrangement.Canonical s of_class part os labels in
        in-brackets 123 125 (spaced (in_order parts)) (omega arith, omega arith) (omega arith, omega arith) (spaced-shown (in_order parts) (order-shown parts (all-shown part os labels h.1)))
    text-shown (Some (Node.Set part)) r o labels w h = absurd h
    text-shown (Some (Node.Cyc part)) r (CycOf os) labels w h =
        let parts = texts_of_all Arrangement.Canonical s of_class part os labels in
        in-brackets 60 62 (spaced (rotated_to (least_of parts) [] parts)) (omega arith, omega arith) (omega arith, omega arith) (spaced-shown (rotated_to (least_of parts) [] parts) (rotated-shown (least_of parts) [] parts tt (all-shown part os labels h.1)))
    text-shown (Some (Node.Cyc part)) r o labels w h = absurd h

    each-shown : (parts : List ℕ) (os : Objects) (labels : List ℕ) → HaveEach s class_has parts os → ArePartsShown (texts_of_each Arrangement.Canonical s of_class parts os labels)
    each-shown [] none labels h = tt
    each-shown [] (more o os) labels h = absurd h
    each-shown (part ∷ parts) none labels h = absurd h
    each-shown (part ∷ parts) (more o os) labels h =
        let first = text-shown (node_at s part) (range_at s part) o (take (size o) labels) (worded-at part) h.0 in
        (first.each, each-shown parts os (drop (size o) labels) h.1)

    all-shown : (part : ℕ) (os : Objects) (labels : List ℕ) → HaveAll s class_has part os → ArePartsShown (texts_of_all Arrangement.Canonical s of_class part os labels)
    all-shown part none labels h = tt
    all-shown part (more o os) labels h =
        let first = text-shown (node_at s part) (range_at s part) o (take (size o) labels) (worded-at part) h.0 in
        (first.each, all-shown part os (drop (size o) labels) h.1)

module _ (s : Spec) (sound : IsSound s) where
  class-shown : (h c : ℕ) (o : Object) (labels : List ℕ) → ClassHas s h c o → IsPrinted (class_text Arrangement.Canonical s h c o labels)
  class-shown zero c o labels has = absurd has
  class-shown (suc h) c o labels has = text-shown s sound (class_text Arrangement.Canonical s h) (ClassHas s h) (class-shown h) (node_of s (body_of s c)) (range_of s (body_of s c)) o labels (worded-of s sound (class_text Arrangement.Canonical s h) (ClassHas s h) (class-shown h) (body_of s c)) has

  -- the text of an object of a node is printed
  pub object-shown : (e : ℕ) (o : Object) (b : Belongs s e o) (labels : List ℕ) → IsPrinted (object_text s e o b labels)
  object-shown e o b labels = text-shown s sound (class_text Arrangement.Canonical s b.0) (ClassHas s b.0) (class-shown b.0) (node_at s e) (range_at s e) o labels (worded-at s sound (class_text Arrangement.Canonical s b.0) (ClassHas s b.0) (class-shown b.0) e) b.1
