-- A text is that of at most one object and labels: the node says at each byte what may follow.
use Rattle.std.proofs.Common.{◌≡◌, ◌≢◌, ℕ, zero, suc, ◌^◌, ◌<◌, ◌≤◌, ◌⊎◌, inl, inr, max, List, [], ◌∷◌, ◌++◌, length, take, drop, arith, refl, sym, ◌∙◌, ap, subst, Option, Some, None}
use Rattle.std.specs.Prelude.{slice_get, decimal, codes}
use Rattle.std.specs.List.{AllByRecursion}
use Rattle.std.specs.Str.Parse.{AllDigits}
use Rattle.std.proofs.lemmas.List.{append_assoc, append-nil, append_cancel_left, take-append-drop, length-take, length-drop}
use Rattle.std.proofs.lemmas.Fmt.{decimal_is_IsNumeral, decimal_injective}
use Rattle.std.proofs.lemmas.Str.Parse.{tells_digits}
use Rattle.std.proofs.Math.Nat.{le-max_left, le-max_right}
use Rattle.bz_model.specs.Spec.{Spec, Mode, Node, Range, node_at, range_at, node_of, range_of, body_of}
use Rattle.bz_model.specs.Object.{Object, Objects, none, more, Has, HaveEach, HaveAll, ClassHas, HasWithin, Belongs}
use Rattle.bz_model.specs.Measures.{size, sizes}
use Rattle.bz_model.specs.ObjectText.{Arrangement, HasLabels, IsObjectText, IsCanonicalText, object_text, text_by, texts_of_each, texts_of_all, class_text, text_within, spaced, leaf_text, label_text}
use Rattle.bz_laws.specs.Spelled.{IsWordByte, IsPlainNode, IsPlain}
use Rattle.bz_laws.proofs.Heights.{within-up_to}
use Rattle.bz_laws.proofs.Unions.{part_missing}
use Rattle.bz_laws.proofs.Texts.{one_text}

-- bytes that may follow a part's text: a space, and the four closing brackets
abbrev IsCloser : ℕ → Type 0
IsCloser b = (b ≡ 32) ⊎ (b ≡ 41) ⊎ (b ≡ 62) ⊎ (b ≡ 93) ⊎ (b ≡ 125)

abbrev IsRest : List ℕ → Type 0
IsRest [] = Unit {0}
IsRest (b ∷ bs) = IsCloser b

-- a list that doesn't begin with a digit
abbrev EndsDigits : List ℕ → Type 0
EndsDigits [] = Unit {0}
EndsDigits (b ∷ bs) = (b < 48) ⊎ (57 < b)

rest-ends : (r : List ℕ) → IsRest r → EndsDigits r
rest-ends [] h = tt
rest-ends (b ∷ bs) (inl e) = inl (omega arith)
rest-ends (b ∷ bs) (inr (inl e)) = inl (omega arith)
rest-ends (b ∷ bs) (inr (inr (inl e))) = inr (omega arith)
rest-ends (b ∷ bs) (inr (inr (inr (inl e)))) = inr (omega arith)
rest-ends (b ∷ bs) (inr (inr (inr (inr e)))) = inr (omega arith)

-- a byte that is none of these
abbrev IsOpener : ℕ → Type 0
IsOpener b = (b ≢ 32) × (b ≢ 41) × (b ≢ 62) × (b ≢ 93) × (b ≢ 125)

not-both : (b : ℕ) → IsOpener b → IsCloser b → ⊥
not-both b o (inl e) = o.0 e
not-both b o (inr (inl e)) = o.1 e
not-both b o (inr (inr (inl e))) = o.2 e
not-both b o (inr (inr (inr (inl e)))) = o.3 e
not-both b o (inr (inr (inr (inr e)))) = o.4 e

-- a text's first byte is such a byte
record Begins (t : List ℕ) : Type 0 where
  byte : ℕ
  rest : List ℕ
  is : t ≡ byte ∷ rest
  opener : IsOpener byte

head-same : (a b : ℕ) (xs ys : List ℕ) → a ∷ xs ≡ b ∷ ys → (a ≡ b) × (xs ≡ ys)
head-same a b xs ys e = (cc, cc)

no_closer : (t r q : List ℕ) (b : ℕ) → Begins t → IsCloser b → b ∷ r ≡ t ++ q → ⊥
no_closer t r q b s c e =
    let k : b ∷ r ≡ s.byte ∷ (s.rest ++ q) = e ∙ ap (λ u. u ++ q) s.is in
    not-both s.byte s.opener (subst IsCloser (head-same b s.byte r (s.rest ++ q) k).0 c)

-- numbers that end where their digits do
digits-same : (xs ys r q : List ℕ) → AllDigits 10 xs → AllDigits 10 ys → EndsDigits r → EndsDigits q → xs ++ r ≡ ys ++ q → (xs ≡ ys) × (r ≡ q)
digits-same [] [] r q h k m n e = (refl, e)
digits-same [] (y ∷ ys) [] q h k m n e = absurd (cc)
digits-same [] (y ∷ ys) (b ∷ r) q h k m n e = absurd (apart b y (tells_digits.parts y ys k).0 m (head-same b y r (ys ++ q) e).0)
  where
    apart : (b y : ℕ) → (48 ≤ y) × (y ≤ 57) → (b < 48) ⊎ (57 < b) → b ≡ y → ⊥
    apart b y d (inl low) e = let l = d.0 in omega arith
    apart b y d (inr high) e = let l = d.1 in omega arith
digits-same (x ∷ xs) [] r [] h k m n e = absurd (cc)
digits-same (x ∷ xs) [] r (b ∷ q) h k m n e = absurd (apart b x (tells_digits.parts x xs h).0 n (sym (head-same x b (xs ++ r) q e).0))
  where
    apart : (b y : ℕ) → (48 ≤ y) × (y ≤ 57) → (b < 48) ⊎ (57 < b) → b ≡ y → ⊥
    apart b y d (inl low) e = let l = d.0 in omega arith
    apart b y d (inr high) e = let l = d.1 in omega arith
digits-same (x ∷ xs) (y ∷ ys) r q h k m n e =
    let p = head-same x y (xs ++ r) (ys ++ q) e in
    let t = digits-same xs ys r q h.1 k.1 m n p.1 in
    let same : x ∷ xs ≡ y ∷ ys = cc (p.0, t.0) in
    (same, t.1)

decimal-same : (i j : ℕ) (r q : List ℕ) → i < 2 ^ 64 → j < 2 ^ 64 → EndsDigits r → EndsDigits q → decimal i ++ r ≡ decimal j ++ q → (i ≡ j) × (r ≡ q)
decimal-same i j r q h k m n e =
    let t = digits-same (decimal i) (decimal j) r q (decimal_is_IsNumeral i h).0.1 (decimal_is_IsNumeral j k).0.1 m n e in
    (decimal_injective i j h k t.0, t.1)

decimal-begins : (i : ℕ) (t : List ℕ) → i < 2 ^ 64 → Begins (decimal i ++ t)
decimal-begins i t h = go (decimal i) (decimal_is_IsNumeral i h).0
  where
    go : (ds : List ℕ) → (0 < length ds) × AllDigits 10 ds → Begins (ds ++ t)
    go [] d = absurd (let p = d.0 in omega arith)
    go (b ∷ ds) d = let k = (tells_digits.parts b ds d.1).0 in let low = k.0 in let high = k.1 in record { byte = b; rest = ds ++ t; is = refl; opener = (omega arith, omega arith, omega arith, omega arith, omega arith) }

word-opener : (b : ℕ) → IsWordByte b → IsOpener b
word-opener b (inl d) = let low = d.0 in let high = d.1 in (omega arith, omega arith, omega arith, omega arith, omega arith)
word-opener b (inr (inl d)) = let low = d.0 in let high = d.1 in (omega arith, omega arith, omega arith, omega arith, omega arith)
word-opener b (inr (inr (inl e))) = (omega arith, omega arith, omega arith, omega arith, omega arith)
word-opener b (inr (inr (inr d))) = let low = d.0 in let high = d.1 in (omega arith, omega arith, omega arith, omega arith, omega arith)

leaf-begins : (letter : ℕ) (word t : List ℕ) → IsOpener letter → AllByRecursion IsWordByte word → Begins (leaf_text (letter ∷ []) word ++ t)
leaf-begins letter [] t o w = record { byte = letter; rest = t; is = refl; opener = o }
leaf-begins letter (b ∷ word) t o w = record { byte = b; rest = word ++ t; is = refl; opener = word-opener b w.0 }

-- labels of an object, and of a list of objects
abbrev pub HasAllLabels : Mode → Objects → List ℕ → Type 0
HasAllLabels Mode.Unlabelled os labels = labels ≡ []
HasAllLabels Mode.Labelled os labels = (length labels ≡ sizes os) × AllByRecursion (λ label. (1 ≤ label) × (label ≤ 1000000)) labels

all-take : {A : Type 0} (P : A → Type 0) (n : ℕ) (xs : List A) → AllByRecursion P xs → AllByRecursion P (take n xs)
all-take P zero [] h = tt
all-take P zero (x ∷ xs) h = tt
all-take P (suc n) [] h = tt
all-take P (suc n) (x ∷ xs) h = (h.0, all-take P n xs h.1)

all-drop : {A : Type 0} (P : A → Type 0) (n : ℕ) (xs : List A) → AllByRecursion P xs → AllByRecursion P (drop n xs)
all-drop P zero [] h = tt
all-drop P zero (x ∷ xs) h = h
all-drop P (suc n) [] h = tt
all-drop P (suc n) (x ∷ xs) h = all-drop P n xs h.1

take-nil : (n : ℕ) (xs : List ℕ) → xs ≡ [] → take n xs ≡ []
take-nil zero xs e = refl
take-nil (suc n) [] e = refl
take-nil (suc n) (x ∷ xs) e = absurd (cc)

drop-nil : (n : ℕ) (xs : List ℕ) → xs ≡ [] → drop n xs ≡ []
drop-nil zero xs e = e
drop-nil (suc n) [] e = refl
drop-nil (suc n) (x ∷ xs) e = absurd (cc)

-- Of the labels of a list of objects, the first ones, as many as the first object's size, are
-- labels of the first object.
pub first-labels : (mode : Mode) (o : Object) (os : Objects) (labels : List ℕ) → HasAllLabels mode (more o os) labels → HasLabels mode o (take (size o) labels)
first-labels Mode.Unlabelled o os labels h = take-nil (size o) labels h
first-labels Mode.Labelled o os labels h = (let n = h.0 in omega (arith, length-take (size o) labels), all-take (λ label. (1 ≤ label) × (label ≤ 1000000)) (size o) labels h.1)

-- Of the labels of a list of objects, those after the first object's are labels of the other
-- objects.
pub other-labels : (mode : Mode) (o : Object) (os : Objects) (labels : List ℕ) → HasAllLabels mode (more o os) labels → HasAllLabels mode os (drop (size o) labels)
other-labels Mode.Unlabelled o os labels h = drop-nil (size o) labels h
other-labels Mode.Labelled o os labels h = (let n = h.0 in omega (arith, length-drop (size o) labels), all-drop (λ label. (1 ≤ label) × (label ≤ 1000000)) (size o) labels h.1)

no-labels : (labels : List ℕ) → length labels ≡ 0 → labels ≡ []
no-labels [] e = refl
no-labels (a ∷ labels) e = absurd (omega arith)

-- An empty list of objects has no labels.
pub none-labels : (mode : Mode) (labels : List ℕ) → HasAllLabels mode none labels → labels ≡ []
none-labels Mode.Unlabelled labels h = h
none-labels Mode.Labelled labels h = no-labels labels h.0

-- A neutral object has no labels.
pub neutral-labels : (mode : Mode) (labels : List ℕ) → HasLabels mode Object.Unit_ labels → labels ≡ []
neutral-labels Mode.Unlabelled labels h = h
neutral-labels Mode.Labelled labels h = no-labels labels h.0

pub join-labels : (n k : ℕ) (l m : List ℕ) → n ≡ k → take n l ≡ take k m → drop n l ≡ drop k m → l ≡ m
join-labels n k l m e t d = sym (take-append-drop n l) ∙ ap (λ z. z ++ drop n l) t ∙ ap (λ z. take k m ++ z) d ∙ take-append-drop k m

-- the label of an atom
label-same : (mode : Mode) (l m r q : List ℕ) → HasLabels mode Object.Dot l → HasLabels mode Object.Dot m → IsRest r → IsRest q → label_text mode l ++ r ≡ label_text mode m ++ q → (l ≡ m) × (r ≡ q)
label-same Mode.Unlabelled l m r q h k x y e = (h ∙ sym k, e)
label-same Mode.Labelled [] m r q h k x y e = absurd (let n : 0 ≡ 1 = h.0 in omega arith)
label-same Mode.Labelled (a ∷ b ∷ l) m r q h k x y e = absurd (let n : suc (suc (length l)) ≡ 1 = h.0 in omega arith)
label-same Mode.Labelled (a ∷ []) [] r q h k x y e = absurd (let n : 0 ≡ 1 = k.0 in omega arith)
label-same Mode.Labelled (a ∷ []) (b ∷ c ∷ m) r q h k x y e = absurd (let n : suc (suc (length m)) ≡ 1 = k.0 in omega arith)
label-same Mode.Labelled (a ∷ []) (b ∷ []) r q h k x y e =
    let small = h.1.0.1 in
    let small' = k.1.0.1 in
    let t = decimal-same a b r q (omega arith) (omega arith) (rest-ends r x) (rest-ends q y) (head-same 35 35 (decimal a ++ r) (decimal b ++ q) e).1 in
    let same : ◌≡◌ {A = List ℕ} (a ∷ []) (b ∷ []) = ap (λ n. n ∷ []) t.0 in
    (same, t.1)

-- the two objects, the labels and what follows are the same
record Same (o p : Object) (l m r q : List ℕ) : Type 0 where
  object : o ≡ p
  labels : l ≡ m
  rest : r ≡ q

record AllSame (os ps : Objects) (l m r q : List ℕ) : Type 0 where
  objects : os ≡ ps
  labels : l ≡ m
  rest : r ≡ q

abbrev IsGood : Option Node → Type 0
IsGood None = Unit {0}
IsGood (Some node) = IsPlainNode node

good-at : (s : Spec) → IsPlain s → (e : ℕ) → IsGood (node_at s e)
good-at s plain e = go (node_at s e) refl
  where
    go : (n : Option Node) → node_at s e ≡ n → IsGood n
    go None eq = tt
    go (Some node) eq = plain.node e node eq

good-of : (s : Spec) → IsPlain s → (e : Option ℕ) → IsGood (node_of s e)
good-of s plain None = tt
good-of s plain (Some e) = good-at s plain e

option-few : (s : Spec) (R : ℕ → Object → Type 0) (parts : List ℕ) (i : ℕ) (o : Object) → length parts ≤ 2 ^ 32 → Has s R (node_of s (slice_get parts i)) (range_of s (slice_get parts i)) o → i < 2 ^ 64
option-few s R parts i o few h =
    let out : length parts ≤ i → ⊥ = λ le. let none_there : Has s R (node_of s None) (range_of s None) o = subst (λ q. Has s R (node_of s q) (range_of s q) o) (part_missing parts i le) h in none_there in
    omega (arith, out)

-- Labels of a pick of a union's part are labels of the object that is picked.
pub pick-labels : (mode : Mode) (i : ℕ) (o : Object) (labels : List ℕ) → HasLabels mode (Object.Pick i o) labels → HasLabels mode o labels
pick-labels Mode.Unlabelled i o labels h = h
pick-labels Mode.Labelled i o labels h = h

-- Labels of an object are labels of a list of objects whose sizes add up to the object's size.
pub part-labels : (mode : Mode) (o : Object) (os : Objects) (labels : List ℕ) → size o ≡ sizes os → HasLabels mode o labels → HasAllLabels mode os labels
part-labels Mode.Unlabelled o os labels e h = h
part-labels Mode.Labelled o os labels e h = (h.0 ∙ e, h.1)

abbrev standing : Arrangement
standing = Arrangement.AsItStands

union_text : (d t r : List ℕ) → ((d ++ codes ".") ++ t) ++ r ≡ d ++ (46 ∷ (t ++ r))
union_text d t r = append_assoc (d ++ codes ".") t r ∙ append_assoc d (codes ".") (t ++ r)

module _ (s : Spec) (plain : IsPlain s) (R : ℕ → Object → Type 0) (T : ℕ → Object → List ℕ → List ℕ)
    (class_begins : (c : ℕ) (o : Object) (l : List ℕ) → R c o → Begins (T c o l)) where
  begins : (n : Option Node) → IsGood n → (g : Option Range) (o : Object) (l : List ℕ) → Has s R n g o → Begins (text_by standing s T n o l)
  begins (Some (Node.Class c)) good g o l h = class_begins c o l h
  begins (Some (Node.Empty w)) good g Object.Unit_ l h = subst Begins (append-nil (leaf_text (69 ∷ []) w)) (leaf-begins 69 w [] (omega arith, omega arith, omega arith, omega arith, omega arith) good)
  begins (Some (Node.Atom w)) good g Object.Dot l h = leaf-begins 90 w (label_text s.mode l) (omega arith, omega arith, omega arith, omega arith, omega arith) good
  begins (Some (Node.Union parts)) good g (Object.Pick i o) l h =
      subst Begins (sym (append_assoc (decimal i) (codes ".") (text_by standing s T (node_of s (slice_get parts i)) o l)))
      (decimal-begins i (codes "." ++ text_by standing s T (node_of s (slice_get parts i)) o l) (option-few s R parts i o good h))
  begins (Some (Node.Product parts)) good g (Object.Tuple os) l h = record { byte = 40; rest = spaced (texts_of_each standing s T parts os l) ++ codes ")"; is = refl; opener = (omega arith, omega arith, omega arith, omega arith, omega arith) }
  begins (Some (Node.Seq part)) good g (Object.SeqOf os) l h = record { byte = 91; rest = spaced (texts_of_all standing s T part os l) ++ codes "]"; is = refl; opener = (omega arith, omega arith, omega arith, omega arith, omega arith) }
  begins (Some (Node.Set part)) good g (Object.SetOf os) l h = record { byte = 123; rest = spaced (texts_of_all standing s T part os l) ++ codes "}"; is = refl; opener = (omega arith, omega arith, omega arith, omega arith, omega arith) }
  begins (Some (Node.Cyc part)) good g (Object.CycOf os) l h = record { byte = 60; rest = spaced (texts_of_all standing s T part os l) ++ codes ">"; is = refl; opener = (omega arith, omega arith, omega arith, omega arith, omega arith) }
  begins _ good g _ l h = elim h [ ]

  abbrev text_at : ℕ → Object → List ℕ → List ℕ
  text_at part o l = text_by standing s T (node_at s part) o l

  part_begins : (part : ℕ) (o : Object) (l : List ℕ) → Has s R (node_at s part) (range_at s part) o → Begins (text_at part o l)
  part_begins part o l h = begins (node_at s part) (good-at s plain part) (range_at s part) o l h

  module _ (class_same : (c : ℕ) (o p : Object) (l m r q : List ℕ) → R c o → R c p → HasLabels s.mode o l → HasLabels s.mode p m → IsRest r → IsRest q → T c o l ++ r ≡ T c p m ++ q → Same o p l m r q) where
    mutual
      same : (n : Option Node) → IsGood n → (g : Option Range) (o p : Object) (l m r q : List ℕ) → Has s R n g o → Has s R n g p → HasLabels s.mode o l → HasLabels s.mode p m → IsRest r → IsRest q → text_by standing s T n o l ++ r ≡ text_by standing s T n p m ++ q → Same o p l m r q
      same (Some (Node.Class c)) good g o p l m r q h k x y a b e = class_same c o p l m r q h k x y a b e
      same (Some (Node.Empty w)) good g Object.Unit_ Object.Unit_ l m r q h k x y a b e = record { object = refl; labels = neutral-labels s.mode l x ∙ sym (neutral-labels s.mode m y); rest = append_cancel_left (leaf_text (codes "E") w) r q e }
      same (Some (Node.Atom w)) good g Object.Dot Object.Dot l m r q h k x y a b e =
          let f : label_text s.mode l ++ r ≡ label_text s.mode m ++ q = append_cancel_left (leaf_text (codes "Z") w) (label_text s.mode l ++ r) (label_text s.mode m ++ q) (sym (append_assoc (leaf_text (codes "Z") w) (label_text s.mode l) r) ∙ e ∙ append_assoc (leaf_text (codes "Z") w) (label_text s.mode m) q) in
          let t = label-same s.mode l m r q x y a b f in
          record { object = refl; labels = t.0; rest = t.1 }
      same (Some (Node.Union parts)) good g (Object.Pick i o) (Object.Pick j p) l m r q h k x y a b e =
          let t = text_by standing s T (node_of s (slice_get parts i)) o l in
          let u = text_by standing s T (node_of s (slice_get parts j)) p m in
          let d = decimal-same i j (46 ∷ (t ++ r)) (46 ∷ (u ++ q)) (option-few s R parts i o good h) (option-few s R parts j p good k) (inl (omega arith)) (inl (omega arith)) (sym (union_text (decimal i) t r) ∙ e ∙ union_text (decimal j) u q) in
          let f : t ++ r ≡ text_by standing s T (node_of s (slice_get parts i)) p m ++ q = (head-same 46 46 (t ++ r) (u ++ q) d.1).1 ∙ ap (λ z. text_by standing s T (node_of s (slice_get parts z)) p m ++ q) (sym d.0) in
          let v = same (node_of s (slice_get parts i)) (good-of s plain (slice_get parts i)) (range_of s (slice_get parts i)) o p l m r q h (subst (λ z. Has s R (node_of s (slice_get parts z)) (range_of s (slice_get parts z)) p) (sym d.0) k) (pick-labels s.mode i o l x) (pick-labels s.mode j p m y) a b f in
          record { object = ap (λ z. Object.Pick z o) d.0 ∙ ap (Object.Pick j) v.object; labels = v.labels; rest = v.rest }
      same (Some (Node.Product parts)) good g (Object.Tuple os) (Object.Tuple ps) l m r q h k x y a b e =
          let t = spaced (texts_of_each standing s T parts os l) in
          let u = spaced (texts_of_each standing s T parts ps m) in
          let v = same_each parts os ps l m r q h k (part-labels s.mode (Object.Tuple os) os l refl x) (part-labels s.mode (Object.Tuple ps) ps m refl y) (sym (append_assoc t (codes ")") r) ∙ (head-same 40 40 ((t ++ codes ")") ++ r) ((u ++ codes ")") ++ q) e).1 ∙ append_assoc u (codes ")") q) in
          record { object = ap Object.Tuple v.objects; labels = v.labels; rest = v.rest }
      same (Some (Node.Seq part)) good g (Object.SeqOf os) (Object.SeqOf ps) l m r q h k x y a b e =
          let t = spaced (texts_of_all standing s T part os l) in
          let u = spaced (texts_of_all standing s T part ps m) in
          let v = same_all 93 (omega arith) (inr (inr (inr (inl refl)))) part os ps l m r q h.1 k.1 (part-labels s.mode (Object.SeqOf os) os l refl x) (part-labels s.mode (Object.SeqOf ps) ps m refl y) (sym (append_assoc t (codes "]") r) ∙ (head-same 91 91 ((t ++ codes "]") ++ r) ((u ++ codes "]") ++ q) e).1 ∙ append_assoc u (codes "]") q) in
          record { object = ap Object.SeqOf v.objects; labels = v.labels; rest = v.rest }
      same (Some (Node.Set part)) good g (Object.SetOf os) (Object.SetOf ps) l m r q h k x y a b e =
          let t = spaced (texts_of_all standing s T part os l) in
          let u = spaced (texts_of_all standing s T part ps m) in
          let v = same_all 125 (omega arith) (inr (inr (inr (inr refl)))) part os ps l m r q h.1 k.1 (part-labels s.mode (Object.SetOf os) os l refl x) (part-labels s.mode (Object.SetOf ps) ps m refl y) (sym (append_assoc t (codes "}") r) ∙ (head-same 123 123 ((t ++ codes "}") ++ r) ((u ++ codes "}") ++ q) e).1 ∙ append_assoc u (codes "}") q) in
          record { object = ap Object.SetOf v.objects; labels = v.labels; rest = v.rest }
      same (Some (Node.Cyc part)) good g (Object.CycOf os) (Object.CycOf ps) l m r q h k x y a b e =
          let t = spaced (texts_of_all standing s T part os l) in
          let u = spaced (texts_of_all standing s T part ps m) in
          let v = same_all 62 (omega arith) (inr (inr (inl refl))) part os ps l m r q h.1 k.1 (part-labels s.mode (Object.CycOf os) os l refl x) (part-labels s.mode (Object.CycOf ps) ps m refl y) (sym (append_assoc t (codes ">") r) ∙ (head-same 60 60 ((t ++ codes ">") ++ r) ((u ++ codes ">") ++ q) e).1 ∙ append_assoc u (codes ">") q) in
          record { object = ap Object.CycOf v.objects; labels = v.labels; rest = v.rest }
      same (Some (Node.Empty w)) good g Object.Unit_ p l m r q h k x y a b e = elim k [ ]
      same (Some (Node.Atom w)) good g Object.Dot p l m r q h k x y a b e = elim k [ ]
      same (Some (Node.Union parts)) good g (Object.Pick i o) p l m r q h k x y a b e = elim k [ ]
      same (Some (Node.Product parts)) good g (Object.Tuple os) p l m r q h k x y a b e = elim k [ ]
      same (Some (Node.Seq part)) good g (Object.SeqOf os) p l m r q h k x y a b e = elim k [ ]
      same (Some (Node.Set part)) good g (Object.SetOf os) p l m r q h k x y a b e = elim k [ ]
      same (Some (Node.Cyc part)) good g (Object.CycOf os) p l m r q h k x y a b e = elim k [ ]
      same n good g o p l m r q h k x y a b e = elim h [ ]

      same_each : (parts : List ℕ) (os ps : Objects) (l m r q : List ℕ) → HaveEach s R parts os → HaveEach s R parts ps → HasAllLabels s.mode os l → HasAllLabels s.mode ps m → spaced (texts_of_each standing s T parts os l) ++ (41 ∷ r) ≡ spaced (texts_of_each standing s T parts ps m) ++ (41 ∷ q) → AllSame os ps l m r q
      same_each [] none none l m r q h k x y e = record { objects = refl; labels = none-labels s.mode l x ∙ sym (none-labels s.mode m y); rest = (head-same 41 41 r q e).1 }
      same_each (part ∷ []) (more o none) (more p none) l m r q h k x y e =
          let v = same (node_at s part) (good-at s plain part) (range_at s part) o p (take (size o) l) (take (size p) m) (41 ∷ r) (41 ∷ q) h.0 k.0 (first-labels s.mode o none l x) (first-labels s.mode p none m y) (inr (inl refl)) (inr (inl refl)) e in
          record { objects = ap (λ z. more z none) v.object; labels = join-labels (size o) (size p) l m (ap size v.object) v.labels (none-labels s.mode (drop (size o) l) (other-labels s.mode o none l x) ∙ sym (none-labels s.mode (drop (size p) m) (other-labels s.mode p none m y))); rest = (head-same 41 41 r q v.rest).1 }
      same_each (part ∷ part' ∷ parts) (more o (more o' os)) (more p (more p' ps)) l m r q h k x y e =
          let t = spaced (texts_of_each standing s T (part' ∷ parts) (more o' os) (drop (size o) l)) in
          let u = spaced (texts_of_each standing s T (part' ∷ parts) (more p' ps) (drop (size p) m)) in
          let v = same (node_at s part) (good-at s plain part) (range_at s part) o p (take (size o) l) (take (size p) m) (32 ∷ (t ++ (41 ∷ r))) (32 ∷ (u ++ (41 ∷ q))) h.0 k.0 (first-labels s.mode o (more o' os) l x) (first-labels s.mode p (more p' ps) m y) (inl refl) (inl refl) (sym (append_assoc (text_at part o (take (size o) l)) (32 ∷ t) (41 ∷ r)) ∙ e ∙ append_assoc (text_at part p (take (size p) m)) (32 ∷ u) (41 ∷ q)) in
          let w = same_each (part' ∷ parts) (more o' os) (more p' ps) (drop (size o) l) (drop (size p) m) r q h.1 k.1 (other-labels s.mode o (more o' os) l x) (other-labels s.mode p (more p' ps) m y) (head-same 32 32 (t ++ (41 ∷ r)) (u ++ (41 ∷ q)) v.rest).1 in
          record { objects = ap (λ z. more z (more o' os)) v.object ∙ ap (more p) w.objects; labels = join-labels (size o) (size p) l m (ap size v.object) v.labels w.labels; rest = w.rest }
      same_each [] none (more p ps) l m r q h k x y e = elim k [ ]
      same_each [] (more o os) ps l m r q h k x y e = elim h [ ]
      same_each (part ∷ parts) none ps l m r q h k x y e = elim h [ ]
      same_each (part ∷ parts) (more o os) none l m r q h k x y e = elim k [ ]
      same_each (part ∷ []) (more o none) (more p (more p' ps)) l m r q h k x y e = elim k.1 [ ]
      same_each (part ∷ []) (more o (more o' os)) (more p ps) l m r q h k x y e = elim h.1 [ ]
      same_each (part ∷ part' ∷ parts) (more o none) (more p ps) l m r q h k x y e = elim h.1 [ ]
      same_each (part ∷ part' ∷ parts) (more o (more o' os)) (more p none) l m r q h k x y e = elim k.1 [ ]

      same_all : (c : ℕ) → c ≢ 32 → IsCloser c → (part : ℕ) (os ps : Objects) (l m r q : List ℕ) → HaveAll s R part os → HaveAll s R part ps → HasAllLabels s.mode os l → HasAllLabels s.mode ps m → spaced (texts_of_all standing s T part os l) ++ (c ∷ r) ≡ spaced (texts_of_all standing s T part ps m) ++ (c ∷ q) → AllSame os ps l m r q
      same_all c ne cl part none none l m r q h k x y e = record { objects = refl; labels = none-labels s.mode l x ∙ sym (none-labels s.mode m y); rest = (head-same c c r q e).1 }
      same_all c ne cl part none (more p none) l m r q h k x y e = absurd (no_closer (text_at part p (take (size p) m)) r (c ∷ q) c (part_begins part p (take (size p) m) k.0) cl e)
      same_all c ne cl part none (more p (more p' ps)) l m r q h k x y e =
          let u = spaced (texts_of_all standing s T part (more p' ps) (drop (size p) m)) in
          absurd (no_closer (text_at part p (take (size p) m)) r (32 ∷ (u ++ (c ∷ q))) c (part_begins part p (take (size p) m) k.0) cl (e ∙ append_assoc (text_at part p (take (size p) m)) (32 ∷ u) (c ∷ q)))
      same_all c ne cl part (more o none) none l m r q h k x y e = absurd (no_closer (text_at part o (take (size o) l)) q (c ∷ r) c (part_begins part o (take (size o) l) h.0) cl (sym e))
      same_all c ne cl part (more o (more o' os)) none l m r q h k x y e =
          let t = spaced (texts_of_all standing s T part (more o' os) (drop (size o) l)) in
          absurd (no_closer (text_at part o (take (size o) l)) q (32 ∷ (t ++ (c ∷ r))) c (part_begins part o (take (size o) l) h.0) cl (sym e ∙ append_assoc (text_at part o (take (size o) l)) (32 ∷ t) (c ∷ r)))
      same_all c ne cl part (more o none) (more p none) l m r q h k x y e =
          let v = same (node_at s part) (good-at s plain part) (range_at s part) o p (take (size o) l) (take (size p) m) (c ∷ r) (c ∷ q) h.0 k.0 (first-labels s.mode o none l x) (first-labels s.mode p none m y) cl cl e in
          record { objects = ap (λ z. more z none) v.object; labels = join-labels (size o) (size p) l m (ap size v.object) v.labels (none-labels s.mode (drop (size o) l) (other-labels s.mode o none l x) ∙ sym (none-labels s.mode (drop (size p) m) (other-labels s.mode p none m y))); rest = (head-same c c r q v.rest).1 }
      same_all c ne cl part (more o none) (more p (more p' ps)) l m r q h k x y e =
          let u = spaced (texts_of_all standing s T part (more p' ps) (drop (size p) m)) in
          let v = same (node_at s part) (good-at s plain part) (range_at s part) o p (take (size o) l) (take (size p) m) (c ∷ r) (32 ∷ (u ++ (c ∷ q))) h.0 k.0 (first-labels s.mode o none l x) (first-labels s.mode p (more p' ps) m y) cl (inl refl) (e ∙ append_assoc (text_at part p (take (size p) m)) (32 ∷ u) (c ∷ q)) in
          absurd (ne (head-same c 32 r (u ++ (c ∷ q)) v.rest).0)
      same_all c ne cl part (more o (more o' os)) (more p none) l m r q h k x y e =
          let t = spaced (texts_of_all standing s T part (more o' os) (drop (size o) l)) in
          let v = same (node_at s part) (good-at s plain part) (range_at s part) o p (take (size o) l) (take (size p) m) (32 ∷ (t ++ (c ∷ r))) (c ∷ q) h.0 k.0 (first-labels s.mode o (more o' os) l x) (first-labels s.mode p none m y) (inl refl) cl (sym (append_assoc (text_at part o (take (size o) l)) (32 ∷ t) (c ∷ r)) ∙ e) in
          absurd (ne (sym (head-same 32 c (t ++ (c ∷ r)) q v.rest).0))
      same_all c ne cl part (more o (more o' os)) (more p (more p' ps)) l m r q h k x y e =
          let t = spaced (texts_of_all standing s T part (more o' os) (drop (size o) l)) in
          let u = spaced (texts_of_all standing s T part (more p' ps) (drop (size p) m)) in
          let v = same (node_at s part) (good-at s plain part) (range_at s part) o p (take (size o) l) (take (size p) m) (32 ∷ (t ++ (c ∷ r))) (32 ∷ (u ++ (c ∷ q))) h.0 k.0 (first-labels s.mode o (more o' os) l x) (first-labels s.mode p (more p' ps) m y) (inl refl) (inl refl) (sym (append_assoc (text_at part o (take (size o) l)) (32 ∷ t) (c ∷ r)) ∙ e ∙ append_assoc (text_at part p (take (size p) m)) (32 ∷ u) (c ∷ q)) in
          let w = same_all c ne cl part (more o' os) (more p' ps) (drop (size o) l) (drop (size p) m) r q h.1 k.1 (other-labels s.mode o (more o' os) l x) (other-labels s.mode p (more p' ps) m y) (head-same 32 32 (t ++ (c ∷ r)) (u ++ (c ∷ q)) v.rest).1 in
          record { objects = ap (λ z. more z (more o' os)) v.object ∙ ap (more p) w.objects; labels = join-labels (size o) (size p) l m (ap size v.object) v.labels w.labels; rest = w.rest }

-- classes, by height
module _ (s : Spec) (plain : IsPlain s) where
  class_begins : (h c : ℕ) (o : Object) (l : List ℕ) → ClassHas s h c o → Begins (class_text standing s h c o l)
  class_begins zero c o l k = elim k [ ]
  class_begins (suc h) c o l k = begins s plain (ClassHas s h) (class_text standing s h) (class_begins h) (node_of s (body_of s c)) (good-of s plain (body_of s c)) (range_of s (body_of s c)) o l k

  class_same : (h c : ℕ) (o p : Object) (l m r q : List ℕ) → ClassHas s h c o → ClassHas s h c p → HasLabels s.mode o l → HasLabels s.mode p m → IsRest r → IsRest q → class_text standing s h c o l ++ r ≡ class_text standing s h c p m ++ q → Same o p l m r q
  class_same zero c o p l m r q h k x y a b e = elim h [ ]
  class_same (suc n) c o p l m r q h k x y a b e = same s plain (ClassHas s n) (class_text standing s n) (class_begins n) (class_same n) (node_of s (body_of s c)) (good-of s plain (body_of s c)) (range_of s (body_of s c)) o p l m r q h k x y a b e

  within_same : (h : ℕ) (e : ℕ) (o p : Object) (l m : List ℕ) → HasWithin s h (Some e) o → HasWithin s h (Some e) p → HasLabels s.mode o l → HasLabels s.mode p m → text_within standing s h (Some e) o l ≡ text_within standing s h (Some e) p m → Same o p l m [] []
  within_same n e o p l m h k x y eq = same s plain (ClassHas s n) (class_text standing s n) (class_begins n) (class_same n) (node_at s e) (good-at s plain e) (range_at s e) o p l m [] [] h k x y tt tt (append-nil (text_within standing s n (Some e) o l) ∙ eq ∙ sym (append-nil (text_within standing s n (Some e) p m)))

  -- a text is that of at most one object and labels
  pub one_reading : (e : ℕ) (text : List ℕ) (o p : Object) (l m : List ℕ) → IsObjectText s e text o l → IsObjectText s e text p m → (o ≡ p) × (l ≡ m)
  one_reading e text o p l m a b =
      let h : ℕ = max a.belongs.0 b.belongs.0 in
      let c : Belongs s e o = (max a.belongs.0 b.belongs.0, within-up_to s a.belongs.0 (max a.belongs.0 b.belongs.0) (omega (arith, le-max_left)) (Some e) o a.belongs.1) in
      let d : Belongs s e p = (max a.belongs.0 b.belongs.0, within-up_to s b.belongs.0 (max a.belongs.0 b.belongs.0) (omega (arith, le-max_right)) (Some e) p b.belongs.1) in
      let t = within_same (max a.belongs.0 b.belongs.0) e o p l m c.1 d.1 a.labelled b.labelled (one_text standing s e o l c a.belongs ∙ sym a.spelled ∙ b.spelled ∙ one_text standing s e p m b.belongs d) in
      (t.object, t.labels)

  -- a canonical text is the text of the object that is read from it
  pub printed_again : (e : ℕ) (text : List ℕ) (o p : Object) (l m : List ℕ) (b : Belongs s e p) → IsCanonicalText s e text o l → IsObjectText s e text p m → text ≡ object_text s e p b m
  printed_again e text o p l m b a k =
      let t = one_reading e text o p l m a.read k in
      subst (λ z. (c : Belongs s e z) → text ≡ object_text s e z c m) t.0
      (subst (λ n. (c : Belongs s e o) → text ≡ object_text s e o c n) t.1 (λ c. a.printed ∙ one_text Arrangement.Canonical s e o l a.read.belongs c)) b
