-- What was read with an object, part by part.
use Rattle.std.proofs.Common.{◌≡◌, ℕ, List, [], ◌∷◌, ◌++◌, take, drop, refl, sym, ◌∙◌, ap, append_assoc, append-nil, Bool, true, false, ◌&&◌, Option, Some, None}
use Rattle.std.proofs.lemmas.List.{take-append-drop}
use Rattle.bz_model.specs.Spec.{Mode}
use Rattle.bz_model.specs.Object.{Object, Objects, none, more, count}
use Rattle.bz_model.specs.Object.Object.{Unit_, Dot, Pick, Tuple}
use Rattle.bz_model.specs.Measures.{size}
use Rattle.bz_model.specs.ObjectText.{least_label, lesser_label}
use Rattle.bz_laws.proofs.Items.{lesser-zero, lesser-assoc, least-append}
use Rattle.bz_laws.proofs.Readings.{HasAllLabels, none-labels, other-labels}
use Rattle.object_store.specs.declared.token.Token.{Token}
use Rattle.object_store.specs.declared.token.Token.TheVariants as token
use Rattle.object_store.specs.Tokens.{tokens_of, tokens_all}
use Rattle.object_text.specs.declared.parsed.Kind.{Kind}
use Rattle.object_text.specs.declared.parsed.Kind.TheVariants.{Sequence, Set, Cycle}
use Rattle.object_text.specs.Taken.{OpenList, Taken, in_order, parts_in_order, follows_mark, next_mark, with_token, with_label, with_object, opened, parted, closed}
use Rattle.object_text.proofs.ObjectTexts.{list_object}

abbrev pub make : List Token → List ℕ → ℕ → Bool → List OpenList → Taken
make tokens labels least ordered lists = record { tokens = tokens; labels = labels; least = least; ordered = ordered; lists = lists }

make-same : {t u : List Token} {l m : List ℕ} {a b : ℕ} {p q : Bool} (lists : List OpenList) → t ≡ u → l ≡ m → a ≡ b → p ≡ q → make t l a p lists ≡ make u m b q lists
make-same {t} {u} {l} {m} {a} {b} {p} {q} lists e f g h = ap (λ z. make z l a p lists) e ∙ ap (λ z. make u z a p lists) f ∙ ap (λ z. make u m z p lists) g ∙ ap (λ z. make u m b z lists) h

and-true : (b : Bool) → (b && true) ≡ b
and-true true = refl
and-true false = refl

and-assoc : (a b c : Bool) → ((a && b) && c) ≡ (a && (b && c))
and-assoc true b c = refl
and-assoc false b c = refl

split-least : (n : ℕ) (l : List ℕ) → lesser_label (least_label (take n l)) (least_label (drop n l)) ≡ least_label l
split-least n l = sym (least-append (take n l) (drop n l)) ∙ ap least_label (take-append-drop n l)

-- What was read where objects are read one after the other, each with as many labels as it has atoms, and something is done behind each.
abbrev pub through : (Taken → Taken) → Taken → Objects → List ℕ → Taken
through ended t none l = t
through ended t (more o os) l = through ended (ended (with_object t o (take (size o) l))) os (drop (size o) l)

abbrev pub same : Taken → Taken
same t = t

-- the parts of a tuple
through-each : (mode : Mode) (os : Objects) (l : List ℕ) (mark : Option ℕ) (tokens : List Token) (labels : List ℕ) (least : ℕ) (ordered : Bool) (lists : List OpenList) → HasAllLabels mode os l → through same (make tokens labels least ordered lists) os l ≡ make (tokens ++ tokens_all os) (labels ++ l) (lesser_label least (least_label l)) (ordered && parts_in_order Sequence mark os l) lists
through-each mode none l mark tokens labels least ordered lists h =
    let e : l ≡ [] = none-labels mode l h in
    make-same lists (sym (append-nil tokens)) (sym (append-nil labels) ∙ ap (λ z. labels ++ z) (sym e)) (sym (lesser-zero least) ∙ ap (λ z. lesser_label least (least_label z)) (sym e)) (sym (and-true ordered))
through-each mode (more o os) l mark tokens labels least ordered lists h =
    let a : ℕ = least_label (take (size o) l) in
    let rest : List ℕ = drop (size o) l in
    through-each mode os (drop (size o) l) (Some a) (tokens ++ tokens_of o) (labels ++ take (size o) l) (lesser_label least a) (ordered && in_order o (take (size o) l)) lists (other-labels mode o os l h)
    ∙ make-same lists
    (append_assoc tokens (tokens_of o) (tokens_all os))
    (append_assoc labels (take (size o) l) (drop (size o) l) ∙ ap (λ z. labels ++ z) (take-append-drop (size o) l))
    (lesser-assoc least a (least_label rest) ∙ ap (lesser_label least) (split-least (size o) l))
    (and-assoc ordered (in_order o (take (size o) l)) (parts_in_order Sequence (Some a) os rest))

-- Reading the parts of a tuple one after the other, each with its own labels, is reading the tuple
-- with all the labels.
pub through-tuple : (mode : Mode) (os : Objects) (l : List ℕ) (t : Taken) → HasAllLabels mode os l → through same t os l ≡ with_object t (Tuple os) l
through-tuple mode os l t h = through-each mode os l None t.tokens t.labels t.least t.ordered t.lists h

abbrev marks : Kind → Option ℕ → Objects → List ℕ → Option ℕ
marks kind mark none l = mark
marks kind mark (more o os) l = marks kind (next_mark kind mark (least_label (take (size o) l))) os (drop (size o) l)

abbrev frame : Kind → List Token → ℕ → Option ℕ → OpenList
frame kind tokens least mark = record { kind = kind; tokens = tokens; least = least; mark = mark }

-- the parts of a list
through-parts : (mode : Mode) (os : Objects) (l : List ℕ) (kind : Kind) (before : List Token) (outer : ℕ) (mark : Option ℕ) (tokens : List Token) (labels : List ℕ) (ordered : Bool) (lists : List OpenList) → HasAllLabels mode os l → through parted (make tokens labels 0 ordered (frame kind before outer mark ∷ lists)) os l ≡ make (tokens ++ tokens_all os) (labels ++ l) 0 (ordered && parts_in_order kind mark os l) (frame kind before (lesser_label outer (least_label l)) (marks kind mark os l) ∷ lists)
through-parts mode none l kind before outer mark tokens labels ordered lists h =
    let e : l ≡ [] = none-labels mode l h in
    make-same (frame kind before outer mark ∷ lists) (sym (append-nil tokens)) (sym (append-nil labels) ∙ ap (λ z. labels ++ z) (sym e)) refl (sym (and-true ordered))
    ∙ ap (λ n. make (tokens ++ []) (labels ++ l) 0 (ordered && true) (frame kind before n mark ∷ lists)) (sym (lesser-zero outer) ∙ ap (λ z. lesser_label outer (least_label z)) (sym e))
through-parts mode (more o os) l kind before outer mark tokens labels ordered lists h =
    let a : ℕ = least_label (take (size o) l) in
    let rest : List ℕ = drop (size o) l in
    let fit : Bool = follows_mark kind mark a in
    let next : Option ℕ = next_mark kind mark a in
    let own : Bool = in_order o (take (size o) l) in
    let last : List OpenList = frame kind before (lesser_label outer (least_label l)) (marks kind next os rest) ∷ lists in
    through-parts mode os (drop (size o) l) kind before (lesser_label outer a) next (tokens ++ tokens_of o) (labels ++ take (size o) l) ((ordered && own) && fit) lists (other-labels mode o os l h)
    ∙ ap (λ n. make ((tokens ++ tokens_of o) ++ tokens_all os) ((labels ++ take (size o) l) ++ rest) 0 (((ordered && own) && fit) && parts_in_order kind next os rest) (frame kind before n (marks kind next os rest) ∷ lists)) (lesser-assoc outer a (least_label rest) ∙ ap (lesser_label outer) (split-least (size o) l))
    ∙ make-same last
    (append_assoc tokens (tokens_of o) (tokens_all os))
    (append_assoc labels (take (size o) l) (drop (size o) l) ∙ ap (λ z. labels ++ z) (take-append-drop (size o) l))
    refl
    (and-assoc (ordered && own) fit (parts_in_order kind next os rest) ∙ and-assoc ordered own (fit && parts_in_order kind next os rest))

-- A list that was opened, read part by part and closed was read as one object.
pub through-list : (mode : Mode) (kind : Kind) (os : Objects) (l : List ℕ) (t : Taken) → HasAllLabels mode os l → closed (count os) (through parted (opened kind t) os l) ≡ with_object t (list_object kind os) l
through-list mode kind os l t h = ap (closed (count os)) (through-parts mode os l kind t.tokens t.least None [] t.labels t.ordered t.lists h) ∙ go kind
  where
    go : (kind : Kind) → make (t.tokens ++ token.Count (count os) ∷ ([] ++ tokens_all os)) (t.labels ++ l) (lesser_label t.least (least_label l)) (t.ordered && parts_in_order kind None os l) t.lists ≡ with_object t (list_object kind os) l
    go Sequence = refl
    go Set = refl
    go Cycle = refl

-- leaves
pub with-neutral : (t : Taken) → with_object t Unit_ [] ≡ with_token t token.Unit
with-neutral t = make-same t.lists refl (append-nil t.labels) (lesser-zero t.least) (and-true t.ordered)

-- Reading a dot without labels adds just the token of the dot.
pub with-atom : (t : Taken) → with_object t Dot [] ≡ with_token t token.Dot
with-atom t = make-same t.lists refl (append-nil t.labels) (lesser-zero t.least) (and-true t.ordered)

-- Reading a dot with one label adds the token of the dot and then the label.
pub with-labelled : (t : Taken) (label : ℕ) → with_object t Dot (label ∷ []) ≡ with_label (with_token t token.Dot) label
with-labelled t label = make-same t.lists refl refl (ap (lesser_label t.least) (lesser-zero label)) (and-true t.ordered)

-- an option before its object
pub with-pick : (t : Taken) (i : ℕ) (o : Object) (l : List ℕ) → with_object (with_token t (token.Pick i)) o l ≡ with_object t (Pick i o) l
with-pick t i o l = make-same t.lists (append_assoc t.tokens (token.Pick i ∷ []) (tokens_of o)) refl refl refl
