-- An object has no more tokens than its text has bytes.
use Rattle.std.proofs.Common.{◌≡◌, ℕ, zero, suc, ◌+◌, ◌<◌, ◌≤◌, ◌^◌, List, [], ◌∷◌, ◌++◌, length, take, drop, true, false, Bool, arith, refl, sym, subst, length-append, Option, Some, slice_get}
use Rattle.std.specs.Prelude.{decimal, codes, nat_eq, if◌then◌else◌}
use Rattle.bz_model.specs.Spec.{Spec, Node, Range, node_at, range_at, node_of, range_of, body_of}
use Rattle.bz_model.specs.Object.{Object, Objects, none, more, Has, HaveEach, HaveAll, ClassHas}
use Rattle.bz_model.specs.Object.Object.{Unit_, Dot, Pick, Tuple, SeqOf, SetOf, CycOf}
use Rattle.bz_model.specs.Measures.{size}
use Rattle.bz_model.specs.ObjectText.{Arrangement, PartText, least_label, spaced, leaf_text, label_text, text_by, texts_of_each, texts_of_all, class_text}
use Rattle.object_store.specs.declared.token.Token.{Token}
use Rattle.object_store.specs.Tokens.{tokens_of, tokens_all, IsOf}
use Rattle.object_text.specs.Reading.{IsRead}
use Rattle.object_stage.specs.ObjectStage.{without_feed}

-- one byte is at least one
some-byte : (b : ℕ) → 1 ≤ length (b ∷ [])
some-byte b = omega arith

-- a leaf has at least one byte
leaf-some : (letter word : List ℕ) → 1 ≤ length letter → 1 ≤ length (leaf_text letter word)
leaf-some letter [] h = h
leaf-some letter (b ∷ word) h = omega arith

-- texts with spaces between them are at least as long as the texts
spaced-more : (p : PartText) (parts : List PartText) → length p.text + length (spaced parts) ≤ length (spaced (p ∷ parts))
spaced-more p [] = omega arith
spaced-more p (q ∷ parts) = let l = length-append p.text (32 ∷ spaced (q ∷ parts)) in omega (arith, l)

-- the text of a part of a union
pick-more : (i : ℕ) (text : List ℕ) → 1 + length text ≤ length (decimal i ++ codes "." ++ text)
pick-more i text =
    let a = length-append (decimal i ++ codes ".") text in
    let b = length-append (decimal i) (codes ".") in
    let one : length (codes ".") ≡ 1 = refl in
    omega (arith, a, b, one)

-- texts between two brackets
between-more : (open_ inner shut : List ℕ) → 1 ≤ length open_ → 1 + length inner ≤ length (open_ ++ inner ++ shut)
between-more open_ inner shut some =
    let a = length-append (open_ ++ inner) shut in
    let b = length-append open_ inner in
    omega (arith, a, b, some)

-- the tokens of one object more
tokens-more : (o : Object) (os : Objects) (p : PartText) (parts : List PartText) → length (tokens_of o) ≤ length p.text → length (tokens_all os) ≤ length (spaced parts) → length (tokens_all (more o os)) ≤ length (spaced (p ∷ parts))
tokens-more o os p parts h k =
    let t = length-append (tokens_of o) (tokens_all os) in
    let s = spaced-more p parts in
    omega (arith, t, s, h, k)

abbrev as_it_stands : Arrangement
as_it_stands = Arrangement.AsItStands

-- the text of a part, which takes as many of the labels as it has atoms
abbrev part-text : Spec → (ℕ → Object → List ℕ → List ℕ) → Option Node → Object → List ℕ → PartText
part-text s of_class n o labels = record { least = least_label (take (size o) labels); text = text_by as_it_stands s of_class n o (take (size o) labels) }

module _ (s : Spec) (R : ℕ → Object → Type 0) (of_class : ℕ → Object → List ℕ → List ℕ) (classes : (c : ℕ) (o : Object) (labels : List ℕ) → R c o → length (tokens_of o) ≤ length (of_class c o labels)) where
  mutual
    few-of : (n : Option Node) (r : Option Range) (o : Object) (labels : List ℕ) → Has s R n r o → length (tokens_of o) ≤ length (text_by as_it_stands s of_class n o labels)
    few-of (Some (Node.Class c)) r o labels h = classes c o labels h
    few-of (Some (Node.Empty w)) r Unit_ labels h = leaf-some (codes "E") w (some-byte 69)
    few-of (Some (Node.Atom w)) r Dot labels h =
        let a = leaf-some (codes "Z") w (some-byte 90) in
        let l = length-append (leaf_text (codes "Z") w) (label_text s.mode labels) in
        omega (arith, a, l)
    few-of (Some (Node.Union parts)) r (Pick i o) labels h =
        let a = few-of (node_of s (slice_get parts i)) (range_of s (slice_get parts i)) o labels h in
        let l = pick-more i (text_by as_it_stands s of_class (node_of s (slice_get parts i)) o labels) in
        omega (arith, a, l)
    few-of (Some (Node.Product parts)) r (Tuple os) labels h =
        let a = few-each parts os labels h in
        let l = between-more (codes "(") (spaced (texts_of_each as_it_stands s of_class parts os labels)) (codes ")") (some-byte 40) in
        omega (arith, a, l)
    few-of (Some (Node.Seq part)) r (SeqOf os) labels h =
        let a = few-all part os labels h.1 in
        let l = between-more (codes "[") (spaced (texts_of_all as_it_stands s of_class part os labels)) (codes "]") (some-byte 91) in
        omega (arith, a, l)
    few-of (Some (Node.Set part)) r (SetOf os) labels h =
        let a = few-all part os labels h.1 in
        let l = between-more (codes "{") (spaced (texts_of_all as_it_stands s of_class part os labels)) (codes "}") (some-byte 123) in
        omega (arith, a, l)
    few-of (Some (Node.Cyc part)) r (CycOf os) labels h =
        let a = few-all part os labels h.1 in
        let l = between-more (codes "<") (spaced (texts_of_all as_it_stands s of_class part os labels)) (codes ">") (some-byte 60) in
        omega (arith, a, l)
    few-of _ r _ labels h = elim h [ ]

    few-each : (parts : List ℕ) (os : Objects) (labels : List ℕ) → HaveEach s R parts os → length (tokens_all os) ≤ length (spaced (texts_of_each as_it_stands s of_class parts os labels))
    few-each [] none labels h = omega arith
    few-each (p ∷ parts) (more o os) labels h = tokens-more o os (part-text s of_class (node_at s p) o labels) (texts_of_each as_it_stands s of_class parts os (drop (size o) labels)) (few-of (node_at s p) (range_at s p) o (take (size o) labels) h.0) (few-each parts os (drop (size o) labels) h.1)
    few-each _ _ labels h = elim h [ ]

    few-all : (part : ℕ) (os : Objects) (labels : List ℕ) → HaveAll s R part os → length (tokens_all os) ≤ length (spaced (texts_of_all as_it_stands s of_class part os labels))
    few-all part none labels h = omega arith
    few-all part (more o os) labels h = tokens-more o os (part-text s of_class (node_at s part) o labels) (texts_of_all as_it_stands s of_class part os (drop (size o) labels)) (few-of (node_at s part) (range_at s part) o (take (size o) labels) h.0) (few-all part os (drop (size o) labels) h.1)

class-few : (s : Spec) (h c : ℕ) (o : Object) (labels : List ℕ) → ClassHas s h c o → length (tokens_of o) ≤ length (class_text as_it_stands s h c o labels)
class-few s zero c o labels k = elim k [ ]
class-few s (suc h) c o labels k = few-of s (ClassHas s h) (class_text as_it_stands s h) (class-few s h) (node_of s (body_of s c)) (range_of s (body_of s c)) o labels k

-- an object that is read has no more tokens than its text has bytes
pub few-tokens : (s : Spec) (c : ℕ) (text : List ℕ) (tokens : List Token) (labels : Option (List ℕ)) → IsRead s c text tokens labels → length tokens ≤ length text
few-tokens s c text tokens labels is =
    let read = is.canonical.read in
    let few = few-of s (ClassHas s read.belongs.0) (class_text as_it_stands s read.belongs.0) (class-few s read.belongs.0) (node_at s is.body) (range_at s is.body) is.object is.labels read.belongs.1 in
    subst (λ (ts : List Token). length ts ≤ length text) is.spelled (subst (λ (t : List ℕ). length (tokens_of is.object) ≤ length t) (sym read.spelled) few)

feed-one : (c : Bool) (b : ℕ) → length (if c then [] else b ∷ []) ≤ length (b ∷ [])
feed-one true b = omega arith
feed-one false b = omega arith

-- a text without the line feed at its end is no longer
pub feed-less : (bytes : List ℕ) → length (without_feed bytes) ≤ length bytes
feed-less [] = omega arith
feed-less (b ∷ []) = feed-one (nat_eq b 10) b
feed-less (b ∷ c ∷ bytes) = let r = feed-less (c ∷ bytes) in omega (arith, r)

-- an object that is read from a file has fewer than 2^32 tokens
pub few-in-file : (s : Spec) (bytes : List ℕ) (tokens : List Token) (labels : Option (List ℕ)) → length bytes ≤ 16777216 → IsRead s 0 (without_feed bytes) tokens labels → length tokens < 2 ^ 32
few-in-file s bytes tokens labels few is =
    let a = few-tokens s 0 (without_feed bytes) tokens labels is in
    let b = feed-less bytes in
    omega (arith, a, b, few)

-- an object that is read is one of the class
pub read-of : (s : Spec) (c : ℕ) (text : List ℕ) (tokens : List Token) (labels : Option (List ℕ)) → IsRead s c text tokens labels → IsOf s c tokens
read-of s c text tokens labels is = record { body = is.body; is_body = is.is_body; object = is.object; belongs = is.canonical.read.belongs; spelled = is.spelled }
