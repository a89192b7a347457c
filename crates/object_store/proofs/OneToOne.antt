-- From tokens and a node there is at most one object: two objects of one node whose tokens stand at the front of one list are the same, and so is what follows them.
use Rattle.std.proofs.Common.{◌≡◌, ℕ, zero, suc, List, [], ◌∷◌, ◌++◌, refl, sym, ◌∙◌, ap, subst, append_assoc, Option, Some}
use Rattle.std.specs.Prelude.{slice_get}
use Rattle.bz_model.specs.Spec.{Spec, Node, Range, node_at, range_at, node_of, range_of, body_of}
use Rattle.bz_model.specs.Object.{Object, Objects, none, more, count, Has, HaveEach, HaveAll, ClassHas, Belongs}
use Rattle.bz_model.specs.Object.Object.{Unit_, Dot, Pick, Tuple, SeqOf, SetOf, CycOf}
use Rattle.object_store.specs.declared.token.Token.{Token}
use Rattle.object_store.specs.declared.token.Token.TheVariants as token
use Rattle.object_store.specs.Tokens.{tokens_of, tokens_all, IsOf}

-- two objects are the same wherever the tokens of both begin one list
abbrev pub AreOne : Object → Object → Type 0
AreOne o p = (rest after : List Token) → tokens_of o ++ rest ≡ tokens_of p ++ after → (o ≡ p) × (rest ≡ after)

-- the same of two lists of objects
abbrev pub AreOneList : Objects → Objects → Type 0
AreOneList os ps = (rest after : List Token) → tokens_all os ++ rest ≡ tokens_all ps ++ after → (os ≡ ps) × (rest ≡ after)

one-pick : (i : ℕ) (o p : Object) → AreOne o p → AreOne (Pick i o) (Pick i p)
one-pick i o p h rest after e = let r = h rest after (cc) in (ap (λ q. Pick i q) r.0, r.1)

one-more : (o p : Object) (os ps : Objects) → AreOne o p → AreOneList os ps → AreOneList (more o os) (more p ps)
one-more o p os ps h k rest after e =
    let first = h (tokens_all os ++ rest) (tokens_all ps ++ after) (sym (append_assoc (tokens_of o) (tokens_all os) rest) ∙ e ∙ append_assoc (tokens_of p) (tokens_all ps) after) in
    let later = k rest after first.1 in
    (ap (λ q. more q os) first.0 ∙ ap (more p) later.0, later.1)

same-option : (i j : ℕ) (ts us : List Token) → token.Pick i ∷ ts ≡ token.Pick j ∷ us → (i ≡ j) × (ts ≡ us)
same-option i j ts us e = (cc, cc)

same-count : (i j : ℕ) (ts us : List Token) → token.Count i ∷ ts ≡ token.Count j ∷ us → (i ≡ j) × (ts ≡ us)
same-count i j ts us e = (cc, cc)

one-form : (form : Objects → Object) (os ps : Objects) → (count os ≡ count ps → AreOneList os ps) → (rest after : List Token) → token.Count (count os) ∷ tokens_all os ++ rest ≡ token.Count (count ps) ∷ tokens_all ps ++ after → (form os ≡ form ps) × (rest ≡ after)
one-form form os ps h rest after e =
    let k = same-count (count os) (count ps) (tokens_all os ++ rest) (tokens_all ps ++ after) e in
    let r = h k.0 rest after k.1 in
    (ap form r.0, r.1)

module _ (s : Spec) (R Q : ℕ → Object → Type 0) (classes : (c : ℕ) (o p : Object) → R c o → Q c p → AreOne o p) where
  mutual
    pub one-has : (n : Option Node) (r : Option Range) (o p : Object) → Has s R n r o → Has s Q n r p → AreOne o p
    one-has (Some (Node.Class c)) r o p h k = classes c o p h k
    one-has (Some (Node.Empty w)) r Unit_ Unit_ h k = λ rest after e. (refl, cc)
    one-has (Some (Node.Atom w)) r Dot Dot h k = λ rest after e. (refl, cc)
    one-has (Some (Node.Union parts)) r (Pick i o) (Pick j p) h k = λ rest after e.
        let same = same-option i j (tokens_of o ++ rest) (tokens_of p ++ after) e in
        let here : Has s Q (node_of s (slice_get parts i)) (range_of s (slice_get parts i)) p = subst (λ n. Has s Q (node_of s (slice_get parts n)) (range_of s (slice_get parts n)) p) (sym same.0) k in
        let r = one-has (node_of s (slice_get parts i)) (range_of s (slice_get parts i)) o p h here rest after same.1 in
        (ap (Pick i) r.0 ∙ ap (λ n. Pick n p) same.0, r.1)
    one-has (Some (Node.Product parts)) r (Tuple os) (Tuple ps) h k = λ rest after e. let r = one-each parts os ps h k rest after e in (ap Tuple r.0, r.1)
    one-has (Some (Node.Seq part)) r (SeqOf os) (SeqOf ps) h k = one-form SeqOf os ps (λ e. one-all part os ps e h.1 k.1)
    one-has (Some (Node.Set part)) r (SetOf os) (SetOf ps) h k = one-form SetOf os ps (λ e. one-all part os ps e h.1 k.1)
    one-has (Some (Node.Cyc part)) r (CycOf os) (CycOf ps) h k = one-form CycOf os ps (λ e. one-all part os ps e h.1 k.1)
    one-has (Some (Node.Empty w)) r Unit_ p h k = elim k [ ]
    one-has (Some (Node.Atom w)) r Dot p h k = elim k [ ]
    one-has (Some (Node.Union parts)) r (Pick i o) p h k = elim k [ ]
    one-has (Some (Node.Product parts)) r (Tuple os) p h k = elim k [ ]
    one-has (Some (Node.Seq part)) r (SeqOf os) p h k = elim k [ ]
    one-has (Some (Node.Set part)) r (SetOf os) p h k = elim k [ ]
    one-has (Some (Node.Cyc part)) r (CycOf os) p h k = elim k [ ]
    one-has _ _ _ _ h k = elim h [ ]

    pub one-each : (parts : List ℕ) (os ps : Objects) → HaveEach s R parts os → HaveEach s Q parts ps → AreOneList os ps
    one-each [] none none h k = λ rest after e. (refl, e)
    one-each (part ∷ parts) (more o os) (more p ps) h k = one-more o p os ps (one-has (node_at s part) (range_at s part) o p h.0 k.0) (one-each parts os ps h.1 k.1)
    one-each [] none (more p ps) h k = elim k [ ]
    one-each (part ∷ parts) (more o os) none h k = elim k [ ]
    one-each _ _ _ h k = elim h [ ]

    pub one-all : (part : ℕ) (os ps : Objects) → count os ≡ count ps → HaveAll s R part os → HaveAll s Q part ps → AreOneList os ps
    one-all part none none e h k = λ rest after e. (refl, e)
    one-all part (more o os) (more p ps) e h k = one-more o p os ps (one-has (node_at s part) (range_at s part) o p h.0 k.0) (one-all part os ps (cc) h.1 k.1)
    one-all part none (more p ps) e h k = absurd (cc)
    one-all part (more o os) none e h k = absurd (cc)

one-class : (s : Spec) (h k c : ℕ) (o p : Object) → ClassHas s h c o → ClassHas s k c p → AreOne o p
one-class s zero k c o p a b = elim a [ ]
one-class s (suc h) zero c o p a b = elim b [ ]
one-class s (suc h) (suc k) c o p a b = one-has s (ClassHas s h) (ClassHas s k) (one-class s h k) (node_of s (body_of s c)) (range_of s (body_of s c)) o p a b

-- two objects of one node whose tokens begin one list are the same
pub one-object : (s : Spec) (e : ℕ) (o p : Object) → Belongs s e o → Belongs s e p → AreOne o p
one-object s e o p a b = one-has s (ClassHas s a.0) (ClassHas s b.0) (one-class s a.0 b.0) (node_at s e) (range_at s e) o p a.1 b.1

-- from tokens and a class there is at most one object
pub one-of-class : (s : Spec) (c : ℕ) (tokens : List Token) (a b : IsOf s c tokens) → a.object ≡ b.object
one-of-class s c tokens a b =
    let same : b.body ≡ a.body = let p = a.is_body in let q = b.is_body in cc in
    let both : tokens_of a.object ++ [] ≡ tokens_of b.object ++ [] = ap (λ ts. ts ++ []) (a.spelled ∙ sym b.spelled) in
    (one-object s a.body a.object b.object a.belongs (subst (λ e. Belongs s e b.object) same b.belongs) [] [] both).0
