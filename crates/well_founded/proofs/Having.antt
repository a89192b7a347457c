-- Belonging without heights: the least relation by cases, and its two directions.
use Rattle.std.proofs.Common.{◌≡◌, ℕ, zero, suc, ◌+◌, ◌-◌, ◌≤◌, max, List, [], ◌∷◌, Option, Some, None, arith, refl, sym, subst, add-zero, add-suc}
use Rattle.std.specs.List.{slice_get}
use Rattle.std.proofs.Math.Nat.{le-max_left, le-max_right}
use Rattle.bz_model.specs.Spec.{Spec, Node, Range, node_at, range_at, node_of, range_of, body_of, IsInRange}
use Rattle.bz_model.specs.Object.{Object, Objects, none, more, count, Has, HaveEach, HaveAll, ClassHas, Belongs}
use Rattle.well_founded.specs.Foundedness.{Counts, IsCountedOf}

-- what a counted node makes of its parts
abbrev pub form_of : Node → Objects → Object
form_of (Node.Set p) os = Object.SetOf os
form_of (Node.Cyc p) os = Object.CycOf os
form_of _ os = Object.SeqOf os

mutual
  pub data Of (s : Spec) : ℕ → Object → Type 0 where
    empty : {e : ℕ} {o : Object} (word : List ℕ) → node_at s e ≡ Some (Node.Empty word) → o ≡ Object.Unit_ → Of s e o
    atom : {e : ℕ} {o : Object} (word : List ℕ) → node_at s e ≡ Some (Node.Atom word) → o ≡ Object.Dot → Of s e o
    class : {e : ℕ} {o : Object} (c body : ℕ) → node_at s e ≡ Some (Node.Class c) → body_of s c ≡ Some body → Of s body o → Of s e o
    union : {e : ℕ} {o : Object} (parts : List ℕ) (i part : ℕ) (p : Object) → node_at s e ≡ Some (Node.Union parts) → slice_get parts i ≡ Some part → Of s part p → o ≡ Object.Pick i p → Of s e o
    product : {e : ℕ} {o : Object} (parts : List ℕ) (os : Objects) → node_at s e ≡ Some (Node.Product parts) → OfEach s parts os → o ≡ Object.Tuple os → Of s e o
    counted : {e : ℕ} {o : Object} (part : ℕ) (r : Range) (os : Objects) (k : Counts s e part r) → IsInRange (count os) (Some r) → OfAll s part os → o ≡ form_of k.node os → Of s e o

  pub data OfEach (s : Spec) : List ℕ → Objects → Type 0 where
    done : OfEach s [] none
    first : {e : ℕ} {es : List ℕ} {o : Object} {os : Objects} → Of s e o → OfEach s es os → OfEach s (e ∷ es) (more o os)

  pub data OfAll (s : Spec) : ℕ → Objects → Type 0 where
    nil : {e : ℕ} → OfAll s e none
    cons : {e : ℕ} {o : Object} {os : Objects} → Of s e o → OfAll s e os → OfAll s e (more o os)

-- the objects of a class are those of its body
pub record ClassOf (s : Spec) (c : ℕ) (o : Object) : Type 0 where
  pub body : ℕ
  pub is_body : body_of s c ≡ Some body
  pub has : Of s body o

record There (s : Spec) (R : ℕ → Object → Type 0) (p : Option ℕ) (o : Object) : Type 0 where
  part : ℕ
  is : p ≡ Some part
  has : Has s R (node_at s part) (range_at s part) o

there : (s : Spec) (R : ℕ → Object → Type 0) (p : Option ℕ) (o : Object) → Has s R (node_of s p) (range_of s p) o → There s R p o
there s R None o h = elim h [ ]
there s R (Some e) o h = record { part = e; is = refl; has = h }

record Ranged (n : ℕ) (r : Option Range) : Type 0 where
  range : Range
  is : r ≡ Some range
  within : IsInRange n (Some range)

in-range : (n : ℕ) (r : Option Range) → IsInRange n r → Ranged n r
in-range n None h = elim h [ ]
in-range n (Some r) h = record { range = r; is = refl; within = h }

module _ (s : Spec) (R : ℕ → Object → Type 0) (sub : (c : ℕ) (o : Object) → R c o → ClassOf s c o) where
  mutual
    of-has : (e : ℕ) (n : Option Node) → node_at s e ≡ n → (o : Object) → Has s R n (range_at s e) o → Of s e o
    of-has e (Some (Node.Class c)) q o h = let k = sub c o h in Of.class c k.body q k.is_body k.has
    of-has e (Some (Node.Empty w)) q Object.Unit_ h = Of.empty w q refl
    of-has e (Some (Node.Atom w)) q Object.Dot h = Of.atom w q refl
    of-has e (Some (Node.Union parts)) q (Object.Pick i o) h = let k = there s R (slice_get parts i) o h in Of.union parts i k.part o q k.is (of-has k.part (node_at s k.part) refl o k.has) refl
    of-has e (Some (Node.Product parts)) q (Object.Tuple os) h = Of.product parts os q (of-each parts os h) refl
    of-has e (Some (Node.Seq part)) q (Object.SeqOf os) h = let k = in-range (count os) (range_at s e) h.0 in Of.counted part k.range os (record { node = Node.Seq part; is_node = q; of_part = refl; is_range = k.is }) k.within (of-all part os h.1) refl
    of-has e (Some (Node.Set part)) q (Object.SetOf os) h = let k = in-range (count os) (range_at s e) h.0 in Of.counted part k.range os (record { node = Node.Set part; is_node = q; of_part = refl; is_range = k.is }) k.within (of-all part os h.1) refl
    of-has e (Some (Node.Cyc part)) q (Object.CycOf os) h = let k = in-range (count os) (range_at s e) h.0 in Of.counted part k.range os (record { node = Node.Cyc part; is_node = q; of_part = refl; is_range = k.is }) k.within (of-all part os h.1) refl
    of-has e _ q _ h = elim h [ ]

    of-each : (parts : List ℕ) (os : Objects) → HaveEach s R parts os → OfEach s parts os
    of-each [] none h = OfEach.done
    of-each (p ∷ ps) (more o os) h = OfEach.first (of-has p (node_at s p) refl o h.0) (of-each ps os h.1)
    of-each _ _ h = elim h [ ]

    of-all : (part : ℕ) (os : Objects) → HaveAll s R part os → OfAll s part os
    of-all part none h = OfAll.nil
    of-all part (more o os) h = OfAll.cons (of-has part (node_at s part) refl o h.0) (of-all part os h.1)

of-class : (s : Spec) (h c : ℕ) (o : Object) → ClassHas s h c o → ClassOf s c o
of-class s zero c o k = elim k [ ]
of-class s (suc h) c o k =
    let t = there s (ClassHas s h) (body_of s c) o k in
    record { body = t.part; is_body = t.is; has = of-has s (ClassHas s h) (of-class s h) t.part (node_at s t.part) refl o t.has }

-- An object that belongs to a node is one of the node's objects in the relation without heights.
pub of-belongs : (s : Spec) (e : ℕ) (o : Object) → Belongs s e o → Of s e o
of-belongs s e o b = of-has s (ClassHas s b.0) (of-class s b.0) e (node_at s e) refl o b.1

module _ (s : Spec) (R S : ℕ → Object → Type 0) (sub : (c : ℕ) (o : Object) → R c o → S c o) where
  mutual
    has-mono : (n : Option Node) (r : Option Range) (o : Object) → Has s R n r o → Has s S n r o
    has-mono (Some (Node.Class c)) r o h = sub c o h
    has-mono (Some (Node.Empty w)) r Object.Unit_ h = tt
    has-mono (Some (Node.Atom w)) r Object.Dot h = tt
    has-mono (Some (Node.Union parts)) r (Object.Pick i o) h = has-mono (node_of s (slice_get parts i)) (range_of s (slice_get parts i)) o h
    has-mono (Some (Node.Product parts)) r (Object.Tuple os) h = each-mono parts os h
    has-mono (Some (Node.Seq part)) r (Object.SeqOf os) h = (h.0, all-mono part os h.1)
    has-mono (Some (Node.Set part)) r (Object.SetOf os) h = (h.0, all-mono part os h.1)
    has-mono (Some (Node.Cyc part)) r (Object.CycOf os) h = (h.0, all-mono part os h.1)
    has-mono _ r _ h = elim h [ ]

    each-mono : (parts : List ℕ) (os : Objects) → HaveEach s R parts os → HaveEach s S parts os
    each-mono [] none h = tt
    each-mono (p ∷ ps) (more o os) h = (has-mono (node_at s p) (range_at s p) o h.0, each-mono ps os h.1)
    each-mono _ _ h = elim h [ ]

    all-mono : (part : ℕ) (os : Objects) → HaveAll s R part os → HaveAll s S part os
    all-mono part none h = tt
    all-mono part (more o os) h = (has-mono (node_at s part) (range_at s part) o h.0, all-mono part os h.1)

higher : (s : Spec) (h c : ℕ) (o : Object) → ClassHas s h c o → ClassHas s (suc h) c o
higher s zero c o k = elim k [ ]
higher s (suc h) c o k = has-mono s (ClassHas s h) (ClassHas s (suc h)) (higher s h) (node_of s (body_of s c)) (range_of s (body_of s c)) o k

raised : (s : Spec) (h k c : ℕ) (o : Object) → ClassHas s h c o → ClassHas s (h + k) c o
raised s h zero c o p = subst (λ j. ClassHas s j c o) (sym (add-zero h)) p
raised s h (suc k) c o p = subst (λ j. ClassHas s j c o) (sym (add-suc h k)) (higher s (h + k) c o (raised s h k c o p))

up_to : (s : Spec) (h k : ℕ) → h ≤ k → (c : ℕ) (o : Object) → ClassHas s h c o → ClassHas s k c o
up_to s h k le c o p = let e : h + (k - h) ≡ k = omega arith in subst (λ j. ClassHas s j c o) e (raised s h (k - h) c o p)

put_node : (s : Spec) (R : ℕ → Object → Type 0) (e : ℕ) (n : Option Node) (o p : Object) → node_at s e ≡ n → o ≡ p → Has s R n (range_at s e) p → Has s R (node_at s e) (range_at s e) o
put_node s R e n o p q z h = subst (λ m. Has s R m (range_at s e) o) (sym q) (subst (λ x. Has s R n (range_at s e) x) (sym z) h)

put_counted : (s : Spec) (R : ℕ → Object → Type 0) (n : Node) (part : ℕ) (r : Option Range) (os : Objects) → IsCountedOf n part → IsInRange (count os) r → HaveAll s R part os → Has s R (Some n) r (form_of n os)
put_counted s R (Node.Seq p) part r os z i h = (i, subst (λ x. HaveAll s R x os) (sym z) h)
put_counted s R (Node.Set p) part r os z i h = (i, subst (λ x. HaveAll s R x os) (sym z) h)
put_counted s R (Node.Cyc p) part r os z i h = (i, subst (λ x. HaveAll s R x os) (sym z) h)
put_counted s R _ part r os z i h = elim z [ ]

module _ (s : Spec) where
  mutual
    pub belongs-of : {e : ℕ} {o : Object} → Of s e o → Belongs s e o
    belongs-of {e} {o} (Of.empty w q z) = (0, put_node s (ClassHas s 0) e (Some (Node.Empty w)) o Object.Unit_ q z tt)
    belongs-of {e} {o} (Of.atom w q z) = (0, put_node s (ClassHas s 0) e (Some (Node.Atom w)) o Object.Dot q z tt)
    belongs-of {e} {o} (Of.class c body q b k) = let t = belongs-of k in (suc t.0, put_node s (ClassHas s (suc t.0)) e (Some (Node.Class c)) o o q refl (subst (λ x. Has s (ClassHas s t.0) (node_of s x) (range_of s x) o) (sym b) t.1))
    belongs-of {e} {o} (Of.union parts i part p q g k z) = let t = belongs-of k in (t.0, put_node s (ClassHas s t.0) e (Some (Node.Union parts)) o (Object.Pick i p) q z (subst (λ x. Has s (ClassHas s t.0) (node_of s x) (range_of s x) p) (sym g) t.1))
    belongs-of {e} {o} (Of.product parts os q k z) = let t = each-of k in (t.0, put_node s (ClassHas s t.0) e (Some (Node.Product parts)) o (Object.Tuple os) q z t.1)
    belongs-of {e} {o} (Of.counted part r os k i a z) = let t = all-of a in (t.0, put_node s (ClassHas s t.0) e (Some k.node) o (form_of k.node os) k.is_node z (put_counted s (ClassHas s t.0) k.node part (range_at s e) os k.of_part (subst (λ x. IsInRange (count os) x) (sym k.is_range) i) t.1))

    each-of : {es : List ℕ} {os : Objects} → OfEach s es os → (h : ℕ) × HaveEach s (ClassHas s h) es os
    each-of OfEach.done = (0, tt)
    each-of (OfEach.first {e = e} {es = es} {o = o} {os = os} k ks) =
        let t = belongs-of k in
        let u = each-of ks in
        let m = max t.0 u.0 in
        (m, (has-mono s (ClassHas s t.0) (ClassHas s m) (up_to s t.0 m (omega (arith, le-max_left))) (node_at s e) (range_at s e) o t.1, each-mono s (ClassHas s u.0) (ClassHas s m) (up_to s u.0 m (omega (arith, le-max_right))) es os u.1))

    all-of : {e : ℕ} {os : Objects} → OfAll s e os → (h : ℕ) × HaveAll s (ClassHas s h) e os
    all-of OfAll.nil = (0, tt)
    all-of (OfAll.cons {e = e} {o = o} {os = os} k ks) =
        let t = belongs-of k in
        let u = all-of ks in
        let m = max t.0 u.0 in
        (m, (has-mono s (ClassHas s t.0) (ClassHas s m) (up_to s t.0 m (omega (arith, le-max_left))) (node_at s e) (range_at s e) o t.1, all-mono s (ClassHas s u.0) (ClassHas s m) (up_to s u.0 m (omega (arith, le-max_right))) e os u.1))
