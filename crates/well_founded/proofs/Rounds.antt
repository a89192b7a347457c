-- The relations are the least ones that no further round widens, and each round stays within them.
use Rattle.std.proofs.Common.{◌≡◌, ◌≢◌, ℕ, zero, suc, ◌≤◌, ◌⊎◌, inl, inr, List, [], ◌∷◌, ◌++◌, length, Some, arith, refl, sym, ap, ◌∙◌, subst}
use Rattle.std.specs.List.{slice_get}
use Rattle.bz_model.specs.Spec.{Spec, Node, Range, node_at, range_at}
use Rattle.well_founded.specs.Foundedness.{Counts, IsCountedOf, Least, LeastEach, HasEmpty, Under}
use Rattle.well_founded.specs.Rounds.{Gets, IsClosed, PassesToClass}
use Rattle.well_founded.proofs.Refused.{each-from}

-- Two nodes are equal where the optional values that hold them are equal.
pub some-node : {m n : Node} → Some m ≡ Some n → m ≡ n
some-node q = cc

-- a node is counted in one way only
pub as-node : {s : Spec} {e part : ℕ} {r : Range} (n : Node) → Counts s e part r → node_at s e ≡ Some n → IsCountedOf n part
as-node {part = part} n k q = subst (λ m. IsCountedOf m part) (some-node (sym k.is_node ∙ q)) k.of_part

-- What a round gets from the relation is in the relation.
counts-of : {s : Spec} {e part : ℕ} (n : Node) (r : Range) → node_at s e ≡ Some n → IsCountedOf n part → range_at s e ≡ Some r → Counts s e part r
counts-of n r q z is = record { node = n; is_node = q; of_part = z; is_range = is }

counted-gets : {s : Spec} {A : Type 0} {e part : ℕ} {r : Range} → Counts s e part r → (r.low ≡ 0) ⊎ Least s A part → Least s A e
counted-gets k (inl z) = Least.free k z
counted-gets k (inr l) = Least.counted k l

-- Where one round of the rule gets a node from those in the least relation, the node is in it.
pub least-round : (s : Spec) (A : Type 0) (e : ℕ) (n : Node) → node_at s e ≡ Some n → Gets s A (Least s A) e n → Least s A e
least-round s A e (Node.Empty w) q g = Least.empty w q
least-round s A e (Node.Atom w) q g = Least.atom w q g
least-round s A e (Node.Class c) q g = Least.class c g.0 q g.1 g.2
least-round s A e (Node.Union parts) q g = Least.union parts g.0 g.1 q g.2 g.3
least-round s A e (Node.Product parts) q g = Least.product parts q (each-from parts g)
least-round s A e (Node.Seq p) q g = counted-gets (counts-of (Node.Seq p) g.0 q refl g.1) g.2
least-round s A e (Node.Set p) q g = counted-gets (counts-of (Node.Set p) g.0 q refl g.1) g.2
least-round s A e (Node.Cyc p) q g = counted-gets (counts-of (Node.Cyc p) g.0 q refl g.1) g.2

-- What holds of more nodes gets more.
pub gets-more : (s : Spec) (A : Type 0) (P Q : ℕ → Type 0) → ((e : ℕ) → P e → Q e) → (e : ℕ) (n : Node) → Gets s A P e n → Gets s A Q e n
gets-more s A P Q f e (Node.Empty w) g = tt
gets-more s A P Q f e (Node.Atom w) g = g
gets-more s A P Q f e (Node.Class c) g = (g.0, g.1, f g.0 g.2)
gets-more s A P Q f e (Node.Union parts) g = (g.0, g.1, g.2, f g.1 g.3)
gets-more s A P Q f e (Node.Product parts) g = λ i part h. f part (g i part h)
gets-more s A P Q f e (Node.Seq p) g = (g.0, g.1, elim g.2 [ inl z ↦ inl z | inr k ↦ inr (f p k) ])
gets-more s A P Q f e (Node.Set p) g = (g.0, g.1, elim g.2 [ inl z ↦ inl z | inr k ↦ inr (f p k) ])
gets-more s A P Q f e (Node.Cyc p) g = (g.0, g.1, elim g.2 [ inl z ↦ inl z | inr k ↦ inr (f p k) ])

-- What no round widens holds of the whole relation.
module _ (s : Spec) (A : Type 0) (P : ℕ → Type 0) (closed : IsClosed s A P) where
  closed-counted : {e part : ℕ} {r : Range} (n : Node) → node_at s e ≡ Some n → IsCountedOf n part → range_at s e ≡ Some r → (r.low ≡ 0) ⊎ P part → P e
  closed-counted {e} {part} {r} (Node.Seq p) q z is h = closed.round e (Node.Seq p) q (r, is, elim h [ inl y ↦ inl y | inr y ↦ inr (subst P (sym z) y) ])
  closed-counted {e} {part} {r} (Node.Set p) q z is h = closed.round e (Node.Set p) q (r, is, elim h [ inl y ↦ inl y | inr y ↦ inr (subst P (sym z) y) ])
  closed-counted {e} {part} {r} (Node.Cyc p) q z is h = closed.round e (Node.Cyc p) q (r, is, elim h [ inl y ↦ inl y | inr y ↦ inr (subst P (sym z) y) ])
  closed-counted _ q z is h = elim z [ ]

  mutual
    pub in-closed : {e : ℕ} → Least s A e → P e
    in-closed {e} (Least.empty w q) = closed.round e (Node.Empty w) q tt
    in-closed {e} (Least.atom w q a) = closed.round e (Node.Atom w) q a
    in-closed {e} (Least.class c body q b k) = closed.round e (Node.Class c) q (body, b, in-closed k)
    in-closed {e} (Least.union parts i part q g k) = closed.round e (Node.Union parts) q (i, part, g, in-closed k)
    in-closed {e} (Least.product parts q k) = closed.round e (Node.Product parts) q (each-in-closed k)
    in-closed (Least.free k z) = closed-counted k.node k.is_node k.of_part k.is_range (inl z)
    in-closed (Least.counted k l) = closed-counted k.node k.is_node k.of_part k.is_range (inr (in-closed l))

    each-in-closed : {es : List ℕ} → LeastEach s A es → (i part : ℕ) → slice_get es i ≡ Some part → P part
    each-in-closed LeastEach.done i part q = absurd (cc)
    each-in-closed (LeastEach.first {e = e} k ks) zero part q = let same : e ≡ part = cc in subst P same (in-closed k)
    each-in-closed (LeastEach.first k ks) (suc i) part q = each-in-closed ks i part q

-- the others are those before and those after
record Beside (s : Spec) (parts : List ℕ) (part : ℕ) : Type 0 where
  before : List ℕ
  after : List ℕ
  is : parts ≡ before ++ (part ∷ after)
  left : LeastEach s ⊥ before
  right : LeastEach s ⊥ after

beside : (s : Spec) (parts : List ℕ) (i part : ℕ) → slice_get parts i ≡ Some part → ((j q : ℕ) → slice_get parts j ≡ Some q → j ≢ i → HasEmpty s q) → Beside s parts part
beside s [] i part g f = absurd (cc)
beside s (p ∷ ps) zero part g f = record { before = []; after = ps; is = cc; left = LeastEach.done; right = each-from ps (λ j q h. f (suc j) q h (λ z. omega arith)) }
beside s (p ∷ ps) (suc i) part g f =
    let k = beside s ps i part g (λ j q h ne. f (suc j) q h (λ z. ne (omega arith))) in
    record { before = p ∷ k.before; after = k.after; is = ap (λ (xs : List ℕ). p ∷ xs) k.is; left = LeastEach.first (f 0 p refl (λ z. omega arith)) k.left; right = k.right }

each-at : {s : Spec} {A : Type 0} {es : List ℕ} → LeastEach s A es → (j q : ℕ) → slice_get es j ≡ Some q → Least s A q
each-at LeastEach.done j q g = absurd (cc)
each-at {s} {A} (LeastEach.first {e = e} k ks) zero q g = let same : e ≡ q = cc in subst (λ x. Least s A x) same k
each-at (LeastEach.first k ks) (suc j) q g = each-at ks j q g

others : (s : Spec) {before : List ℕ} (part : ℕ) {after : List ℕ} → LeastEach s ⊥ before → LeastEach s ⊥ after → (j q : ℕ) → slice_get (before ++ (part ∷ after)) j ≡ Some q → j ≢ length before → HasEmpty s q
others s part LeastEach.done r zero q g ne = absurd (ne refl)
others s part LeastEach.done r (suc j) q g ne = each-at r j q g
others s part (LeastEach.first {e = e} k ks) r zero q g ne = let same : e ≡ q = cc in subst (λ x. HasEmpty s x) same k
others s part (LeastEach.first k ks) r (suc j) q g ne = others s part ks r j q g (λ z. ne (ap suc z))

at-end : (xs : List ℕ) (p : ℕ) (ps : List ℕ) → slice_get (xs ++ (p ∷ ps)) (length xs) ≡ Some p
at-end [] p ps = refl
at-end (x ∷ xs) p ps = at-end xs p ps

-- The way down to a reference, node by node.
pub under-round : (s : Spec) (d e : ℕ) (n : Node) → node_at s e ≡ Some n → PassesToClass s d (Under s d) e n → Under s d e
under-round s d e (Node.Empty w) q g = elim g [ ]
under-round s d e (Node.Atom w) q g = elim g [ ]
under-round s d e (Node.Class c) q g = Under.here (subst (λ x. node_at s e ≡ Some (Node.Class x)) g q)
under-round s d e (Node.Union parts) q g = Under.in_union parts g.0 g.1 q g.2 g.3
under-round s d e (Node.Product parts) q g =
    let k = beside s parts g.0 g.1 g.2 g.3 in
    Under.in_product k.before g.1 k.after (subst (λ xs. node_at s e ≡ Some (Node.Product xs)) k.is q) k.left k.right g.4
under-round s d e (Node.Seq p) q g = Under.in_counted (counts-of (Node.Seq p) g.0 q refl g.1) g.2 g.3
under-round s d e (Node.Set p) q g = Under.in_counted (counts-of (Node.Set p) g.0 q refl g.1) g.2 g.3
under-round s d e (Node.Cyc p) q g = Under.in_counted (counts-of (Node.Cyc p) g.0 q refl g.1) g.2 g.3

along : (s : Spec) (d e : ℕ) (m n : Node) → node_at s e ≡ Some m → node_at s e ≡ Some n → PassesToClass s d (Under s d) e m → PassesToClass s d (Under s d) e n
along s d e m n p q g = subst (λ x. PassesToClass s d (Under s d) e x) (some-node (sym p ∙ q)) g

counted-passes : (s : Spec) (d e : ℕ) (n : Node) (part : ℕ) (r : Range) → IsCountedOf n part → range_at s e ≡ Some r → (r.low ≤ 1) ⊎ HasEmpty s part → Under s d part → PassesToClass s d (Under s d) e n
counted-passes s d e (Node.Seq p) part r z is h u = (r, is, subst (λ x. (r.low ≤ 1) ⊎ HasEmpty s x) (sym z) h, subst (λ x. Under s d x) (sym z) u)
counted-passes s d e (Node.Set p) part r z is h u = (r, is, subst (λ x. (r.low ≤ 1) ⊎ HasEmpty s x) (sym z) h, subst (λ x. Under s d x) (sym z) u)
counted-passes s d e (Node.Cyc p) part r z is h u = (r, is, subst (λ x. (r.low ≤ 1) ⊎ HasEmpty s x) (sym z) h, subst (λ x. Under s d x) (sym z) u)
counted-passes s d e _ part r z is h u = elim z [ ]

-- A node with class d under it is a reference to d, or has d under a part, with objects of size 0
-- beside it.
pub under-passes : (s : Spec) (d e : ℕ) (n : Node) → node_at s e ≡ Some n → Under s d e → PassesToClass s d (Under s d) e n
under-passes s d e n q (Under.here p) = along s d e (Node.Class d) n p q refl
under-passes s d e n q (Under.in_union parts i part p g u) = along s d e (Node.Union parts) n p q (i, part, g, u)
under-passes s d e n q (Under.in_product before part after p l r u) = along s d e (Node.Product (before ++ (part ∷ after))) n p q (length before, part, at-end before part after, others s part l r, u)
under-passes s d e n q (Under.in_counted {part = part} {r = r} k h u) = counted-passes s d e n part r (as-node n k q) k.is_range h u
