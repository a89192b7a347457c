-- What the rule refuses isn't well founded.
use Rattle.std.proofs.Common.{◌≡◌, ℕ, zero, suc, ◌+◌, ◌<◌, ◌≤◌, inl, inr, List, [], ◌∷◌, ◌++◌, length, get_or, Some, arith, refl, sym, ◌∙◌, subst}
use Rattle.std.specs.List.{slice_get}
use Rattle.std.proofs.lemmas.Option.{slice_get_within, slice_get-get_or}
use Rattle.bz_model.specs.Spec.{Spec, Node, node_at, body_of, IsInRange, IsWithinHigh}
use Rattle.bz_model.specs.Measures.{tree_nodes}
use Rattle.bz_model.specs.WellFounded.{IsWellFounded}
use Rattle.well_founded.specs.Foundedness.{Counts, IsCountedOf, IsPartOfNode, Least, LeastEach, HasSome, LacksObject, RepeatsZero}
use Rattle.well_founded.proofs.Orderly.{IsOrderly}
use Rattle.well_founded.proofs.Having.{Of, form_of, belongs-of}
use Rattle.well_founded.proofs.Least.{size-form, tree_nodes-form, copies, count-copies, of-copies, sizes-copies, Found, found, found-each, no-atom, belongs-some}
use Rattle.well_founded.proofs.Growth.{plug-union, plug-product, plug-copies, Split, split, Grown, Unbounded, unbounded-plug, nodes-copies}

-- A class without an object.
pub no_object-unfounded : (s : Spec) (c : ℕ) → LacksObject s c → ¬ (IsWellFounded s)
no_object-unfounded s c k w = let o = w.inhabited c k.body k.is_body in k.without (belongs-some s k.body o.0 o.1)

-- Each number below the count of nodes is the number of a node.
pub node-there : (s : Spec) (e : ℕ) → e < length s.nodes → (n : Node) × (node_at s e ≡ Some n)
node-there s e h = (get_or s.nodes e (Node.Empty []), slice_get-get_or s.nodes e (Node.Empty []) h)

first-part : (parts : List ℕ) → 2 ≤ length parts → (part : ℕ) × (slice_get parts 0 ≡ Some part)
first-part [] h = absurd (omega arith)
first-part (p ∷ ps) h = (p, refl)

-- Where each element of a list of nodes is in the rule's least relation, the whole list is.
pub each-from : {s : Spec} {A : Type 0} (parts : List ℕ) → ((i part : ℕ) → slice_get parts i ≡ Some part → Least s A part) → LeastEach s A parts
each-from [] f = LeastEach.done
each-from (p ∷ ps) f = LeastEach.first (f 0 p refl) (each-from ps (λ i part q. f (suc i) part q))

each-tail : {s : Spec} {A : Type 0} {x : ℕ} {xs : List ℕ} → LeastEach s A (x ∷ xs) → LeastEach s A xs
each-tail (LeastEach.first k ks) = ks

each-head : {s : Spec} {A : Type 0} {x : ℕ} {xs : List ℕ} → LeastEach s A (x ∷ xs) → Least s A x
each-head (LeastEach.first k ks) = k

each-front : {s : Spec} {A : Type 0} (xs ys : List ℕ) → LeastEach s A (xs ++ ys) → LeastEach s A xs
each-front [] ys l = LeastEach.done
each-front (x ∷ xs) ys l = LeastEach.first (each-head l) (each-front xs ys (each-tail l))

each-back : {s : Spec} {A : Type 0} (xs ys : List ℕ) → LeastEach s A (xs ++ ys) → LeastEach s A ys
each-back [] ys l = l
each-back (x ∷ xs) ys l = each-back xs ys (each-tail l)

-- Where every class has an object, every node has one.
module _ (s : Spec) (sound : IsOrderly s) (objects : (c body : ℕ) → body_of s c ≡ Some body → HasSome s body) where
  counted-filled : (e part : ℕ) (n : Node) → node_at s e ≡ Some n → IsCountedOf n part → HasSome s part → HasSome s e
  counted-filled e part n q z l = let r = sound.ranged e n q in Least.counted {r = r.0} (record { node = n; is_node = q; of_part = z; is_range = r.1 }) l

  filled-node : (e : ℕ) (n : Node) → node_at s e ≡ Some n → ((part : ℕ) → IsPartOfNode n part → HasSome s part) → HasSome s e
  filled-node e (Node.Empty w) q ih = Least.empty w q
  filled-node e (Node.Atom w) q ih = Least.atom w q tt
  filled-node e (Node.Class c) q ih = let b = sound.classes e c q in Least.class c b.0 q b.1 (objects c b.0 b.1)
  filled-node e (Node.Union parts) q ih = let p = first-part parts (sound.unions e parts q) in Least.union parts 0 p.0 q p.1 (ih p.0 (0, p.1))
  filled-node e (Node.Product parts) q ih = Least.product parts q (each-from parts (λ i part g. ih part (i, g)))
  filled-node e (Node.Seq p) q ih = counted-filled e p (Node.Seq p) q refl (ih p refl)
  filled-node e (Node.Set p) q ih = counted-filled e p (Node.Set p) q refl (ih p refl)
  filled-node e (Node.Cyc p) q ih = counted-filled e p (Node.Cyc p) q refl (ih p refl)

  pub filled : (k e : ℕ) (n : Node) → e < k → node_at s e ≡ Some n → HasSome s e
  filled zero e n h q = absurd (omega arith)
  filled (suc k) e n h q = filled-node e n q (λ part i.
      let b : part < e = sound.below e part n q i in
      let w : e < length s.nodes = slice_get_within s.nodes e n q in
      let t = node-there s part (omega arith) in
      filled k part t.0 (omega arith) t.1)

  part-least : (e part : ℕ) (n : Node) → node_at s e ≡ Some n → IsPartOfNode n part → HasSome s part
  part-least e part n q i =
      let b : part < e = sound.below e part n q i in
      let w : e < length s.nodes = slice_get_within s.nodes e n q in
      let t = node-there s part (omega arith) in
      filled (suc part) part t.0 (omega arith) t.1

  part-found : (e part : ℕ) (n : Node) → node_at s e ≡ Some n → IsPartOfNode n part → Found s (Unit {0}) part
  part-found e part n q i = found s (Unit {0}) sound (part-least e part n q i)

  -- A node with a part whose objects are unbounded has unbounded ones itself.
  up-counted : (f e : ℕ) (m : Node) → node_at s f ≡ Some m → IsCountedOf m e → Found s (Unit {0}) e → Unbounded s e → Unbounded s f
  up-counted f e m q z k u =
      let r = sound.ranged f m q in
      let c : Counts s f e r.0 = record { node = m; is_node = q; of_part = z; is_range = r.1 } in
      unbounded-plug (plug-copies s f e r.0 k.object c (sound.ranges f e r.0 c) k.has) u

  up-product : (f e : ℕ) (parts : List ℕ) → node_at s f ≡ Some (Node.Product parts) → Split parts e → LeastEach s (Unit {0}) parts → Unbounded s e → Unbounded s f
  up-product f e parts q k l u =
      let w = subst (λ xs. LeastEach s (Unit {0}) xs) k.is l in
      let a = found-each s (Unit {0}) sound (each-front k.before (e ∷ k.after) w) in
      let b = found-each s (Unit {0}) sound (each-tail (each-back k.before (e ∷ k.after) w)) in
      unbounded-plug (plug-product s f k.before e k.after a.objects b.objects (subst (λ xs. node_at s f ≡ Some (Node.Product xs)) k.is q) a.has b.has) u

  up : (f e : ℕ) (m : Node) → node_at s f ≡ Some m → IsPartOfNode m e → Unbounded s e → Unbounded s f
  up f e (Node.Union parts) q i u = unbounded-plug (plug-union s f parts i.0 e q i.1) u
  up f e (Node.Product parts) q i u = up-product f e parts q (split parts i.0 e i.1) (each-from parts (λ j part g. part-least f part (Node.Product parts) q (j, g))) u
  up f e (Node.Seq p) q i u = up-counted f e (Node.Seq p) q i (part-found f e (Node.Seq p) q i) u
  up f e (Node.Set p) q i u = up-counted f e (Node.Set p) q i (part-found f e (Node.Set p) q i) u
  up f e (Node.Cyc p) q i u = up-counted f e (Node.Cyc p) q i (part-found f e (Node.Cyc p) q i) u
  up f e _ q i u = elim i [ ]

  -- So some class has.
  climb : (k e : ℕ) (n : Node) → node_at s e ≡ Some n → length s.nodes ≤ e + k → Unbounded s e → (c : ℕ) × (body : ℕ) × (body_of s c ≡ Some body) × Unbounded s body
  climb zero e n q h u = absurd (let w : e < length s.nodes = slice_get_within s.nodes e n q in omega arith)
  climb (suc k) e n q h u = elim (sound.placed e n q) [
    | inl b ↦ (b.0, e, b.1, u)
    | inr p ↦ let b : e < p.0 = sound.below p.0 e p.1 p.2 p.3 in climb k p.0 p.1 p.2 (omega arith) (up p.0 e p.1 p.2 p.3 u)
  ]

-- A specification isn't well founded where the body of a class has objects of one size with more
-- nodes than any number.
pub bounded-not : (s : Spec) (c body : ℕ) → body_of s c ≡ Some body → Unbounded s body → ¬ (IsWellFounded s)
bounded-not s c body q u w =
    let b = w.bounded c body u.at_size q in
    let g = u.grows b.0 in
    let le : tree_nodes g.object ≤ b.0 = b.1 g.object (belongs-of s g.has) g.sized in
    let lt : b.0 < tree_nodes g.object = g.many in
    omega arith

zero_part-grows : (s : Spec) → IsOrderly s → (e : ℕ) → RepeatsZero s e → Unbounded s e
zero_part-grows s sound e k = record { at_size = 0; grows = λ h. grow h (found s ⊥ sound k.zero) }
  where
    grow : (h : ℕ) → Found s ⊥ k.part → Grown s e 0 h
    grow h z =
        let n = k.range.low + h in
        let os = copies n z.object in
        let a = nodes-copies n z.object in
        let b = tree_nodes-form k.counts.node os in
        record {
          object = form_of k.counts.node os;
          has = Of.counted k.part k.range os k.counts (subst (λ m. IsInRange m (Some k.range)) (sym (count-copies n z.object)) (omega arith, subst (λ x. IsWithinHigh n x) (sym k.endless) tt)) (of-copies n z.has) refl;
          sized = size-form k.counts.node os ∙ sizes-copies n z.object (no-atom z.fits);
          many = omega arith;
        }

-- A counted node without high, of a part with an object of size 0.
pub zero_part-unfounded : (s : Spec) → IsOrderly s → (e : ℕ) → RepeatsZero s e → ¬ (IsWellFounded s)
zero_part-unfounded s sound e k w =
    let objects = λ (c body : ℕ) (q : body_of s c ≡ Some body). belongs-some s body (w.inhabited c body q).0 (w.inhabited c body q).1 in
    let u = climb s sound objects (length s.nodes) e k.counts.node k.counts.is_node (omega arith) (zero_part-grows s sound e k) in
    bounded-not s u.0 u.1 u.2 u.3 w
