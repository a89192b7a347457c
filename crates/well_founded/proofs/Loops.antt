-- A class that leads to itself, and has an object, has objects of one size with more nodes than any number.
use Rattle.std.proofs.Common.{◌≡◌, ℕ, zero, suc, ◌<◌, ◌≤◌, ◌⊎◌, inl, inr, List, ◌∷◌, ◌++◌, Option, Some, arith, refl, sym, ◌∙◌, subst}
use Rattle.bz_model.specs.Spec.{Spec, Node, Range, node_at, body_of}
use Rattle.bz_model.specs.Object.{Object}
use Rattle.bz_model.specs.Measures.{size, tree_nodes}
use Rattle.bz_model.specs.WellFounded.{IsWellFounded}
use Rattle.well_founded.specs.Foundedness.{Counts, IsCountedOf, Least, LeastEach, Under, StepsTo, Leads, LeadsRound}
use Rattle.well_founded.proofs.Orderly.{IsOrderly}
use Rattle.well_founded.proofs.Having.{Of, ClassOf, of-belongs}
use Rattle.well_founded.proofs.Least.{sizes-copies, found, found-each, no-atom}
use Rattle.well_founded.proofs.Growth.{Put, Plug, plug-union, plug-product, plug-copies, plug-alone, before_last, Grown, Unbounded, tree_nodes-pos}
use Rattle.well_founded.proofs.Refused.{bounded-not}

-- an object of the node of the same size as o, with no fewer nodes
record Kept (s : Spec) (e : ℕ) (o : Object) : Type 0 where
  object : Object
  has : Of s e object
  sized : size object ≡ size o
  kept : tree_nodes o ≤ tree_nodes object

-- each object of class d gives one of node e, of the same size and with more nodes
record Raises (s : Spec) (d e : ℕ) : Type 0 where
  raise : (o : Object) → ClassOf s d o → Put s e o 0

plug-along : {s : Spec} {e f x : ℕ} → Plug s e f x → x ≡ 0 → Plug s e f 0
plug-along {s} {e} {f} p z = subst (λ x. Plug s e f x) z p

keep : (s : Spec) (d e : ℕ) → (node_at s e ≡ Some (Node.Class d)) ⊎ Raises s d e → (o : Object) → ClassOf s d o → Kept s e o
keep s d e (inl q) o k = record { object = o; has = Of.class d k.body q k.is_body k.has; sized = refl; kept = omega arith }
keep s d e (inr r) o k = let p = r.raise o k in let a = p.sized in let b = p.grown in record { object = p.object; has = p.has; sized = omega arith; kept = omega arith }

raise-plug : (s : Spec) (d e f : ℕ) → Plug s e f 0 → (node_at s e ≡ Some (Node.Class d)) ⊎ Raises s d e → Raises s d f
raise-plug s d e f p h = record {
  raise = λ o k.
      let a = keep s d e h o k in
      let b = p.put a.object a.has in
      let c = a.sized in let g = a.kept in let i = b.sized in let j = b.grown in
      record { object = b.object; has = b.has; sized = omega arith; grown = omega arith };
}

module _ (s : Spec) (sound : IsOrderly s) where
  plug-low : (f part : ℕ) (r : Range) → Counts s f part r → (r.low ≤ 1) ⊎ Least s ⊥ part → Plug s part f 0
  plug-low f part r c (inl h) = plug-alone s f part r c (sound.ranges f part r c) h
  plug-low f part r c (inr l) = let z = found s ⊥ sound l in plug-along (plug-copies s f part r z.object c (sound.ranges f part r c) z.has) (sizes-copies (before_last r.low) z.object (no-atom z.fits))

  plug-beside : (f : ℕ) (before : List ℕ) (part : ℕ) (after : List ℕ) → node_at s f ≡ Some (Node.Product (before ++ (part ∷ after))) → LeastEach s ⊥ before → LeastEach s ⊥ after → Plug s part f 0
  plug-beside f before part after q l r =
      let a = found-each s ⊥ sound l in
      let b = found-each s ⊥ sound r in
      let x = no-atom a.fits in
      let y = no-atom b.fits in
      plug-along (plug-product s f before part after a.objects b.objects q a.has b.has) (omega arith)

  under-raises : {d e : ℕ} → Under s d e → (node_at s e ≡ Some (Node.Class d)) ⊎ Raises s d e
  under-raises (Under.here q) = inl q
  under-raises {d} {e} (Under.in_union parts i part q g u) = inr (raise-plug s d part e (plug-union s e parts i part q g) (under-raises u))
  under-raises {d} {e} (Under.in_product before part after q l r u) = inr (raise-plug s d part e (plug-beside e before part after q l r) (under-raises u))
  under-raises {d} {e} (Under.in_counted {part = part} {r = r} c h u) = inr (raise-plug s d part e (plug-low e part r c h) (under-raises u))

-- a step whose body is a bare reference
record Bare (s : Spec) (c d : ℕ) : Type 0 where
  body : ℕ
  is_body : body_of s c ≡ Some body
  is_class : node_at s body ≡ Some (Node.Class d)

data Bares (s : Spec) : ℕ → ℕ → Type 0 where
  last : {c d : ℕ} → Bare s c d → Bares s c d
  before : {c d e : ℕ} → Bare s c d → Bares s d e → Bares s c e

bares-then : {s : Spec} {c d e : ℕ} → Bares s c d → Bare s d e → Bares s c e
bares-then (Bares.last b) z = Bares.before b (Bares.last z)
bares-then (Bares.before b bs) z = Bares.before b (bares-then bs z)

-- An object never comes out of a loop of bare references.
some-same : {a b : ℕ} → Some a ≡ Some b → a ≡ b
some-same q = cc

record Turned (s : Spec) (c : ℕ) : Type 0 where
  next : ℕ
  bare : Bare s c next
  loop : Bares s next next

turned : {s : Spec} {c : ℕ} → Bares s c c → Turned s c
turned {c = c} (Bares.last b) = record { next = c; bare = b; loop = Bares.last b }
turned (Bares.before {d = d} b bs) = record { next = d; bare = b; loop = bares-then bs b }

bare-class : {n : Option Node} {d : ℕ} → n ≡ Some (Node.Class d) → {e : ℕ} → n ≡ Some (Node.Class e) → e ≡ d
bare-class p q = cc

loop-class : {s : Spec} {c e : ℕ} → body_of s c ≡ Some e → Bares s c c → (d : ℕ) × (node_at s e ≡ Some (Node.Class d))
loop-class {s} {c} {e} h l =
    let t = turned l in
    let same : t.bare.body ≡ e = some-same (sym t.bare.is_body ∙ h) in
    (t.next, subst (λ x. node_at s x ≡ Some (Node.Class t.next)) same t.bare.is_class)

not-counted : {s : Spec} {e part d : ℕ} {r : Range} → Counts s e part r → node_at s e ≡ Some (Node.Class d) → ⊥
not-counted {part = part} {d = d} k q = let same : k.node ≡ Node.Class d = some-node (sym k.is_node ∙ q) in subst (λ n. IsCountedOf n part) same k.of_part
  where
    some-node : {m n : Node} → Some m ≡ Some n → m ≡ n
    some-node q = cc

module _ (s : Spec) where
  no-loop : {e : ℕ} {o : Object} → Of s e o → (c : ℕ) → body_of s c ≡ Some e → Bares s c c → ⊥
  no-loop {e} (Of.class d body q b k) c h l =
      let t = turned l in
      let same : t.bare.body ≡ e = some-same (sym t.bare.is_body ∙ h) in
      let n : d ≡ t.next = bare-class (subst (λ x. node_at s x ≡ Some (Node.Class t.next)) same t.bare.is_class) q in
      no-loop k t.next (subst (λ x. body_of s x ≡ Some body) n b) t.loop
  no-loop {e} (Of.empty w q z) c h l = let t = loop-class h l in let k = t.1 in absurd (cc)
  no-loop {e} (Of.atom w q z) c h l = let t = loop-class h l in let k = t.1 in absurd (cc)
  no-loop {e} (Of.union parts i part p q g k z) c h l = let t = loop-class h l in let k = t.1 in absurd (cc)
  no-loop {e} (Of.product parts os q k z) c h l = let t = loop-class h l in let k = t.1 in absurd (cc)
  no-loop {e} (Of.counted part r os k i a z) c h l = not-counted k (loop-class h l).1

-- an object of class c of the same size as o, with more nodes
record Larger (s : Spec) (c : ℕ) (o : Object) : Type 0 where
  object : Object
  has : ClassOf s c object
  sized : size object ≡ size o
  grown : tree_nodes o < tree_nodes object

-- each object of class d gives a larger one of class c
record Grows (s : Spec) (c d : ℕ) : Type 0 where
  grow : (o : Object) → ClassOf s d o → Larger s c o

through : {s : Spec} {c d : ℕ} → Bare s c d → (o : Object) → ClassOf s d o → ClassOf s c o
through {d = d} b o k = record { body = b.body; is_body = b.is_body; has = Of.class d k.body b.is_class k.is_body k.has }

through-all : {s : Spec} {c d : ℕ} → Bares s c d → (o : Object) → ClassOf s d o → ClassOf s c o
through-all (Bares.last b) o k = through b o k
through-all (Bares.before b bs) o k = through b o (through-all bs o k)

step-grows : (s : Spec) → IsOrderly s → (c d : ℕ) → StepsTo s c d → Grows s c d ⊎ Bare s c d
step-grows s sound c d st = elim (under-raises s sound st.under) [
  | inl q ↦ inr (record { body = st.body; is_body = st.is_body; is_class = q })
  | inr r ↦ inl (record { grow = λ o k. let p = r.raise o k in let a = p.sized in record { object = p.object; has = record { body = st.body; is_body = st.is_body; has = p.has }; sized = omega arith; grown = p.grown } })
]

grows-then : {s : Spec} {c d e : ℕ} → Grows s c d ⊎ Bares s c d → Grows s d e ⊎ Bare s d e → Grows s c e ⊎ Bares s c e
grows-then (inl g) (inl h) = inl (record { grow = λ o k. let a = h.grow o k in let b = g.grow a.object a.has in let p = a.sized in let q = b.sized in let u = a.grown in let v = b.grown in record { object = b.object; has = b.has; sized = omega arith; grown = omega arith } })
grows-then (inl g) (inr h) = inl (record { grow = λ o k. g.grow o (through h o k) })
grows-then (inr g) (inl h) = inl (record { grow = λ o k. let a = h.grow o k in record { object = a.object; has = through-all g a.object a.has; sized = a.sized; grown = a.grown } })
grows-then (inr g) (inr h) = inr (bares-then g h)

to-bares : {s : Spec} {c d : ℕ} → Grows s c d ⊎ Bare s c d → Grows s c d ⊎ Bares s c d
to-bares (inl g) = inl g
to-bares (inr b) = inr (Bares.last b)

leads-grow : (s : Spec) → IsOrderly s → (c : ℕ) {d : ℕ} → Leads s c d → Grows s c d ⊎ Bares s c d
leads-grow s sound c {d} (Leads.one st) = to-bares (step-grows s sound c d st)
leads-grow s sound c {d = e} (Leads.further {d = d} l st) = grows-then (leads-grow s sound c l) (step-grows s sound d e st)

-- round and round
record Round (s : Spec) (c n h : ℕ) : Type 0 where
  object : Object
  has : ClassOf s c object
  sized : size object ≡ n
  many : h < tree_nodes object

round : {s : Spec} {c : ℕ} → Grows s c c → (o : Object) → ClassOf s c o → (h : ℕ) → Round s c (size o) h
round g o k zero = record { object = o; has = k; sized = refl; many = tree_nodes-pos o }
round g o k (suc h) = let a = round g o k h in let b = g.grow a.object a.has in let p = a.sized in let q = b.sized in let u = a.many in let v = b.grown in record { object = b.object; has = b.has; sized = omega arith; many = omega arith }

round-in : {s : Spec} {c body n h : ℕ} → body_of s c ≡ Some body → Round s c n h → Grown s body n h
round-in {s} q r = record { object = r.object; has = subst (λ x. Of s x r.object) (some-same (sym r.has.is_body ∙ q)) r.has.has; sized = r.sized; many = r.many }

leads-body : {s : Spec} {c d : ℕ} → Leads s c d → (body : ℕ) × (body_of s c ≡ Some body)
leads-body (Leads.one st) = (st.body, st.is_body)
leads-body (Leads.further l st) = leads-body l

loop-unbounded : (s : Spec) → IsOrderly s → (c body : ℕ) → body_of s c ≡ Some body → (o : Object) → Of s body o → Grows s c c ⊎ Bares s c c → Unbounded s body
loop-unbounded s sound c body q o k (inl g) = record { at_size = size o; grows = λ h. round-in q (round g o (record { body = body; is_body = q; has = k }) h) }
loop-unbounded s sound c body q o k (inr b) = absurd (no-loop s k c q b)

-- A class that one or more steps lead to itself.
pub zero_loop-unfounded : (s : Spec) → IsOrderly s → (c : ℕ) → LeadsRound s c → ¬ (IsWellFounded s)
zero_loop-unfounded s sound c l w =
    let b = leads-body l.leads in
    let o = w.inhabited c b.0 b.1 in
    bounded-not s c b.0 b.1 (loop-unbounded s sound c b.0 b.1 o.0 (of-belongs s b.0 o.0 o.1) (leads-grow s sound c l.leads)) w
