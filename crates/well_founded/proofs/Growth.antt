-- Putting an object of a part into one of the whole: the nodes grow, and the size by a fixed number.
use Rattle.std.proofs.Common.{◌≡◌, ℕ, zero, suc, ◌+◌, ◌<◌, ◌≤◌, List, [], ◌∷◌, ◌++◌, Option, Some, arith, refl, sym, ap, subst}
use Rattle.std.specs.List.{slice_get}
use Rattle.bz_model.specs.Spec.{Spec, Node, Range, node_at, IsInRange, IsWithinHigh}
use Rattle.bz_model.specs.Object.{Object, Objects, none, more, count}
use Rattle.bz_model.specs.Measures.{size, sizes, tree_nodes, all_nodes}
use Rattle.well_founded.specs.Foundedness.{Counts}
use Rattle.well_founded.proofs.Orderly.{IsSoundRange}
use Rattle.well_founded.proofs.Having.{Of, OfEach, OfAll, form_of}
use Rattle.well_founded.proofs.Least.{size-form, tree_nodes-form, copies, count-copies, of-copies}

-- an object of node f that is larger than o by `extra`, and has more nodes
pub record Put (s : Spec) (f : ℕ) (o : Object) (extra : ℕ) : Type 0 where
  pub object : Object
  pub has : Of s f object
  pub sized : size object ≡ size o + extra
  pub grown : tree_nodes o < tree_nodes object

-- every object of node e gives one of node f
pub record Plug (s : Spec) (e f extra : ℕ) : Type 0 where
  pub put : (o : Object) → Of s e o → Put s f o extra

-- Each object of a part of a union f makes an object of f of the same size with more nodes.
pub plug-union : (s : Spec) (f : ℕ) (parts : List ℕ) (i part : ℕ) → node_at s f ≡ Some (Node.Union parts) → slice_get parts i ≡ Some part → Plug s part f 0
plug-union s f parts i part q g = record { put = λ o k. record { object = Object.Pick i o; has = Of.union parts i part o q g k refl; sized = omega arith; grown = omega arith } }

-- one list of objects before another
abbrev pub join : Objects → Objects → Objects
join none qs = qs
join (more o os) qs = more o (join os qs)

-- The size of two lists of objects joined is the sum of the sizes of both.
pub sizes-join : (os qs : Objects) → sizes (join os qs) ≡ sizes os + sizes qs
sizes-join none qs = omega arith
sizes-join (more o os) qs = let h = sizes-join os qs in omega arith

nodes-join : (os qs : Objects) → all_nodes qs ≤ all_nodes (join os qs)
nodes-join none qs = omega arith
nodes-join (more o os) qs = let h = nodes-join os qs in omega arith

-- Objects of the nodes es, one of each, followed by such objects of the nodes fs, are objects of es
-- followed by fs.
pub of-join : {s : Spec} {es : List ℕ} {os : Objects} {fs : List ℕ} {qs : Objects} → OfEach s es os → OfEach s fs qs → OfEach s (es ++ fs) (join os qs)
of-join OfEach.done l = l
of-join (OfEach.first k ks) l = OfEach.first k (of-join ks l)

-- Beside objects of all other factors, each object of one factor makes one of the product f with
-- more nodes, larger by the others' sizes.
pub plug-product : (s : Spec) (f : ℕ) (before : List ℕ) (part : ℕ) (after : List ℕ) (os qs : Objects) → node_at s f ≡ Some (Node.Product (before ++ (part ∷ after))) → OfEach s before os → OfEach s after qs → Plug s part f (sizes os + sizes qs)
plug-product s f before part after os qs q l r = record {
  put = λ o k.
      let a = sizes-join os (more o qs) in
      let b = nodes-join os (more o qs) in
      record { object = Object.Tuple (join os (more o qs)); has = Of.product (before ++ (part ∷ after)) (join os (more o qs)) q (of-join l (OfEach.first k r)) refl; sized = omega arith; grown = omega arith };
}

pub plug-counted : (s : Spec) (f part : ℕ) (r : Range) (qs : Objects) → Counts s f part r → IsInRange (suc (count qs)) (Some r) → OfAll s part qs → Plug s part f (sizes qs)
plug-counted s f part r qs c i l = record {
  put = λ o k.
      let a = size-form c.node (more o qs) in
      let b = tree_nodes-form c.node (more o qs) in
      record { object = form_of c.node (more o qs); has = Of.counted part r (more o qs) c i (OfAll.cons k l) refl; sized = omega arith; grown = omega arith };
}

-- one less, where that can be
abbrev pub before_last : ℕ → ℕ
before_last zero = 0
before_last (suc n) = n

fills-high : (low : ℕ) (high : Option ℕ) → IsWithinHigh low high → IsWithinHigh 1 high → IsWithinHigh (suc (before_last low)) high
fills-high zero high a b = b
fills-high (suc n) high a b = a

low-le_fill : (low : ℕ) → low ≤ suc (before_last low)
low-le_fill zero = omega arith
low-le_fill (suc n) = omega arith

-- with so many more parts the number of parts is in the range
pub fills : (r : Range) → IsSoundRange r → IsInRange (suc (before_last r.low)) (Some r)
fills r g = (low-le_fill r.low, fills-high r.low r.high g.low_within g.one_within)

-- Beside low - 1 copies of an object z of the part, each object of the part makes an object with
-- more nodes of the counted node, where the range is sound.
pub plug-copies : (s : Spec) (f part : ℕ) (r : Range) (z : Object) → Counts s f part r → IsSoundRange r → Of s part z → Plug s part f (sizes (copies (before_last r.low) z))
plug-copies s f part r z c g k = plug-counted s f part r (copies (before_last r.low) z) c (subst (λ n. IsInRange (suc n) (Some r)) (sym (count-copies (before_last r.low) z)) (fills r g)) (of-copies (before_last r.low) k)

none-before : (low : ℕ) → low ≤ 1 → before_last low ≡ 0
none-before zero h = refl
none-before (suc n) h = omega arith

-- where low is at most 1, no further part is needed
pub plug-alone : (s : Spec) (f part : ℕ) (r : Range) → Counts s f part r → IsSoundRange r → r.low ≤ 1 → Plug s part f 0
plug-alone s f part r c g h = plug-counted s f part r none c (subst (λ n. IsInRange (suc n) (Some r)) (none-before r.low h) (fills r g)) OfAll.nil

-- a member of a list, with what stands before and after it
pub record Split (parts : List ℕ) (part : ℕ) : Type 0 where
  pub before : List ℕ
  pub after : List ℕ
  pub is : parts ≡ before ++ (part ∷ after)

-- A list with an element at place i is what stands before it, the element, and what stands after
-- it.
pub split : (parts : List ℕ) (i part : ℕ) → slice_get parts i ≡ Some part → Split parts part
split [] i part q = absurd (cc)
split (p ∷ ps) zero part q = record { before = []; after = ps; is = cc }
split (p ∷ ps) (suc i) part q = let k = split ps i part q in record { before = p ∷ k.before; after = k.after; is = ap (λ (xs : List ℕ). p ∷ xs) k.is }

-- objects of one size with more nodes than any number
pub record Grown (s : Spec) (e n h : ℕ) : Type 0 where
  pub object : Object
  pub has : Of s e object
  pub sized : size object ≡ n
  pub many : h < tree_nodes object

pub record Unbounded (s : Spec) (e : ℕ) : Type 0 where
  pub at_size : ℕ
  pub grows : (h : ℕ) → Grown s e at_size h

-- Where each object of e makes one of f with more nodes and a fixed extra size, f has objects of
-- one size with ever more nodes if e has.
pub unbounded-plug : {s : Spec} {e f extra : ℕ} → Plug s e f extra → Unbounded s e → Unbounded s f
unbounded-plug {extra = extra} p u = record {
  at_size = u.at_size + extra;
  grows = λ h. let g = u.grows h in let q = p.put g.object g.has in let a = q.sized in let b = q.grown in let c = g.sized in let d = g.many in record { object = q.object; has = q.has; sized = omega arith; many = omega arith };
}

-- The tree of an object has at least one node.
pub tree_nodes-pos : (o : Object) → 0 < tree_nodes o
tree_nodes-pos Object.Unit_ = omega arith
tree_nodes-pos Object.Dot = omega arith
tree_nodes-pos (Object.Pick i o) = omega arith
tree_nodes-pos (Object.Tuple os) = omega arith
tree_nodes-pos (Object.SeqOf os) = omega arith
tree_nodes-pos (Object.SetOf os) = omega arith
tree_nodes-pos (Object.CycOf os) = omega arith

-- The trees of n copies of an object have at least n nodes together.
pub nodes-copies : (n : ℕ) (o : Object) → n ≤ all_nodes (copies n o)
nodes-copies zero o = omega arith
nodes-copies (suc n) o = let h = nodes-copies n o in let k = tree_nodes-pos o in omega arith
