-- What a node has, where class c has the objects of R c. Belonging and each height are instances, so that a law on one kind of node is proved once for any R.
use Rattle.std.proofs.Common.{◌≡◌, ℕ, ◌≤◌, max, List, [], ◌∷◌, arith, sym, subst, Option, Some}
use Rattle.std.specs.Prelude.{slice_get}
use Rattle.std.proofs.Math.Nat.{le-max_left, le-max_right}
use Rattle.bz_model.specs.Fraction.{Fraction}
use Rattle.bz_model.specs.Spec.{Spec, Node, Range, node_at, range_at, node_of, range_of}
use Rattle.bz_model.specs.Object.{Object, Objects, none, more, Has, HaveEach, HaveAll, ClassHas, Belongs}
use Rattle.bz_model.specs.Totals.{Above, Below}
use Rattle.bz_model.specs.Ideal.{option_of, Upto}
use Rattle.bz_laws.proofs.Samples.{AboveBy-weaker, BelowBy-weaker}
use Rattle.bz_laws.proofs.Heights.{has-mono, each-mono, all-mono, class-up_to}

-- the node of this number has the object
abbrev pub HasAt : Spec → (ℕ → Object → Type 0) → ℕ → Object → Type 0
HasAt s R e o = Has s R (node_at s e) (range_at s e) o

-- and the object has an option of at most i
abbrev pub HasUpto : Spec → (ℕ → Object → Type 0) → ℕ → ℕ → Object → Type 0
HasUpto s R e i o = HasAt s R e o × (option_of o ≤ i)

-- a class has the object with some height
abbrev pub ClassBelongs : Spec → ℕ → Object → Type 0
ClassBelongs s c o = (h : ℕ) × ClassHas s h c o

-- where the kind of a node is known
pub known : (s : Spec) (R : ℕ → Object → Type 0) (e : ℕ) {node : Node} → node_at s e ≡ Some node → (o : Object) → HasAt s R e o → Has s R (Some node) (range_at s e) o
known s R e at o h = subst (λ n. Has s R n (range_at s e) o) at h

-- Where node number e is a given node, what that node has with the range of e, number e has.
pub unknown : (s : Spec) (R : ℕ → Object → Type 0) (e : ℕ) {node : Node} → node_at s e ≡ Some node → (o : Object) → Has s R (Some node) (range_at s e) o → HasAt s R e o
unknown s R e at o h = subst (λ n. Has s R n (range_at s e) o) (sym at) h

-- finitely many heights have a greatest one
mutual
  pub has-belongs : (s : Spec) (n : Option Node) (r : Option Range) (o : Object) → Has s (ClassBelongs s) n r o → (h : ℕ) × Has s (ClassHas s h) n r o
  has-belongs s (Some (Node.Class c)) r o h = h
  has-belongs s (Some (Node.Empty w)) r Object.Unit_ h = (0, tt)
  has-belongs s (Some (Node.Atom w)) r Object.Dot h = (0, tt)
  has-belongs s (Some (Node.Union parts)) r (Object.Pick i o) h = has-belongs s (node_of s (slice_get parts i)) (range_of s (slice_get parts i)) o h
  has-belongs s (Some (Node.Product parts)) r (Object.Tuple os) h = each-belongs s parts os h
  has-belongs s (Some (Node.Seq part)) r (Object.SeqOf os) h = let k = all-belongs s part os h.1 in (k.0, (h.0, k.1))
  has-belongs s (Some (Node.Set part)) r (Object.SetOf os) h = let k = all-belongs s part os h.1 in (k.0, (h.0, k.1))
  has-belongs s (Some (Node.Cyc part)) r (Object.CycOf os) h = let k = all-belongs s part os h.1 in (k.0, (h.0, k.1))
  has-belongs s _ _ _ h = elim h [ ]

  pub each-belongs : (s : Spec) (parts : List ℕ) (os : Objects) → HaveEach s (ClassBelongs s) parts os → (h : ℕ) × HaveEach s (ClassHas s h) parts os
  each-belongs s [] none h = (0, tt)
  each-belongs s (part ∷ parts) (more o os) h =
      let a = has-belongs s (node_at s part) (range_at s part) o h.0 in
      let b = each-belongs s parts os h.1 in
      (max a.0 b.0, (has-mono s (ClassHas s a.0) (ClassHas s (max a.0 b.0)) (class-up_to s a.0 (max a.0 b.0) (omega (arith, le-max_left))) (node_at s part) (range_at s part) o a.1, each-mono s (ClassHas s b.0) (ClassHas s (max a.0 b.0)) (class-up_to s b.0 (max a.0 b.0) (omega (arith, le-max_right))) parts os b.1))
  each-belongs s _ _ h = elim h [ ]

  pub all-belongs : (s : Spec) (part : ℕ) (os : Objects) → HaveAll s (ClassBelongs s) part os → (h : ℕ) × HaveAll s (ClassHas s h) part os
  all-belongs s part none h = (0, tt)
  all-belongs s part (more o os) h =
      let a = has-belongs s (node_at s part) (range_at s part) o h.0 in
      let b = all-belongs s part os h.1 in
      (max a.0 b.0, (has-mono s (ClassHas s a.0) (ClassHas s (max a.0 b.0)) (class-up_to s a.0 (max a.0 b.0) (omega (arith, le-max_left))) (node_at s part) (range_at s part) o a.1, all-mono s (ClassHas s b.0) (ClassHas s (max a.0 b.0)) (class-up_to s b.0 (max a.0 b.0) (omega (arith, le-max_right))) part os b.1))

-- what belongs to a node is what it has of what belongs to the classes
pub belongs-has : (s : Spec) (e : ℕ) (o : Object) → Belongs s e o → HasAt s (ClassBelongs s) e o
belongs-has s e o b = has-mono s (ClassHas s b.0) (ClassBelongs s) (λ c p k. (b.0, k)) (node_at s e) (range_at s e) o b.1

-- An object that a node has, where each class has what belongs to it, belongs to the node.
pub belongs-of : (s : Spec) (e : ℕ) (o : Object) → HasAt s (ClassBelongs s) e o → Belongs s e o
belongs-of s e o h = has-belongs s (node_at s e) (range_at s e) o h

-- An object of a node with an option of at most i is one that the node has, where each class has
-- what belongs to it, with the same bound.
pub upto-has : (s : Spec) (e i : ℕ) (o : Object) → Upto s e i o → HasUpto s (ClassBelongs s) e i o
upto-has s e i o h = (belongs-has s e o h.0, h.1)

-- An object that a node has, where each class has what belongs to it, with an option of at most i,
-- belongs to the node with the same bound.
pub upto-of : (s : Spec) (e i : ℕ) (o : Object) → HasUpto s (ClassBelongs s) e i o → Upto s e i o
upto-of s e i o h = (belongs-of s e o h.0, h.1)

module _ (s : Spec) (x : Fraction) (e : ℕ) {f : Fraction} where
  pub above-of : Above x f (HasAt s (ClassBelongs s) e) → Above x f (Belongs s e)
  above-of up = AboveBy-weaker (belongs-has s e) up

  pub above-has : Above x f (Belongs s e) → Above x f (HasAt s (ClassBelongs s) e)
  above-has up = AboveBy-weaker (belongs-of s e) up

  pub below-of : Below x f (HasAt s (ClassBelongs s) e) → Below x f (Belongs s e)
  below-of down = BelowBy-weaker (belongs-of s e) down

  pub below-has : Below x f (Belongs s e) → Below x f (HasAt s (ClassBelongs s) e)
  below-has down = BelowBy-weaker (belongs-has s e) down
