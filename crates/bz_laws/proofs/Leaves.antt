-- Leaves and references: what they have, and what that totals.
use Rattle.std.proofs.Common.{◌≡◌, ℕ, zero, suc, List, refl, sym, subst, Option, Some}
use Rattle.bz_model.specs.Fraction.{Fraction, whole}
use Rattle.bz_model.specs.Spec.{Spec, Node, Range, node_at, range_at, body_of}
use Rattle.bz_model.specs.Object.{Object, Has, ClassHas, HasWithin, Belongs}
use Rattle.bz_model.specs.Measures.{weight}
use Rattle.bz_model.specs.Totals.{Above, Below}
use Rattle.bz_laws.proofs.Samples.{above-one, below-one, AboveBy-weaker, BelowBy-weaker}
use Rattle.bz_laws.proofs.Nodes.{HasAt, ClassBelongs, known, unknown, belongs-has, belongs-of}

has-atom : (s : Spec) (R : ℕ → Object → Type 0) (word : List ℕ) (r : Option Range) (o : Object) → Has s R (Some (Node.Atom word)) r o → o ≡ Object.Dot
has-atom s R word r Object.Dot h = refl
has-atom s R word r _ h = elim h [ ]

has-empty : (s : Spec) (R : ℕ → Object → Type 0) (word : List ℕ) (r : Option Range) (o : Object) → Has s R (Some (Node.Empty word)) r o → o ≡ Object.Unit_
has-empty s R word r Object.Unit_ h = refl
has-empty s R word r _ h = elim h [ ]

module _ (s : Spec) (R : ℕ → Object → Type 0) (x : Fraction) (e : ℕ) where
  -- an atom totals x
  pub above-atom-at : (word : List ℕ) → node_at s e ≡ Some (Node.Atom word) → Above x x (HasAt s R e)
  above-atom-at word node = above-one (weight x) Object.Dot (HasAt s R e) (λ o h. has-atom s R word (range_at s e) o (known s R e node o h))

  pub below-atom-at : (word : List ℕ) → node_at s e ≡ Some (Node.Atom word) → Below x x (HasAt s R e)
  below-atom-at word node = below-one (weight x) Object.Dot (HasAt s R e) (unknown s R e node Object.Dot tt)

  -- a neutral leaf totals 1
  pub above-empty-at : (word : List ℕ) → node_at s e ≡ Some (Node.Empty word) → Above x (whole 1) (HasAt s R e)
  above-empty-at word node = above-one (weight x) Object.Unit_ (HasAt s R e) (λ o h. has-empty s R word (range_at s e) o (known s R e node o h))

  pub below-empty-at : (word : List ℕ) → node_at s e ≡ Some (Node.Empty word) → Below x (whole 1) (HasAt s R e)
  below-empty-at word node = below-one (weight x) Object.Unit_ (HasAt s R e) (unknown s R e node Object.Unit_ tt)

  -- a reference totals what its class does
  pub above-class-at : (c : ℕ) {f : Fraction} → node_at s e ≡ Some (Node.Class c) → Above x f (R c) → Above x f (HasAt s R e)
  above-class-at c node up = AboveBy-weaker (λ o h. known s R e node o h) up

  pub below-class-at : (c : ℕ) {f : Fraction} → node_at s e ≡ Some (Node.Class c) → Below x f (R c) → Below x f (HasAt s R e)
  below-class-at c node down = BelowBy-weaker (λ o h. unknown s R e node o h) down

module _ (s : Spec) (x : Fraction) (e : ℕ) where
  -- the same for what belongs to a leaf
  pub above-atom : (word : List ℕ) → node_at s e ≡ Some (Node.Atom word) → Above x x (Belongs s e)
  above-atom word node = AboveBy-weaker (belongs-has s e) (above-atom-at s (ClassBelongs s) x e word node)

  pub below-atom : (word : List ℕ) → node_at s e ≡ Some (Node.Atom word) → Below x x (Belongs s e)
  below-atom word node = BelowBy-weaker (belongs-of s e) (below-atom-at s (ClassBelongs s) x e word node)

  pub above-empty : (word : List ℕ) → node_at s e ≡ Some (Node.Empty word) → Above x (whole 1) (Belongs s e)
  above-empty word node = AboveBy-weaker (belongs-has s e) (above-empty-at s (ClassBelongs s) x e word node)

  pub below-empty : (word : List ℕ) → node_at s e ≡ Some (Node.Empty word) → Below x (whole 1) (Belongs s e)
  below-empty word node = BelowBy-weaker (belongs-of s e) (below-empty-at s (ClassBelongs s) x e word node)

-- with at most h + 1 references a class has what its body has with at most h
pub class-body : (s : Spec) (h c body : ℕ) → body_of s c ≡ Some body → (o : Object) → HasWithin s h (Some body) o → ClassHas s (suc h) c o
class-body s h c body at o k = subst (λ p. HasWithin s h p o) (sym at) k

-- What a class has with height at most h + 1, the body of the class has with height at most h.
pub body-class : (s : Spec) (h c body : ℕ) → body_of s c ≡ Some body → (o : Object) → ClassHas s (suc h) c o → HasWithin s h (Some body) o
body-class s h c body at o k = subst (λ p. HasWithin s h p o) at k

-- a reference has what the class's body has, with one more height
pub class-into-within : (s : Spec) (h e c body : ℕ) → node_at s e ≡ Some (Node.Class c) → body_of s c ≡ Some body → (o : Object) → HasWithin s h (Some body) o → HasWithin s (suc h) (Some e) o
class-into-within s h e c body node at o k = unknown s (ClassHas s (suc h)) e node o (class-body s h c body at o k)

-- What a reference to a class has with height at most h + 1, the class's body has with height at
-- most h.
pub class-from-within : (s : Spec) (h e c body : ℕ) → node_at s e ≡ Some (Node.Class c) → body_of s c ≡ Some body → (o : Object) → HasWithin s (suc h) (Some e) o → HasWithin s h (Some body) o
class-from-within s h e c body node at o k = body-class s h c body at o (known s (ClassHas s (suc h)) e node o k)

-- with no reference it has nothing
pub class-none-within : (s : Spec) (e c : ℕ) → node_at s e ≡ Some (Node.Class c) → (o : Object) → ¬ (HasWithin s 0 (Some e) o)
class-none-within s e c node o k = let none_there : ClassHas s 0 c o = known s (ClassHas s 0) e node o k in none_there

-- What belongs to the body of a class belongs to each reference to the class.
pub class-into : (s : Spec) (e c body : ℕ) → node_at s e ≡ Some (Node.Class c) → body_of s c ≡ Some body → (o : Object) → Belongs s body o → Belongs s e o
class-into s e c body node at o b = (suc b.0, class-into-within s b.0 e c body node at o b.1)

-- What belongs to a reference to a class belongs to the class's body.
pub class-from : (s : Spec) (e c body : ℕ) → node_at s e ≡ Some (Node.Class c) → body_of s c ≡ Some body → (o : Object) → Belongs s e o → Belongs s body o
class-from s e c body node at o b = go b.0 (known s (ClassHas s b.0) e node o b.1)
  where
    go : (h : ℕ) → ClassHas s h c o → Belongs s body o
    go zero k = elim k [ ]
    go (suc h) k = (h, body-class s h c body at o k)

-- bounds of the body bound the reference
pub above-class : (s : Spec) (x : Fraction) (e c body : ℕ) {f : Fraction} → node_at s e ≡ Some (Node.Class c) → body_of s c ≡ Some body → Above x f (Belongs s body) → Above x f (Belongs s e)
above-class s x e c body node at up = AboveBy-weaker (class-from s e c body node at) up

-- A lower bound of the totals of objects of a class's body is one of objects of a reference to the
-- class.
pub below-class : (s : Spec) (x : Fraction) (e c body : ℕ) {f : Fraction} → node_at s e ≡ Some (Node.Class c) → body_of s c ≡ Some body → Below x f (Belongs s body) → Below x f (Belongs s e)
below-class s x e c body node at down = BelowBy-weaker (class-into s e c body node at) down
