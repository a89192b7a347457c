-- The rule's least relations are "has an object" and "has an object of size 0".
use Rattle.std.proofs.Common.{◌≡◌, ℕ, zero, suc, ◌+◌, ◌⊎◌, inl, inr, List, Option, Some, None, arith, refl, sym, ap, ◌∙◌, subst}
use Rattle.bz_model.specs.Spec.{Spec, Node, Range, IsInRange, IsWithinHigh}
use Rattle.bz_model.specs.Object.{Object, Objects, none, more, count, Belongs}
use Rattle.bz_model.specs.Measures.{size, sizes, tree_nodes, all_nodes, HasZero}
use Rattle.well_founded.specs.Foundedness.{Counts, Least, LeastEach, HasSome, HasEmpty}
use Rattle.well_founded.proofs.Orderly.{IsOrderly}
use Rattle.well_founded.proofs.Having.{Of, OfEach, OfAll, form_of, of-belongs, belongs-of}

-- The size of what a counted node makes of a list of objects is the sum of their sizes.
pub size-form : (n : Node) (os : Objects) → size (form_of n os) ≡ sizes os
size-form (Node.Set p) os = refl
size-form (Node.Cyc p) os = refl
size-form _ os = refl

-- What a counted node makes of a list of objects has one node more than their trees together.
pub tree_nodes-form : (n : Node) (os : Objects) → tree_nodes (form_of n os) ≡ suc (all_nodes os)
tree_nodes-form (Node.Set p) os = refl
tree_nodes-form (Node.Cyc p) os = refl
tree_nodes-form _ os = refl

-- an object as often as n says
abbrev pub copies : ℕ → Object → Objects
copies zero o = none
copies (suc n) o = more o (copies n o)

-- There are n objects in n copies of an object.
pub count-copies : (n : ℕ) (o : Object) → count (copies n o) ≡ n
count-copies zero o = refl
count-copies (suc n) o = ap suc (count-copies n o)

-- All of n copies of an object of a node are objects of this node.
pub of-copies : {s : Spec} {e : ℕ} (n : ℕ) {o : Object} → Of s e o → OfAll s e (copies n o)
of-copies zero k = OfAll.nil
of-copies (suc n) k = OfAll.cons k (of-copies n k)

-- Copies of an object of size 0 have size 0 together.
pub sizes-copies : (n : ℕ) (o : Object) → size o ≡ 0 → sizes (copies n o) ≡ 0
sizes-copies zero o z = refl
sizes-copies (suc n) o z = let h = sizes-copies n o z in omega arith

-- an object of the node that fits: A holds, or it has size 0
pub record Found (s : Spec) (A : Type 0) (e : ℕ) : Type 0 where
  pub object : Object
  pub has : Of s e object
  pub fits : A ⊎ (size object ≡ 0)

pub record FoundEach (s : Spec) (A : Type 0) (es : List ℕ) : Type 0 where
  pub objects : Objects
  pub has : OfEach s es objects
  pub fits : A ⊎ (sizes objects ≡ 0)

fits-both : {A : Type 0} {a b : ℕ} → A ⊎ (a ≡ 0) → A ⊎ (b ≡ 0) → A ⊎ (a + b ≡ 0)
fits-both (inl k) y = inl k
fits-both (inr p) (inl k) = inl k
fits-both (inr p) (inr q) = inr (omega arith)

fits-along : {A : Type 0} {a b : ℕ} → b ≡ a → A ⊎ (a ≡ 0) → A ⊎ (b ≡ 0)
fits-along e (inl k) = inl k
fits-along e (inr p) = inr (omega arith)

fits-copies : {A : Type 0} (n : ℕ) (o : Object) → A ⊎ (size o ≡ 0) → A ⊎ (sizes (copies n o) ≡ 0)
fits-copies n o (inl k) = inl k
fits-copies n o (inr p) = inr (sizes-copies n o p)

zero-within : (high : Option ℕ) → IsWithinHigh 0 high
zero-within None = tt
zero-within (Some h) = omega arith

low-copies : (r : Range) → IsWithinHigh r.low r.high → (o : Object) → IsInRange (count (copies r.low o)) (Some r)
low-copies r w o = subst (λ n. IsInRange n (Some r)) (sym (count-copies r.low o)) (omega arith, w)

module _ (s : Spec) (A : Type 0) (sound : IsOrderly s) where
  mutual
    pub found : {e : ℕ} → Least s A e → Found s A e
    found (Least.empty w q) = record { object = Object.Unit_; has = Of.empty w q refl; fits = inr refl }
    found (Least.atom w q a) = record { object = Object.Dot; has = Of.atom w q refl; fits = inl a }
    found (Least.class c body q b k) = let f = found k in record { object = f.object; has = Of.class c body q b f.has; fits = f.fits }
    found (Least.union parts i part q g k) = let f = found k in record { object = Object.Pick i f.object; has = Of.union parts i part f.object q g f.has refl; fits = f.fits }
    found (Least.product parts q k) = let f = found-each k in record { object = Object.Tuple f.objects; has = Of.product parts f.objects q f.has refl; fits = f.fits }
    found (Least.free {part = part} {r = r} k z) = record { object = form_of k.node none; has = Of.counted part r none k (omega arith, zero-within r.high) OfAll.nil refl; fits = inr (size-form k.node none) }
    found (Least.counted {e = e} {part = part} {r = r} k l) =
        let f = found l in
        record {
          object = form_of k.node (copies r.low f.object);
          has = Of.counted part r (copies r.low f.object) k (low-copies r (sound.ranges e part r k).low_within f.object) (of-copies r.low f.has) refl;
          fits = fits-along (size-form k.node (copies r.low f.object)) (fits-copies r.low f.object f.fits);
        }

    pub found-each : {es : List ℕ} → LeastEach s A es → FoundEach s A es
    found-each LeastEach.done = record { objects = none; has = OfEach.done; fits = inr refl }
    found-each (LeastEach.first k ks) = let f = found k in let g = found-each ks in record { objects = more f.object g.objects; has = OfEach.first f.has g.has; fits = fits-both f.fits g.fits }

-- what fits of a whole fits of its parts
fits-left : {A : Type 0} (a b : ℕ) → A ⊎ (a + b ≡ 0) → A ⊎ (a ≡ 0)
fits-left a b (inl k) = inl k
fits-left a b (inr p) = inr (omega arith)

fits-right : {A : Type 0} (a b : ℕ) → A ⊎ (a + b ≡ 0) → A ⊎ (b ≡ 0)
fits-right a b (inl k) = inl k
fits-right a b (inr p) = inr (omega arith)

atom-fits : {A : Type 0} {o : Object} → o ≡ Object.Dot → A ⊎ (size o ≡ 0) → A
atom-fits z (inl k) = k
atom-fits z (inr p) = absurd (let h = ap size z in omega arith)

by-part : {s : Spec} {A : Type 0} {e part : ℕ} {r : Range} (os : Objects) → Counts s e part r → IsInRange (count os) (Some r) → (os ≡ none) ⊎ Least s A part → Least s A e
by-part {r = r} os k i (inl z) = Least.free k (let h = ap count z in let g = i.0 in omega arith)
by-part os k i (inr l) = Least.counted k l

module _ (s : Spec) (A : Type 0) where
  mutual
    pub least : {e : ℕ} {o : Object} → Of s e o → A ⊎ (size o ≡ 0) → Least s A e
    least (Of.empty w q z) f = Least.empty w q
    least (Of.atom w q z) f = Least.atom w q (atom-fits z f)
    least (Of.class c body q b k) f = Least.class c body q b (least k f)
    least (Of.union parts i part p q g k z) f = Least.union parts i part q g (least k (fits-along (sym (ap size z)) f))
    least (Of.product parts os q k z) f = Least.product parts q (least-each k (fits-along (sym (ap size z)) f))
    least (Of.counted part r os k i a z) f = by-part os k i (least-first a (fits-along (sym (size-form k.node os) ∙ sym (ap size z)) f))

    pub least-each : {es : List ℕ} {os : Objects} → OfEach s es os → A ⊎ (sizes os ≡ 0) → LeastEach s A es
    least-each OfEach.done f = LeastEach.done
    least-each (OfEach.first {o = o} {os = os} k ks) f = LeastEach.first (least k (fits-left (size o) (sizes os) f)) (least-each ks (fits-right (size o) (sizes os) f))

    least-first : {e : ℕ} {os : Objects} → OfAll s e os → A ⊎ (sizes os ≡ 0) → (os ≡ none) ⊎ Least s A e
    least-first OfAll.nil f = inl refl
    least-first (OfAll.cons {o = o} {os = os} k ks) f = inr (least k (fits-left (size o) (sizes os) f))

-- By the rule a node has an object exactly where one belongs to it.
pub some-belongs : (s : Spec) → IsOrderly s → (e : ℕ) → HasSome s e → (o : Object) × Belongs s e o
some-belongs s sound e h = let f = found s (Unit {0}) sound h in (f.object, belongs-of s f.has)

-- A node to which an object belongs has an object by the rule.
pub belongs-some : (s : Spec) (e : ℕ) (o : Object) → Belongs s e o → HasSome s e
belongs-some s e o b = least s (Unit {0}) (of-belongs s e o b) (inl tt)

-- Where the impossible holds or n is 0, n is 0.
pub no-atom : {n : ℕ} → ⊥ ⊎ (n ≡ 0) → n ≡ 0
no-atom (inl k) = elim k [ ]
no-atom (inr p) = p

-- By the rule a node has an object of size 0 exactly where one belongs to it.
pub empty-belongs : (s : Spec) → IsOrderly s → (e : ℕ) → HasEmpty s e → HasZero s e
empty-belongs s sound e h = let f = found s ⊥ sound h in record { object = f.object; belongs = belongs-of s f.has; no_atom = no-atom f.fits }

-- A node to which an object of size 0 belongs has an object of size 0 by the rule.
pub belongs-empty : (s : Spec) (e : ℕ) → HasZero s e → HasEmpty s e
belongs-empty s e h = least s ⊥ (of-belongs s e h.object h.belongs) (inr h.no_atom)
