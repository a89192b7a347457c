-- What a product has: one object of each part. The bounds of the parts, multiplied, bound it.
use Rattle.std.proofs.Common.{◌≡◌, ℕ, max, List, [], ◌∷◌, arith, refl, sym, ◌∙◌, ap, subst, Option, Some}
use Rattle.std.specs.List.{AllByRecursion}
use Rattle.std.proofs.Math.Nat.{le-max_left, le-max_right}
use native.Mathlib.Decide.{ℕ_discrete}
use Rattle.bz_model.specs.Fraction.{Fraction, AtMost, times}
use Rattle.bz_model.specs.Spec.{Spec, Node, Range, node_at, range_at}
use Rattle.bz_model.specs.Object.{Object, Objects, none, more, Has, HaveEach, ClassHas, Belongs, Object-discrete}
use Rattle.bz_model.specs.Measures.{weight, weights}
use Rattle.bz_model.specs.Totals.{AboveBy, BelowBy, Above, Below}
use Rattle.bz_laws.specs.Terms.{product_by}
use Rattle.bz_laws.specs.Parts.{head, tail}
use Rattle.bz_laws.proofs.Fractions.{AtMost-refl}
use Rattle.bz_laws.proofs.Samples.{AllByRecursion-weaker, AboveBy-weaker, BelowBy-weaker, above-one, below-one, above-along, below-along}
use Rattle.bz_laws.proofs.Pairs.{above-pairs, below-pairs, pair_weight, pair_path}
use Rattle.bz_laws.proofs.Heights.{each-mono, class-up_to, within-up_to}
use Rattle.bz_laws.proofs.Nodes.{HasAt, ClassBelongs, known, unknown, belongs-has, belongs-of, above-has, below-has}

-- the parts of a tuple
abbrev pub parts_of : Object → Objects
parts_of (Object.Tuple os) = os
parts_of _ = none

module _ (s : Spec) (R : ℕ → Object → Type 0) where
  pub has-product : (parts : List ℕ) (r : Option Range) (o : Object) → Has s R (Some (Node.Product parts)) r o → (o ≡ Object.Tuple (parts_of o)) × HaveEach s R parts (parts_of o)
  has-product parts r (Object.Tuple os) h = (refl, h)
  has-product parts r _ h = elim h [ ]

  module _ (x : Fraction) (g : ℕ → Fraction) where
    -- lists of one object of each part
    pub above-each : (parts : List ℕ) → AllByRecursion (λ p. Above x (g p) (HasAt s R p)) parts → AboveBy (weights x) (product_by g parts) (HaveEach s R parts)
    above-each [] h = above-one (weights x) none (HaveEach s R []) only
      where
        only : (os : Objects) → HaveEach s R [] os → os ≡ none
        only none k = refl
        only (more o os) k = elim k [ ]
    above-each (part ∷ parts) h =
        above-along (λ os. (head os, tail os)) (HaveEach s R (part ∷ parts)) (λ q. HasAt s R part q.0 × HaveEach s R parts q.1) into same (weights x) (pair_weight (weight x) (weights x)) no_less
        (above-pairs (weight x) (weights x) (Object-discrete ℕ_discrete) h.0 (above-each parts h.1))
      where
        into : (os : Objects) → HaveEach s R (part ∷ parts) os → HasAt s R part (head os) × HaveEach s R parts (tail os)
        into none k = elim k [ ]
        into (more o os) k = k

        same : (os qs : Objects) → HaveEach s R (part ∷ parts) os → HaveEach s R (part ∷ parts) qs → ◌≡◌ {A = Object × Objects} (head os, tail os) (head qs, tail qs) → os ≡ qs
        same none qs k l e = elim k [ ]
        same (more o os) none k l e = elim l [ ]
        same (more o os) (more q qs) k l e = ap (λ (z : Object × Objects). more z.0 z.1) e

        no_less : (os : Objects) → HaveEach s R (part ∷ parts) os → AtMost (weights x os) (times (weight x (head os)) (weights x (tail os)))
        no_less none k = elim k [ ]
        no_less (more o os) k = AtMost-refl _

    pub below-each : (parts : List ℕ) → AllByRecursion (λ p. Below x (g p) (HasAt s R p)) parts → BelowBy (weights x) (product_by g parts) (HaveEach s R parts)
    below-each [] h = below-one (weights x) none (HaveEach s R []) tt
    below-each (part ∷ parts) h =
        below-along (λ (q : Object × Objects). more q.0 q.1) (λ q. HasAt s R part q.0 × HaveEach s R parts q.1) (HaveEach s R (part ∷ parts)) (λ q k. k) (λ a b p q eq. pair_path (ap head eq) (ap tail eq)) (pair_weight (weight x) (weights x)) (weights x) (λ q k. AtMost-refl _)
        (below-pairs (weight x) (weights x) h.0 (below-each parts h.1))

    module _ (e : ℕ) (parts : List ℕ) (node : node_at s e ≡ Some (Node.Product parts)) where
      taken-apart : (o : Object) → HasAt s R e o → (o ≡ Object.Tuple (parts_of o)) × HaveEach s R parts (parts_of o)
      taken-apart o h = has-product parts (range_at s e) o (known s R e node o h)

      -- bounds of the parts, multiplied, bound the product
      pub above-product-at : AllByRecursion (λ p. Above x (g p) (HasAt s R p)) parts → Above x (product_by g parts) (HasAt s R e)
      above-product-at h =
          above-along parts_of (HasAt s R e) (HaveEach s R parts) (λ o b. (taken-apart o b).1) (λ a b p q eq. (taken-apart a p).0 ∙ ap Object.Tuple eq ∙ sym (taken-apart b q).0) (weight x) (weights x)
          (λ o b. subst (λ p. AtMost (weight x p) (weights x (parts_of o))) (sym (taken-apart o b).0) (AtMost-refl (weights x (parts_of o))))
          (above-each parts h)

      pub below-product-at : AllByRecursion (λ p. Below x (g p) (HasAt s R p)) parts → Below x (product_by g parts) (HasAt s R e)
      below-product-at h =
          below-along Object.Tuple (HaveEach s R parts) (HasAt s R e) (λ os k. unknown s R e node (Object.Tuple os) k) (λ a b p q eq. ap parts_of eq) (weights x) (weight x) (λ os k. AtMost-refl (weights x os)) (below-each parts h)

module _ (s : Spec) (x : Fraction) (e : ℕ) (parts : List ℕ) (node : node_at s e ≡ Some (Node.Product parts)) (g : ℕ → Fraction) where
  -- the same for what belongs to the product
  pub above-product : AllByRecursion (λ p. Above x (g p) (Belongs s p)) parts → Above x (product_by g parts) (Belongs s e)
  above-product h = AboveBy-weaker (belongs-has s e) (above-product-at s (ClassBelongs s) x g e parts node (AllByRecursion-weaker (λ p up. above-has s x p up) parts h))

  pub below-product : AllByRecursion (λ p. Below x (g p) (Belongs s p)) parts → Below x (product_by g parts) (Belongs s e)
  below-product h = BelowBy-weaker (belongs-of s e) (below-product-at s (ClassBelongs s) x g e parts node (AllByRecursion-weaker (λ p down. below-has s x p down) parts h))

-- one object of each part, each of its own height
abbrev pub BelongEach : Spec → List ℕ → Objects → Type 0
BelongEach s [] none = Unit {0}
BelongEach s (part ∷ parts) (more o os) = Belongs s part o × BelongEach s parts os
BelongEach s _ _ = ⊥

pub each-apart : (s : Spec) (h : ℕ) (parts : List ℕ) (os : Objects) → HaveEach s (ClassHas s h) parts os → BelongEach s parts os
each-apart s h [] none k = tt
each-apart s h (part ∷ parts) (more o os) k = ((h, k.0), each-apart s h parts os k.1)
each-apart s h _ _ k = elim k [ ]

-- Where a list has one object of each part, there is one height h such that each part has its
-- object with height at most h.
pub each-together : (s : Spec) (parts : List ℕ) (os : Objects) → BelongEach s parts os → (h : ℕ) × HaveEach s (ClassHas s h) parts os
each-together s [] none k = (0, tt)
each-together s (part ∷ parts) (more o os) k =
    let b = k.0 in
    let r = each-together s parts os k.1 in
    (max b.0 r.0, (within-up_to s b.0 (max b.0 r.0) (omega (arith, le-max_left)) (Some part) o b.1, each-mono s (ClassHas s r.0) (ClassHas s (max b.0 r.0)) (class-up_to s r.0 (max b.0 r.0) (omega (arith, le-max_right))) parts os r.1))
each-together s _ _ k = elim k [ ]

pub product-has : (s : Spec) (e : ℕ) (parts : List ℕ) → node_at s e ≡ Some (Node.Product parts) → (o : Object) → Belongs s e o → (o ≡ Object.Tuple (parts_of o)) × BelongEach s parts (parts_of o)
product-has s e parts node o b = let r = has-product s (ClassHas s b.0) parts (range_at s e) o (known s (ClassHas s b.0) e node o b.1) in (r.0, each-apart s b.0 parts (parts_of o) r.1)

-- A tuple of one object of each part, in order, belongs to the product of these parts.
pub into-product : (s : Spec) (e : ℕ) (parts : List ℕ) → node_at s e ≡ Some (Node.Product parts) → (os : Objects) → BelongEach s parts os → Belongs s e (Object.Tuple os)
into-product s e parts node os k = let r = each-together s parts os k in (r.0, unknown s (ClassHas s r.0) e node (Object.Tuple os) r.1)
