-- A finite list of objects has a greatest height, so a bound at each height is a bound, and what is reached is reached at some height.
use Rattle.std.proofs.Common.{◌≡◌, ℕ, zero, suc, max, List, [], ◌∷◌, arith, refl, subst, Option, Some, None}
use Rattle.std.specs.List.{AllByRecursion}
use Rattle.std.proofs.Math.Nat.{le-max_left, le-max_right}
use Rattle.bz_model.specs.Fraction.{Fraction}
use Rattle.bz_model.specs.Spec.{Spec, body_of}
use Rattle.bz_model.specs.Object.{Object, ClassHas, HasWithin, Belongs}
use Rattle.bz_model.specs.Totals.{AboveBy, BelowBy, Above, Below}
use Rattle.bz_laws.proofs.Samples.{AllByRecursion-weaker, AboveBy-weaker, BelowBy-weaker, above-none}
use Rattle.bz_laws.proofs.Heights.{within-up_to}
use Rattle.bz_laws.proofs.Nodes.{ClassBelongs}
use Rattle.bz_laws.proofs.Leaves.{class-body, body-class}

-- For finitely many objects of one node there is one height h such that the node has each with
-- height at most h.
pub tallest : (s : Spec) (e : ℕ) (os : List Object) → AllByRecursion (Belongs s e) os → (h : ℕ) × AllByRecursion (HasWithin s h (Some e)) os
tallest s e [] b = (0, tt)
tallest s e (o ∷ os) b =
    let r = tallest s e os b.1 in
    (max b.0.0 r.0, (within-up_to s b.0.0 (max b.0.0 r.0) (omega (arith, le-max_left)) (Some e) o b.0.1, AllByRecursion-weaker (λ p k. within-up_to s r.0 (max b.0.0 r.0) (omega (arith, le-max_right)) (Some e) p k) os r.1))

module _ (s : Spec) (e : ℕ) {w : Object → Fraction} {f : Fraction} where
  -- a bound of the objects of each height is one of all
  pub above-each-height : ((h : ℕ) → AboveBy w f (HasWithin s h (Some e))) → AboveBy w f (Belongs s e)
  above-each-height up = record { holds = λ os t. let r = tallest s e os t.each in (up r.0).holds os (record { distinct = t.distinct; each = r.1 }) }

  -- what all objects reach, those of some height reach
  pub below-some-height : BelowBy w f (Belongs s e) → (h : ℕ) × BelowBy w f (HasWithin s h (Some e))
  below-some-height b = let r = tallest s e b.list b.sample.each in (r.0, record { list = b.list; sample = record { distinct = b.sample.distinct; each = r.1 }; reached = b.reached })

  pub below-any-height : (h : ℕ) → BelowBy w f (HasWithin s h (Some e)) → BelowBy w f (Belongs s e)
  below-any-height h b = BelowBy-weaker (λ o k. (h, k)) b

  pub above-any-height : (h : ℕ) → AboveBy w f (Belongs s e) → AboveBy w f (HasWithin s h (Some e))
  above-any-height h a = AboveBy-weaker (λ o k. (h, k)) a

-- a class's objects with one reference more are bounded by what bounds the body's
pub above-body : (s : Spec) (x f : Fraction) (h c : ℕ) → ((body : ℕ) → body_of s c ≡ Some body → Above x f (HasWithin s h (Some body))) → Above x f (ClassHas s (suc h) c)
above-body s x f h c up = go (body_of s c) refl
  where
    go : (b : Option ℕ) → body_of s c ≡ b → Above x f (ClassHas s (suc h) c)
    go None eq = above-none (λ o k. let none_there : HasWithin s h None o = subst (λ p. HasWithin s h p o) eq k in none_there)
    go (Some body) eq = AboveBy-weaker (body-class s h c body eq) (up body eq)

-- entries that a step from one height to the next keeps bound every total, of whatever height
module _ (s : Spec) (x : Fraction) (entry : ℕ → Fraction)
    (step : (h : ℕ) → ((c : ℕ) → Above x (entry c) (ClassHas s h c)) → (c body : ℕ) → body_of s c ≡ Some body → Above x (entry c) (HasWithin s h (Some body))) where
  pub classes-above : (h c : ℕ) → Above x (entry c) (ClassHas s h c)
  classes-above zero c = above-none (λ o k. k)
  classes-above (suc h) c = above-body s x (entry c) h c (λ body at. step h (classes-above h) c body at)

  pub entries-above : (c body : ℕ) → body_of s c ≡ Some body → Above x (entry c) (Belongs s body)
  entries-above c body at = above-each-height s body (λ h. step h (classes-above h) c body at)

-- what belongs to a class is what belongs to its body
pub class-belongs-of : (s : Spec) (c body : ℕ) → body_of s c ≡ Some body → (o : Object) → Belongs s body o → ClassBelongs s c o
class-belongs-of s c body at o b = (suc b.0, class-body s b.0 c body at o b.1)

-- What belongs to a class belongs to the class's body.
pub class-belongs-has : (s : Spec) (c body : ℕ) → body_of s c ≡ Some body → (o : Object) → ClassBelongs s c o → Belongs s body o
class-belongs-has s c body at o k = go k.0 k.1
  where
    go : (h : ℕ) → ClassHas s h c o → Belongs s body o
    go zero z = elim z [ ]
    go (suc h) z = (h, body-class s h c body at o z)

-- bounds of a class's body are bounds of the class, also where the body is missing
pub above-class-belongs : (s : Spec) (x f : Fraction) (c : ℕ) → ((body : ℕ) → body_of s c ≡ Some body → Above x f (Belongs s body)) → Above x f (ClassBelongs s c)
above-class-belongs s x f c up = go (body_of s c) refl
  where
    nothing : body_of s c ≡ None → (h : ℕ) (o : Object) → ClassHas s h c o → ⊥
    nothing eq zero o k = k
    nothing eq (suc h) o k = let none_there : HasWithin s h None o = subst (λ p. HasWithin s h p o) eq k in none_there

    go : (b : Option ℕ) → body_of s c ≡ b → Above x f (ClassBelongs s c)
    go None eq = above-none (λ o k. nothing eq k.0 o k.1)
    go (Some body) eq = AboveBy-weaker (class-belongs-has s c body eq) (up body eq)

-- A lower bound of the totals of objects of a class's body is one of objects that belong to the
-- class.
pub below-class-belongs : (s : Spec) (x : Fraction) (c body : ℕ) {f : Fraction} → body_of s c ≡ Some body → Below x f (Belongs s body) → Below x f (ClassBelongs s c)
below-class-belongs s x c body at down = BelowBy-weaker (class-belongs-of s c body at) down
