-- Samples: weaker properties, lists side by side, and images. Each holds from above and from below.
use Rattle.std.proofs.Common.{◌≡◌, ◌≢◌, ◌⊎◌, inl, inr, List, [], ◌∷◌, ◌++◌, map, arith, sym, ◌∙◌, subst}
use Rattle.std.specs.List.{AllByRecursion}
use Rattle.bz_model.specs.Fraction.{Fraction, AtMost, plus, times, whole}
use Rattle.bz_model.specs.Totals.{AboveBy, BelowBy, IsSample, IsDistinct, total_by}
use Rattle.bz_laws.proofs.Fractions.{AtMost-trans, AtMost-refl, plus-mono, times-mono, plus-assoc, plus-assoc', plus-swap, times-plus, times-plus'}

-- Where all elements of a list have P, and P implies Q, all have Q.
pub AllByRecursion-weaker : {A : Type 0} {P Q : A → Type 0} → ((a : A) → P a → Q a) → (xs : List A) → AllByRecursion P xs → AllByRecursion Q xs
AllByRecursion-weaker f [] h = tt
AllByRecursion-weaker f (x ∷ xs) h = (f x h.0, AllByRecursion-weaker f xs h.1)

-- Where all elements of a list have P and all have Q, all have both P and Q.
pub AllByRecursion-both : {A : Type 0} (P Q : A → Type 0) (xs : List A) → AllByRecursion P xs → AllByRecursion Q xs → AllByRecursion (λ o. P o × Q o) xs
AllByRecursion-both P Q [] h k = tt
AllByRecursion-both P Q (x ∷ xs) h k = ((h.0, k.0), AllByRecursion-both P Q xs h.1 k.1)

-- What holds for all elements of xs and for all of ys holds for all of xs followed by ys.
pub AllByRecursion-append : {A : Type 0} (P : A → Type 0) (xs ys : List A) → AllByRecursion P xs → AllByRecursion P ys → AllByRecursion P (xs ++ ys)
AllByRecursion-append P [] ys h k = k
AllByRecursion-append P (x ∷ xs) ys h k = (h.0, AllByRecursion-append P xs ys h.1 k)

pub always : {A : Type 0} (xs : List A) → AllByRecursion (λ o. Unit {0}) xs
always [] = tt
always (o ∷ xs) = (tt, always xs)

-- A sample of elements with P is a sample of elements with Q, where P implies Q.
pub IsSample-weaker : {A : Type 0} {P Q : A → Type 0} {xs : List A} → ((o : A) → P o → Q o) → IsSample P xs → IsSample Q xs
IsSample-weaker {xs = xs} f h = record { distinct = h.distinct; each = AllByRecursion-weaker f xs h.each }

-- An upper bound of the totals of elements with P is one of those of elements with Q, where Q
-- implies P.
pub AboveBy-weaker : {A : Type 0} {w : A → Fraction} {f : Fraction} {P Q : A → Type 0} → ((a : A) → Q a → P a) → AboveBy w f P → AboveBy w f Q
AboveBy-weaker g a = record { holds = λ xs s. a.holds xs (IsSample-weaker g s) }

-- Where some distinct elements with P total at least f, and P implies Q, some distinct elements
-- with Q total at least f.
pub BelowBy-weaker : {A : Type 0} {w : A → Fraction} {f : Fraction} {P Q : A → Type 0} → ((a : A) → P a → Q a) → BelowBy w f P → BelowBy w f Q
BelowBy-weaker g b = record { list = b.list; sample = IsSample-weaker g b.sample; reached = b.reached }

-- nothing has the property
pub above-none : {A : Type 0} {w : A → Fraction} {f : Fraction} {P : A → Type 0} → ((a : A) → P a → ⊥) → AboveBy w f P
above-none {A} {w} {f} {P} never = record { holds = λ xs s. go xs s.each }
  where
    go : (xs : List A) → AllByRecursion P xs → AtMost (total_by w xs) f
    go [] h = omega arith
    go (a ∷ xs) h = absurd (never a h.0)

-- of 0 each property is reached
pub below-none : {A : Type 0} {w : A → Fraction} {P : A → Type 0} → BelowBy w (whole 0) P
below-none = record { list = []; sample = record { distinct = tt; each = tt }; reached = AtMost-refl _ }

-- what is left of a list and what is right
pub record Sides {A : Type 0} (w : A → Fraction) (P Q R : A → Type 0) (xs : List A) : Type 0 where
  pub left : List A
  pub right : List A
  pub left_sample : IsSample P left
  pub right_sample : IsSample Q right
  pub total_le : AtMost (total_by w xs) (plus (total_by w left) (total_by w right))
  pub left_from : AllByRecursion R left
  pub right_from : AllByRecursion R right

put_side : {A : Type 0} (w : A → Fraction) (P Q R : A → Type 0) (o : A) {xs : List A} → R o → P o ⊎ Q o → Sides w P Q (λ p. (p ≢ o) × R p) xs → Sides w P Q R (o ∷ xs)
put_side w P Q R o r (inl p) m = record {
  left = o ∷ m.left;
  right = m.right;
  left_sample = record { distinct = (AllByRecursion-weaker (λ q k. k.0) m.left m.left_from, m.left_sample.distinct); each = (p, m.left_sample.each) };
  right_sample = m.right_sample;
  total_le = AtMost-trans (plus-mono (AtMost-refl (w o)) m.total_le) (plus-assoc' (w o) (total_by w m.left) (total_by w m.right));
  left_from = (r, AllByRecursion-weaker (λ q k. k.1) m.left m.left_from);
  right_from = AllByRecursion-weaker (λ q k. k.1) m.right m.right_from;
}
put_side w P Q R o r (inr q) m = record {
  left = m.left;
  right = o ∷ m.right;
  left_sample = m.left_sample;
  right_sample = record { distinct = (AllByRecursion-weaker (λ q k. k.0) m.right m.right_from, m.right_sample.distinct); each = (q, m.right_sample.each) };
  total_le = AtMost-trans (plus-mono (AtMost-refl (w o)) m.total_le) (plus-swap (w o) (total_by w m.left) (total_by w m.right));
  left_from = AllByRecursion-weaker (λ q k. k.1) m.left m.left_from;
  right_from = (r, AllByRecursion-weaker (λ q k. k.1) m.right m.right_from);
}

-- R is what is known of every element of the list
sides : {A : Type 0} (w : A → Fraction) (P Q R : A → Type 0) (xs : List A) → IsDistinct xs → AllByRecursion (λ o. P o ⊎ Q o) xs → AllByRecursion R xs → Sides w P Q R xs
sides w P Q R [] d h r = record { left = []; right = []; left_sample = record { distinct = tt; each = tt }; right_sample = record { distinct = tt; each = tt }; total_le = omega arith; left_from = tt; right_from = tt }
sides w P Q R (o ∷ xs) d h r = put_side w P Q R o r.0 h.0 (sides w P Q (λ p. (p ≢ o) × R p) xs d.1 h.1 (AllByRecursion-both (λ p. p ≢ o) R xs d.0 r.1))

-- one property or another, from above
pub above-either : {A : Type 0} {w : A → Fraction} {P Q : A → Type 0} {f g : Fraction} → AboveBy w f P → AboveBy w g Q → AboveBy w (plus f g) (λ o. P o ⊎ Q o)
above-either {w = w} {P = P} {Q = Q} a b = record {
  holds = λ xs s.
      let m = sides w P Q (λ o. Unit {0}) xs s.distinct s.each (always xs) in
      AtMost-trans m.total_le (plus-mono (a.holds m.left m.left_sample) (b.holds m.right m.right_sample));
}

-- no element of one list is one of the other
append-distinct : {A : Type 0} {P Q : A → Type 0} → ((o : A) → P o → Q o → ⊥) → (xs ys : List A) → IsSample P xs → IsSample Q ys → IsDistinct (xs ++ ys)
append-distinct apart [] ys s t = t.distinct
append-distinct {Q = Q} apart (x ∷ xs) ys s t = (
  AllByRecursion-append (λ p. p ≢ x) xs ys s.distinct.0 (AllByRecursion-weaker (λ y q e. apart x s.each.0 (subst Q e q)) ys t.each),
  append-distinct apart xs ys (record { distinct = s.distinct.1; each = s.each.1 }) t,
)

total_by-append : {A : Type 0} (w : A → Fraction) (xs ys : List A) → AtMost (plus (total_by w xs) (total_by w ys)) (total_by w (xs ++ ys))
total_by-append w [] ys = omega arith
total_by-append w (o ∷ xs) ys = AtMost-trans (plus-assoc (w o) (total_by w xs) (total_by w ys)) (plus-mono (AtMost-refl (w o)) (total_by-append w xs ys))

-- and from below, where nothing has both properties
pub below-either : {A : Type 0} {w : A → Fraction} {P Q : A → Type 0} {f g : Fraction} → ((o : A) → P o → Q o → ⊥) → BelowBy w f P → BelowBy w g Q → BelowBy w (plus f g) (λ o. P o ⊎ Q o)
below-either {w = w} {P = P} {Q = Q} apart a b = record {
  list = a.list ++ b.list;
  sample = record {
    distinct = append-distinct apart a.list b.list a.sample b.sample;
    each = AllByRecursion-append (λ o. P o ⊎ Q o) a.list b.list (AllByRecursion-weaker (λ o. inl) a.list a.sample.each) (AllByRecursion-weaker (λ o. inr) b.list b.sample.each);
  };
  reached = AtMost-trans (plus-mono a.reached b.reached) (total_by-append w a.list b.list);
}

-- along a map that keeps apart what has the property
module _ {A B : Type 0} (g : A → B) (P : A → Type 0) (Q : B → Type 0) (into : (a : A) → P a → Q (g a)) (injective : (a b : A) → P a → P b → g a ≡ g b → a ≡ b) where
  images : (xs : List A) → AllByRecursion P xs → AllByRecursion Q (map g xs)
  images [] h = tt
  images (a ∷ xs) h = (into a h.0, images xs h.1)

  apart_from : (a : A) → P a → (xs : List A) → AllByRecursion (λ b. b ≢ a) xs → AllByRecursion P xs → AllByRecursion (λ b. b ≢ g a) (map g xs)
  apart_from a p [] n h = tt
  apart_from a p (b ∷ xs) n h = ((λ e. n.0 (injective b a h.0 p e)), apart_from a p xs n.1 h.1)

  images_distinct : (xs : List A) → IsDistinct xs → AllByRecursion P xs → IsDistinct (map g xs)
  images_distinct [] d h = tt
  images_distinct (a ∷ xs) d h = (apart_from a h.0 xs d.0 h.1, images_distinct xs d.1 h.1)

  images_sample : (xs : List A) → IsSample P xs → IsSample Q (map g xs)
  images_sample xs s = record { distinct = images_distinct xs s.distinct s.each; each = images xs s.each }

  images_no_less : (v : A → Fraction) (w : B → Fraction) → ((a : A) → P a → AtMost (v a) (w (g a))) → (xs : List A) → AllByRecursion P xs → AtMost (total_by v xs) (total_by w (map g xs))
  images_no_less v w le [] h = AtMost-refl _
  images_no_less v w le (a ∷ xs) h = plus-mono (le a h.0) (images_no_less v w le xs h.1)

  -- a map that lowers no weight carries a bound from above back
  pub above-along : (v : A → Fraction) (w : B → Fraction) → ((a : A) → P a → AtMost (v a) (w (g a))) → {f : Fraction} → AboveBy w f Q → AboveBy v f P
  above-along v w le a = record { holds = λ xs s. AtMost-trans (images_no_less v w le xs s.each) (a.holds (map g xs) (images_sample xs s)) }

  -- and a bound from below on
  pub below-along : (v : A → Fraction) (w : B → Fraction) → ((a : A) → P a → AtMost (v a) (w (g a))) → {f : Fraction} → BelowBy v f P → BelowBy w f Q
  below-along v w le b = record { list = map g b.list; sample = images_sample b.list b.sample; reached = AtMost-trans b.reached (images_no_less v w le b.list b.sample.each) }

-- one thing has the property
pub above-one : {A : Type 0} (v : A → Fraction) (a : A) (P : A → Type 0) → ((b : A) → P b → b ≡ a) → AboveBy v (v a) P
above-one {A} v a P only = record { holds = λ xs s. go xs s.distinct s.each }
  where
    go : (xs : List A) → IsDistinct xs → AllByRecursion P xs → AtMost (total_by v xs) (v a)
    go [] d h = omega arith
    go (b ∷ []) d h = subst (λ c. AtMost (plus (v b) (whole 0)) (v c)) (only b h.0) (omega arith)
    go (b ∷ c ∷ xs) d h = absurd (d.0.0 (only c h.1.0 ∙ sym (only b h.0)))

-- A single element with the property shows that its own weight is a lower bound of the totals.
pub below-one : {A : Type 0} (v : A → Fraction) (a : A) (P : A → Type 0) → P a → BelowBy v (v a) P
below-one v a P p = record { list = a ∷ []; sample = record { distinct = (tt, tt); each = (p, tt) }; reached = omega arith }

-- every weight times one number
pub scaled_le : {A : Type 0} (w : A → Fraction) (r : Fraction) (xs : List A) → AtMost (total_by (λ a. times r (w a)) xs) (times r (total_by w xs))
scaled_le w r [] = omega arith
scaled_le w r (a ∷ xs) = AtMost-trans (plus-mono (AtMost-refl (times r (w a))) (scaled_le w r xs)) (times-plus' r (w a) (total_by w xs))

-- The product of r and the total of a list by w is at most the total by r times w.
pub scaled_ge : {A : Type 0} (w : A → Fraction) (r : Fraction) (xs : List A) → AtMost (times r (total_by w xs)) (total_by (λ a. times r (w a)) xs)
scaled_ge w r [] = omega arith
scaled_ge w r (a ∷ xs) = AtMost-trans (times-plus r (w a) (total_by w xs)) (plus-mono (AtMost-refl (times r (w a))) (scaled_ge w r xs))

-- Where f is an upper bound of the totals by w, the fraction r * f is one of the totals by r times
-- w.
pub above-scaled : {A : Type 0} {w : A → Fraction} {f : Fraction} {P : A → Type 0} (r : Fraction) → AboveBy w f P → AboveBy (λ a. times r (w a)) (times r f) P
above-scaled {w = w} r a = record { holds = λ xs s. AtMost-trans (scaled_le w r xs) (times-mono (AtMost-refl r) (a.holds xs s)) }

-- Where some distinct elements with a property total at least f by w, some total at least r * f by
-- r times w.
pub below-scaled : {A : Type 0} {w : A → Fraction} {f : Fraction} {P : A → Type 0} (r : Fraction) → BelowBy w f P → BelowBy (λ a. times r (w a)) (times r f) P
below-scaled {w = w} r b = record { list = b.list; sample = b.sample; reached = AtMost-trans (times-mono (AtMost-refl r) b.reached) (scaled_ge w r b.list) }
