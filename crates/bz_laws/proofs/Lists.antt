-- Four tools on lists without repeats: sub-lists, splitting and joining, one-to-one images, all pairs. Each says what the list totals.
use Rattle.std.proofs.Common.{◌≡◌, ◌≢◌, inl, inr, List, [], ◌∷◌, ◌++◌, map, arith, refl, sym, ◌∙◌, ap, subst}
use Rattle.std.specs.Prelude.{Bool, true, false, cond}
use Rattle.std.specs.List.{AllByRecursion, filter}
use Rattle.bz_model.specs.Fraction.{Fraction, AtMost, plus, times}
use Rattle.bz_model.specs.Totals.{IsDistinct, total_by}
use Rattle.bz_laws.specs.Terms.{AreEqual}
use Rattle.bz_laws.specs.Lists.{IsOneOf, pairs_of}
use Rattle.bz_laws.proofs.Fractions.{AtMost-trans, AtMost-refl, plus-mono, plus-assoc, plus-assoc', plus-swap, times-plus, times-plus', plus-times, plus-times'}
use Rattle.bz_laws.proofs.Samples.{AllByRecursion-weaker, AllByRecursion-append}

-- members
pub all-members : {A : Type 0} (xs : List A) → AllByRecursion (IsOneOf xs) xs
all-members [] = tt
all-members (a ∷ xs) = (inl refl, AllByRecursion-weaker (λ b m. inr m) xs (all-members xs))

-- What holds for all elements of a list holds for each one that stands in it.
pub of-member : {A : Type 0} (P : A → Type 0) (xs : List A) (a : A) → AllByRecursion P xs → IsOneOf xs a → P a
of-member P [] a h m = elim m [ ]
of-member P (b ∷ xs) a h (inl e) = subst P (sym e) h.0
of-member P (b ∷ xs) a h (inr m) = of-member P xs a h.1 m

-- equal fractions
pub equal-refl : (a : Fraction) → AreEqual a a
equal-refl a = record { at_most = AtMost-refl a; at_least = AtMost-refl a }

-- Where a is equal to b and b is equal to c, the fraction a is equal to c.
pub equal-trans : {a b c : Fraction} → AreEqual a b → AreEqual b c → AreEqual a c
equal-trans h k = record { at_most = AtMost-trans h.at_most k.at_most; at_least = AtMost-trans k.at_least h.at_least }

-- Where a fraction a is equal to b, the fraction b is equal to a.
pub equal-sym : {a b : Fraction} → AreEqual a b → AreEqual b a
equal-sym h = record { at_most = h.at_least; at_least = h.at_most }

pub equal-plus : {a b c d : Fraction} → AreEqual a b → AreEqual c d → AreEqual (plus a c) (plus b d)
equal-plus h k = record { at_most = plus-mono h.at_most k.at_most; at_least = plus-mono h.at_least k.at_least }

module _ {A : Type 0} where
  filter-all : (P : A → Type 0) (test : A → Bool) (xs : List A) → AllByRecursion P xs → AllByRecursion P (filter test xs)
  filter-all P test [] h = tt
  filter-all P test (a ∷ xs) h = go (test a) (filter-all P test xs h.1)
    where
      go : (b : Bool) → AllByRecursion P (filter test xs) → AllByRecursion P (cond b (a ∷ filter test xs) (filter test xs))
      go true k = (h.0, k)
      go false k = k

  -- a list without repeats splits by a test into two
  pub filter-distinct : (test : A → Bool) (xs : List A) → IsDistinct xs → IsDistinct (filter test xs)
  filter-distinct test [] d = tt
  filter-distinct test (a ∷ xs) d = go (test a) (filter-distinct test xs d.1)
    where
      go : (b : Bool) → IsDistinct (filter test xs) → IsDistinct (cond b (a ∷ filter test xs) (filter test xs))
      go true k = (filter-all (λ c. c ≢ a) test xs d.0, k)
      go false k = k

  -- two lists without a common member join without repeats
  pub join-distinct : (xs ys : List A) → IsDistinct xs → IsDistinct ys → AllByRecursion (λ a. ¬ (IsOneOf ys a)) xs → IsDistinct (xs ++ ys)
  join-distinct [] ys d e h = e
  join-distinct (a ∷ xs) ys d e h = (AllByRecursion-append (λ b. b ≢ a) xs ys d.0 (apart a ys h.0), join-distinct xs ys d.1 e h.1)
    where
      apart : (a : A) (ys : List A) → ¬ (IsOneOf ys a) → AllByRecursion (λ b. b ≢ a) ys
      apart a [] out = tt
      apart a (y ∷ ys) out = (λ q. out (inl (sym q)), apart a ys (λ m. out (inr m)))

module _ {A : Type 0} (w : A → Fraction) where
  -- a list without one of its members
  record Without (a : A) (xs : List A) : Type 0 where
    rest : List A
    total_is : AtMost (plus (w a) (total_by w rest)) (total_by w xs)
    others : (b : A) → IsOneOf xs b → b ≢ a → IsOneOf rest b

  without : (a : A) (xs : List A) → IsOneOf xs a → Without a xs
  without a [] m = elim m [ ]
  without a (b ∷ xs) (inl e) = record {
    rest = xs;
    total_is = subst (λ c. AtMost (plus (w a) (total_by w xs)) (plus (w c) (total_by w xs))) e (AtMost-refl _);
    others = λ c m ne. elim m [ inl q ↦ absurd (ne (q ∙ sym e)) | inr q ↦ q ];
  }
  without a (b ∷ xs) (inr m) =
      let r = without a xs m in
      record {
        rest = b ∷ r.rest;
        total_is = AtMost-trans (plus-swap (w a) (w b) (total_by w r.rest)) (plus-mono (AtMost-refl (w b)) r.total_is);
        others = λ c k ne. elim k [ inl q ↦ inl q | inr q ↦ inr (r.others c q ne) ];
      }

  kept : (a : A) (xs rest : List A) → ((b : A) → IsOneOf xs b → b ≢ a → IsOneOf rest b) → (ys : List A) → AllByRecursion (λ b. b ≢ a) ys → AllByRecursion (IsOneOf xs) ys → AllByRecursion (IsOneOf rest) ys
  kept a xs rest others [] ne h = tt
  kept a xs rest others (y ∷ ys) ne h = (others y h.0 ne.0, kept a xs rest others ys ne.1 h.1)

  -- a list without repeats, all of whose members are in another list, totals at most as much
  pub sub_list-at_most : (xs ys : List A) → IsDistinct xs → AllByRecursion (IsOneOf ys) xs → AtMost (total_by w xs) (total_by w ys)
  sub_list-at_most [] ys d h = omega arith
  sub_list-at_most (a ∷ xs) ys d h =
      let r = without a ys h.0 in
      AtMost-trans (plus-mono (AtMost-refl (w a)) (sub_list-at_most xs r.rest d.1 (kept a ys r.rest r.others xs d.0 h.1))) r.total_is

  -- the totals of what passes a test and of what fails it add up to the list's
  pub filter-total : (test : A → Bool) (xs : List A) → AreEqual (total_by w xs) (plus (total_by w (filter test xs)) (total_by w (filter (λ a. cond (test a) false true) xs)))
  filter-total test [] = record { at_most = omega arith; at_least = omega arith }
  filter-total test (a ∷ xs) = go (test a) (filter-total test xs)
    where
      go : (b : Bool) → AreEqual (total_by w xs) (plus (total_by w (filter test xs)) (total_by w (filter (λ b. cond (test b) false true) xs))) → AreEqual (plus (w a) (total_by w xs)) (plus (total_by w (cond b (a ∷ filter test xs) (filter test xs))) (total_by w (cond (cond b false true) (a ∷ filter (λ b. cond (test b) false true) xs) (filter (λ b. cond (test b) false true) xs))))
      go true k = equal-trans (equal-plus (equal-refl (w a)) k) (record { at_most = plus-assoc' (w a) (total_by w (filter test xs)) (total_by w (filter (λ b. cond (test b) false true) xs)); at_least = plus-assoc (w a) (total_by w (filter test xs)) (total_by w (filter (λ b. cond (test b) false true) xs)) })
      go false k = equal-trans (equal-plus (equal-refl (w a)) k) (record { at_most = plus-swap (w a) (total_by w (filter test xs)) (total_by w (filter (λ b. cond (test b) false true) xs)); at_least = plus-swap (total_by w (filter test xs)) (w a) (total_by w (filter (λ b. cond (test b) false true) xs)) })

  -- and so do the totals of two lists to that of the joined list
  pub join-total : (xs ys : List A) → AreEqual (total_by w (xs ++ ys)) (plus (total_by w xs) (total_by w ys))
  join-total [] ys = record { at_most = omega arith; at_least = omega arith }
  join-total (a ∷ xs) ys = equal-trans (equal-plus (equal-refl (w a)) (join-total xs ys)) (record { at_most = plus-assoc' (w a) (total_by w xs) (total_by w ys); at_least = plus-assoc (w a) (total_by w xs) (total_by w ys) })

-- a map that keeps the members apart keeps a list without repeats
module _ {A B : Type 0} (g : A → B) where
  image-apart : (P : A → Type 0) (a : A) → ((b : A) → P b → g b ≡ g a → b ≡ a) → (xs : List A) → AllByRecursion (λ b. b ≢ a) xs → AllByRecursion P xs → AllByRecursion (λ b. b ≢ g a) (map g xs)
  image-apart P a same [] ne h = tt
  image-apart P a same (b ∷ xs) ne h = (λ q. ne.0 (same b h.0 q), image-apart P a same xs ne.1 h.1)

  image-of : (P : A → Type 0) → ((a b : A) → P a → P b → g a ≡ g b → a ≡ b) → (xs : List A) → IsDistinct xs → AllByRecursion P xs → IsDistinct (map g xs)
  image-of P same [] d h = tt
  image-of P same (a ∷ xs) d h = (image-apart P a (λ b p q. same b a p h.0 q) xs d.0 h.1, image-of P same xs d.1 h.1)

  pub image-distinct : (xs : List A) → ((a b : A) → IsOneOf xs a → IsOneOf xs b → g a ≡ g b → a ≡ b) → IsDistinct xs → IsDistinct (map g xs)
  image-distinct xs same d = image-of (IsOneOf xs) same xs d (all-members xs)

  -- and multiplies the total by what it multiplies each weight by
  image-times : (v : A → Fraction) (w : B → Fraction) (r : Fraction) (P : A → Type 0) → ((a : A) → P a → AreEqual (w (g a)) (times r (v a))) → (xs : List A) → AllByRecursion P xs → AreEqual (total_by w (map g xs)) (times r (total_by v xs))
  image-times v w r P scaled [] h = record { at_most = omega arith; at_least = omega arith }
  image-times v w r P scaled (a ∷ xs) h = equal-trans (equal-plus (scaled a h.0) (image-times v w r P scaled xs h.1)) (record { at_most = times-plus' r (v a) (total_by v xs); at_least = times-plus r (v a) (total_by v xs) })

  pub image-total : (v : A → Fraction) (w : B → Fraction) (r : Fraction) (xs : List A) → ((a : A) → IsOneOf xs a → AreEqual (w (g a)) (times r (v a))) → AreEqual (total_by w (map g xs)) (times r (total_by v xs))
  image-total v w r xs scaled = image-times v w r (IsOneOf xs) scaled xs (all-members xs)

-- all pairs
module _ {A B : Type 0} where
  map-first : (a : A) (P : A → Type 0) (ys : List B) → P a → AllByRecursion (λ (p : A × B). P p.0) (map (λ y. (a, y)) ys)
  map-first a P [] h = tt
  map-first a P (y ∷ ys) h = (h, map-first a P ys h)

  pairs-first : (P : A → Type 0) (xs : List A) (ys : List B) → AllByRecursion P xs → AllByRecursion (λ (p : A × B). P p.0) (pairs_of xs ys)
  pairs-first P [] ys h = tt
  pairs-first P (x ∷ xs) ys h = AllByRecursion-append (λ (p : A × B). P p.0) (map (λ y. (x, y)) ys) (pairs_of xs ys) (map-first x P ys h.0) (pairs-first P xs ys h.1)

  row-distinct : (a : A) (ys : List B) → IsDistinct ys → IsDistinct {A = A × B} (map (λ y. (a, y)) ys)
  row-distinct a ys d = image-distinct (λ y. (a, y)) ys (λ b c m n q. ap (λ (z : A × B). z.1) q) d

  apart-lists : (P : A × B → Type 0) (xs ys : List (A × B)) → AllByRecursion P xs → AllByRecursion (λ q. ¬ (P q)) ys → AllByRecursion (λ p. ¬ (IsOneOf ys p)) xs
  apart-lists P [] ys h k = tt
  apart-lists P (x ∷ xs) ys h k = (λ m. of-member (λ q. ¬ (P q)) ys x k m h.0, apart-lists P xs ys h.1 k)

  -- the list of all pairs has no repeats where the two lists have none
  pub pairs-distinct : (xs : List A) (ys : List B) → IsDistinct xs → IsDistinct ys → IsDistinct (pairs_of xs ys)
  pairs-distinct [] ys d e = tt
  pairs-distinct (x ∷ xs) ys d e =
      join-distinct (map (λ y. (x, y)) ys) (pairs_of xs ys) (row-distinct x ys e) (pairs-distinct xs ys d.1 e)
      (apart-lists (λ p. p.0 ≡ x) (map (λ y. (x, y)) ys) (pairs_of xs ys) (map-first x (λ a. a ≡ x) ys refl) (pairs-first (λ a. a ≢ x) xs ys d.0))

  -- and totals the product of their totals
  pub pairs-total : (v : A → Fraction) (w : B → Fraction) (xs : List A) (ys : List B) → AreEqual (total_by (λ (p : A × B). times (v p.0) (w p.1)) (pairs_of xs ys)) (times (total_by v xs) (total_by w ys))
  pairs-total v w [] ys = record { at_most = omega arith; at_least = omega arith }
  pairs-total v w (x ∷ xs) ys =
      equal-trans (join-total (λ (p : A × B). times (v p.0) (w p.1)) (map (λ y. (x, y)) ys) (pairs_of xs ys))
      (equal-trans (equal-plus (image-total (λ y. (x, y)) w (λ (p : A × B). times (v p.0) (w p.1)) (v x) ys (λ y m. equal-refl _)) (pairs-total v w xs ys))
      (record { at_most = plus-times (v x) (total_by v xs) (total_by w ys); at_least = plus-times' (v x) (total_by v xs) (total_by w ys) }))
