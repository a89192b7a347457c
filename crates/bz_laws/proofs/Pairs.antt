-- All pairs: what pairs total, from above and from below.
use Rattle.std.proofs.Common.{◌≡◌, ◌≢◌, ℕ, zero, suc, ◌≤◌, ◌⊎◌, inl, inr, List, [], ◌∷◌, length, arith, refl, sym, ap, subst}
use Rattle.std.specs.List.{AllByRecursion}
use Rattle.bz_model.specs.Fraction.{Fraction, AtMost, plus, times}
use Rattle.bz_model.specs.Totals.{AboveBy, BelowBy, IsSample, IsDistinct, total_by}
use Rattle.bz_laws.proofs.Fractions.{AtMost-trans, AtMost-refl, plus-mono, times-mono, plus-assoc', times-plus', plus-swap, plus-times, plus-times'}
use Rattle.bz_laws.proofs.Samples.{below-either, below-along, BelowBy-weaker, scaled_ge}

data Every {A : Type 0} (P : A → Type 0) : List A → Type 0 where
  nil : Every P []
  cons : {a : A} {xs : List A} → P a → Every P xs → Every P (a ∷ xs)

every-weaker : {A : Type 0} {P Q : A → Type 0} {xs : List A} → ((a : A) → P a → Q a) → Every P xs → Every Q xs
every-weaker f nil = nil
every-weaker f (cons {a = a} p h) = cons (f a p) (every-weaker f h)

every-both : {A : Type 0} {P Q : A → Type 0} {xs : List A} → Every P xs → Every Q xs → Every (λ a. P a × Q a) xs
every-both nil nil = nil
every-both (cons p h) (cons q k) = cons (p, q) (every-both h k)

data Apart {A : Type 0} : List A → Type 0 where
  none : Apart []
  and : {a : A} {xs : List A} → Every (λ b. b ≢ a) xs → Apart xs → Apart (a ∷ xs)

record SampleOf {A : Type 0} (P : A → Type 0) (xs : List A) : Type 0 where
  pub apart : Apart xs
  pub every : Every P xs

-- the same, by recursion on the list
to_every : {A : Type 0} {P : A → Type 0} (xs : List A) → AllByRecursion P xs → Every P xs
to_every [] h = nil
to_every (a ∷ xs) h = cons h.0 (to_every xs h.1)

from_every : {A : Type 0} {P : A → Type 0} {xs : List A} → Every P xs → AllByRecursion P xs
from_every nil = tt
from_every (cons p h) = (p, from_every h)

to_apart : {A : Type 0} (xs : List A) → IsDistinct xs → Apart xs
to_apart [] d = none
to_apart (a ∷ xs) d = and (to_every xs d.0) (to_apart xs d.1)

from_apart : {A : Type 0} {xs : List A} → Apart xs → IsDistinct xs
from_apart none = tt
from_apart (and ne d) = (from_every ne, from_apart d)

from_sample : {A : Type 0} {P : A → Type 0} {xs : List A} → SampleOf P xs → IsSample P xs
from_sample s = record { distinct = from_apart s.apart; each = from_every s.every }

-- Two pairs are the same where their first elements are the same and their second elements are.
pub pair_path : {A B : Type 0} {a c : A} {b d : B} → a ≡ c → b ≡ d → ◌≡◌ {A = A × B} (a, b) (c, d)
pair_path p q = λ i. (p i, q i)

module _ {A B : Type 0} (v : A → Fraction) (w : B → Fraction) where
  abbrev pub pair_weight : A × B → Fraction
  pair_weight p = times (v p.0) (w p.1)

  record Split (P : A → Type 0) (Q : B → Type 0) (R : A × B → Type 0) (a : A) (xs : List (A × B)) : Type 0 where
    seconds : List B
    rest : List (A × B)
    seconds_sample : SampleOf Q seconds
    rest_sample : SampleOf (λ p. (P p.0 × (p.0 ≢ a)) × Q p.1) rest
    seconds_from : Every (λ b. R (a, b)) seconds
    rest_from : Every R rest
    total_le : AtMost (total_by pair_weight xs) (plus (times (v a) (total_by w seconds)) (total_by pair_weight rest))
    shorter : length rest ≤ length xs

  split : (same : (a b : A) → Dec (a ≡ b)) (P : A → Type 0) (Q : B → Type 0) (R : A × B → Type 0) (a : A) (xs : List (A × B)) → Apart xs → Every (λ p. P p.0 × Q p.1) xs → Every R xs → Split P Q R a xs
  split same P Q R a [] d h r = record { seconds = []; rest = []; seconds_sample = record { apart = none; every = nil }; rest_sample = record { apart = none; every = nil }; seconds_from = nil; rest_from = nil; total_le = omega arith; shorter = omega arith }
  split same P Q R a (p ∷ xs) (and ne d) (cons h hs) (cons r rs) = go (same p.0 a) (split same P Q (λ q. (q ≢ p) × R q) a xs d hs (every-both ne rs))
    where
      go : Dec (p.0 ≡ a) → Split P Q (λ q. (q ≢ p) × R q) a xs → Split P Q R a (p ∷ xs)
      go (yes e) m = record {
        seconds = p.1 ∷ m.seconds;
        rest = m.rest;
        seconds_sample = record { apart = and (every-weaker (λ b k eq. k.0 (pair_path (sym e) eq)) m.seconds_from) m.seconds_sample.apart; every = cons h.1 m.seconds_sample.every };
        rest_sample = m.rest_sample;
        seconds_from = cons (subst (λ x. R (x, p.1)) e r) (every-weaker (λ b k. k.1) m.seconds_from);
        rest_from = every-weaker (λ b k. k.1) m.rest_from;
        total_le = AtMost-trans (plus-mono (subst (λ x. AtMost (times (v x) (w p.1)) (times (v a) (w p.1))) (sym e) (AtMost-refl _)) m.total_le) (AtMost-trans (plus-assoc' (times (v a) (w p.1)) (times (v a) (total_by w m.seconds)) (total_by pair_weight m.rest)) (plus-mono (times-plus' (v a) (w p.1) (total_by w m.seconds)) (AtMost-refl _)));
        shorter = omega (arith, m.shorter);
      }
      go (no ne') m = record {
        seconds = m.seconds;
        rest = p ∷ m.rest;
        seconds_sample = m.seconds_sample;
        rest_sample = record { apart = and (every-weaker (λ b k. k.0) m.rest_from) m.rest_sample.apart; every = cons ((h.0, ne'), h.1) m.rest_sample.every };
        seconds_from = every-weaker (λ b k. k.1) m.seconds_from;
        rest_from = cons r (every-weaker (λ b k. k.1) m.rest_from);
        total_le = AtMost-trans (plus-mono (AtMost-refl (pair_weight p)) m.total_le) (plus-swap (pair_weight p) (times (v a) (total_by w m.seconds)) (total_by pair_weight m.rest));
        shorter = omega (arith, m.shorter);
      }

  record Firsts (P : A → Type 0) (g : Fraction) (xs : List (A × B)) : Type 0 where
    firsts : List A
    sample : SampleOf P firsts
    total_le : AtMost (total_by pair_weight xs) (times (total_by v firsts) g)

  group : (same : (a b : A) → Dec (a ≡ b)) (n : ℕ) (P : A → Type 0) (Q : B → Type 0) (g : Fraction) → AboveBy w g Q → (xs : List (A × B)) → length xs ≤ n → Apart xs → Every (λ p. P p.0 × Q p.1) xs → Firsts P g xs
  group same n P Q g up [] le d h = record { firsts = []; sample = record { apart = none; every = nil }; total_le = omega arith }
  group same zero P Q g up (p ∷ xs) le d h = absurd (omega arith)
  group same (suc n) P Q g up (p ∷ xs) le (and ne d) (cons h hs) =
      let m = split same P Q (λ q. q ≢ p) p.0 xs d hs ne in
      let r = group same n (λ x. P x × (x ≢ p.0)) Q g up m.rest (omega (arith, m.shorter)) m.rest_sample.apart m.rest_sample.every in
      let column : SampleOf Q (p.1 ∷ m.seconds) = record { apart = and (every-weaker (λ b k e. k (pair_path refl e)) m.seconds_from) m.seconds_sample.apart; every = cons h.1 m.seconds_sample.every } in
      record {
        firsts = p.0 ∷ r.firsts;
        sample = record { apart = and (every-weaker (λ x k. k.1) r.sample.every) r.sample.apart; every = cons h.0 (every-weaker (λ x k. k.0) r.sample.every) };
        total_le =
            AtMost-trans (plus-mono (AtMost-refl (pair_weight p)) m.total_le)
            (AtMost-trans (plus-assoc' (pair_weight p) (times (v p.0) (total_by w m.seconds)) (total_by pair_weight m.rest))
            (AtMost-trans (plus-mono (AtMost-trans (times-plus' (v p.0) (w p.1) (total_by w m.seconds)) (times-mono (AtMost-refl (v p.0)) (up.holds (p.1 ∷ m.seconds) (from_sample column)))) r.total_le)
            (plus-times (v p.0) (total_by v r.firsts) g)));
      }

  -- every list of distinct pairs totals at most the product of two bounds
  pub above-pairs : (same : (a b : A) → Dec (a ≡ b)) {P : A → Type 0} {Q : B → Type 0} {f g : Fraction} → AboveBy v f P → AboveBy w g Q → AboveBy pair_weight (times f g) (λ p. P p.0 × Q p.1)
  above-pairs same {P} {Q} {f} {g} a b = record {
    holds = λ xs s.
        let r = group same (length xs) P Q g b xs (omega arith) (to_apart xs s.distinct) (to_every xs s.each) in
        AtMost-trans r.total_le (times-mono (a.holds r.firsts (from_sample r.sample)) (AtMost-refl g));
  }

  abbrev IsOneOf : List A → A → Type 0
  IsOneOf [] a = ⊥
  IsOneOf (b ∷ xs) a = (a ≡ b) ⊎ IsOneOf xs a

  one-has : (P : A → Type 0) (xs : List A) (a : A) → AllByRecursion P xs → IsOneOf xs a → P a
  one-has P [] a h o = elim o [ ]
  one-has P (b ∷ xs) a h (inl e) = subst P (sym e) h.0
  one-has P (b ∷ xs) a h (inr o) = one-has P xs a h.1 o

  below-rows : (Q : B → Type 0) {g : Fraction} → BelowBy w g Q → (xs : List A) → IsDistinct xs → BelowBy pair_weight (times (total_by v xs) g) (λ p. IsOneOf xs p.0 × Q p.1)
  below-rows Q {g} b [] d = record { list = []; sample = record { distinct = tt; each = tt }; reached = omega arith }
  below-rows Q {g} b (a ∷ xs) d =
      let row : BelowBy (λ c. times (v a) (w c)) (times (v a) g) Q = record { list = b.list; sample = b.sample; reached = AtMost-trans (times-mono (AtMost-refl (v a)) b.reached) (scaled_ge w (v a) b.list) } in
      let first : BelowBy pair_weight (times (v a) g) (λ p. (p.0 ≡ a) × Q p.1) = below-along (λ c. (a, c)) Q (λ p. (p.0 ≡ a) × Q p.1) (λ c q. (refl, q)) (λ c e p q eq. ap (λ (z : A × B). z.1) eq) (λ c. times (v a) (w c)) pair_weight (λ c q. AtMost-refl _) row in
      let both : BelowBy pair_weight (plus (times (v a) g) (times (total_by v xs) g)) (λ p. ((p.0 ≡ a) × Q p.1) ⊎ (IsOneOf xs p.0 × Q p.1)) = below-either (λ p h k. one-has (λ c. c ≢ a) xs p.0 d.0 k.0 h.0) first (below-rows Q b xs d.1) in
      let named : BelowBy pair_weight (plus (times (v a) g) (times (total_by v xs) g)) (λ p. IsOneOf (a ∷ xs) p.0 × Q p.1) = BelowBy-weaker (λ p h. elim h [ inl k ↦ (inl k.0, k.1) | inr k ↦ (inr k.0, k.1) ]) both in
      record { list = named.list; sample = named.sample; reached = AtMost-trans (plus-times' (v a) (total_by v xs) g) named.reached }

  -- and some list of distinct pairs totals at least the product of two bounds
  pub below-pairs : {P : A → Type 0} {Q : B → Type 0} {f g : Fraction} → BelowBy v f P → BelowBy w g Q → BelowBy pair_weight (times f g) (λ p. P p.0 × Q p.1)
  below-pairs {P} {Q} {f} {g} a b =
      let rows : BelowBy pair_weight (times (total_by v a.list) g) (λ p. P p.0 × Q p.1) = BelowBy-weaker (λ p h. (one-has P a.list p.0 a.sample.each h.0, h.1)) (below-rows Q b a.list a.sample.distinct) in
      record { list = rows.list; sample = rows.sample; reached = AtMost-trans (times-mono a.reached (AtMost-refl g)) rows.reached }
