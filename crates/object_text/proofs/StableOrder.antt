-- A stable sort puts parts in order: parts that rise, and whose parts of each least label stand as they stood, are those that are put in order one by one.
use Rattle.std.proofs.Common.{◌≡◌, ◌≢◌, ◌⊎◌, inl, inr, ℕ, suc, ◌<◌, ◌≤◌, List, [], ◌∷◌, length, get_or, arith, refl, sym, ◌∙◌, ap, Bool, true, false, cond}
use Rattle.std.specs.Prelude.{nat_eq, nat_le, nat_lt, not, ◌&&◌, if◌then◌else◌}
use Rattle.std.specs.List.{AllByRecursion, filter}
use Rattle.std.specs.List.Sorted.{IsNonDecreasingBy, IsStableByKey, ties}
use Rattle.std.specs.Ordering.{nat_cmp, is_lt}
use Rattle.std.specs.declared.cmp.Ordering.TheVariants.{Less, Equal, Greater}
use Rattle.std.specs.Fn.{Called, ComputesKey}
use Rattle.std.proofs.lemmas.Fn.{always_returns_same}
use denote.Param.Members.{Mut}
use denote.Ref.{Bor}
use Rattle.std.proofs.lemmas.Bool.Decides.{leb_tells, eqb_tells}
use Rattle.bz_model.specs.ObjectText.{PartText, put, in_order}

abbrev pub least_at : PartText → ℕ
least_at p = p.least

-- The parts of one least label.
abbrev with_label : ℕ → List PartText → List PartText
with_label k parts = filter (λ p. nat_eq k p.least) parts

-- No part has a greater least label than a later one.
abbrev Rises : List PartText → Type 0
Rises [] = Unit {0}
Rises (p ∷ parts) = AllByRecursion (λ q. p.least ≤ q.least) parts × Rises parts

module _ (Q : PartText → Type 0) where
  all-put : (p : PartText) (parts : List PartText) → Q p → AllByRecursion Q parts → AllByRecursion Q (put p parts)
  all-put p [] h k = (h, tt)
  all-put p (q ∷ parts) h k = go (nat_le p.least q.least) (all-put p parts h k.1)
    where
      go : (b : Bool) → AllByRecursion Q (put p parts) → AllByRecursion Q (if b then p ∷ q ∷ parts else q ∷ put p parts)
      go true rest = (h, k)
      go false rest = (k.0, rest)

all-above : (a b : ℕ) (parts : List PartText) → a ≤ b → AllByRecursion (λ q. b ≤ q.least) parts → AllByRecursion (λ q. a ≤ q.least) parts
all-above a b [] h k = tt
all-above a b (q ∷ parts) h k = (let l = k.0 in omega arith, all-above a b parts h k.1)

rises-put : (p : PartText) (parts : List PartText) → Rises parts → Rises (put p parts)
rises-put p [] h = (tt, tt)
rises-put p (q ∷ parts) h = go (nat_le p.least q.least) (leb_tells p.least q.least) (rises-put p parts h.1)
  where
    go : (b : Bool) → ((b ≡ true) × (p.least ≤ q.least)) ⊎ ((b ≡ false) × (q.least < p.least)) → Rises (put p parts) → Rises (if b then p ∷ q ∷ parts else q ∷ put p parts)
    go true (inl k) r = ((k.1, all-above p.least q.least parts k.1 h.0), h)
    go true (inr k) r = absurd (let e = k.0 in cc)
    go false (inl k) r = absurd (let e = k.0 in cc)
    go false (inr k) r = (all-put (λ z. q.least ≤ z.least) p parts (let l = k.1 in omega arith) h.0, r)

rises-in_order : (parts : List PartText) → Rises (in_order parts)
rises-in_order [] = tt
rises-in_order (p ∷ parts) = rises-put p (in_order parts) (rises-in_order parts)

-- putting a part in keeps the parts of each label as they stand
with_label-put : (k : ℕ) (p : PartText) (parts : List PartText) → with_label k (put p parts) ≡ with_label k (p ∷ parts)
with_label-put k p [] = refl
with_label-put k p (q ∷ parts) = go (nat_le p.least q.least) (leb_tells p.least q.least) (with_label-put k p parts)
  where
    swap : (a b : Bool) (A : List PartText) → ¬ ((a ≡ true) × (b ≡ true)) → cond b (q ∷ cond a (p ∷ A) A) (cond a (p ∷ A) A) ≡ cond a (p ∷ cond b (q ∷ A) A) (cond b (q ∷ A) A)
    swap true true A h = absurd (h (refl, refl))
    swap true false A h = refl
    swap false true A h = refl
    swap false false A h = refl

    one_only : q.least < p.least → ¬ ((nat_eq k p.least ≡ true) × (nat_eq k q.least ≡ true))
    one_only l h = elim (eqb_tells k p.least) [
      | inl a ↦ elim (eqb_tells k q.least) [ inl b ↦ absurd (let x = a.1 in let y = b.1 in omega arith) | inr b ↦ absurd (let x = b.0 in let y = h.1 in cc) ]
      | inr a ↦ absurd (let x = a.0 in let y = h.0 in cc)
    ]

    go : (b : Bool) → ((b ≡ true) × (p.least ≤ q.least)) ⊎ ((b ≡ false) × (q.least < p.least)) → with_label k (put p parts) ≡ with_label k (p ∷ parts) → with_label k (if b then p ∷ q ∷ parts else q ∷ put p parts) ≡ with_label k (p ∷ q ∷ parts)
    go true h r = refl
    go false (inl h) r = absurd (let e = h.0 in cc)
    go false (inr h) r = ap (λ ps. cond (nat_eq k q.least) (q ∷ ps) ps) r ∙ swap (nat_eq k p.least) (nat_eq k q.least) (with_label k parts) (one_only h.1)

with_label-in_order : (k : ℕ) (parts : List PartText) → with_label k (in_order parts) ≡ with_label k parts
with_label-in_order k [] = refl
with_label-in_order k (p ∷ parts) = with_label-put k p (in_order parts) ∙ ap (λ ps. cond (nat_eq k p.least) (p ∷ ps) ps) (with_label-in_order k parts)

-- parts that rise are determined by the parts of each label
has-label : (m k : ℕ) (parts : List PartText) (z : PartText) (zs : List PartText) → with_label k parts ≡ z ∷ zs → AllByRecursion (λ q. m ≤ q.least) parts → m ≤ k
has-label m k [] z zs e h = absurd (cc)
has-label m k (p ∷ parts) z zs e h = go (nat_eq k p.least) (eqb_tells k p.least) e (λ e. has-label m k parts z zs e h.1)
  where
    go : (b : Bool) → ((b ≡ true) × (k ≡ p.least)) ⊎ ((b ≡ false) × (k ≢ p.least)) → cond b (p ∷ with_label k parts) (with_label k parts) ≡ z ∷ zs → (with_label k parts ≡ z ∷ zs → m ≤ k) → m ≤ k
    go true (inl t) e later = let l = h.0 in let x = t.1 in omega arith
    go true (inr t) e later = absurd (let x = t.0 in cc)
    go false t e later = later e

label-first : (p : PartText) (parts : List PartText) → with_label p.least (p ∷ parts) ≡ p ∷ with_label p.least parts
label-first p parts = go (nat_eq p.least p.least) (eqb_tells p.least p.least)
  where
    go : (b : Bool) → ((b ≡ true) × (p.least ≡ p.least)) ⊎ ((b ≡ false) × (p.least ≢ p.least)) → cond b (p ∷ with_label p.least parts) (with_label p.least parts) ≡ p ∷ with_label p.least parts
    go true t = refl
    go false (inl t) = absurd (let x = t.0 in cc)
    go false (inr t) = absurd (t.1 refl)

same-rest : (b : Bool) (x y : PartText) (xs ys : List PartText) → cond b (x ∷ xs) xs ≡ cond b (y ∷ ys) ys → xs ≡ ys
same-rest true x y xs ys e = cc
same-rest false x y xs ys e = e

heads : (x y : PartText) (xs ys : List PartText) → x ∷ xs ≡ y ∷ ys → x ≡ y
heads x y xs ys e = cc

one-order : (xs ys : List PartText) → Rises xs → Rises ys → ((k : ℕ) → with_label k xs ≡ with_label k ys) → xs ≡ ys
one-order [] [] r q h = refl
one-order [] (y ∷ ys) r q h = absurd (let e = h y.least in let f = label-first y ys in cc)
one-order (x ∷ xs) [] r q h = absurd (let e = h x.least in let f = label-first x xs in cc)
one-order (x ∷ xs) (y ∷ ys) r q h =
    let low : x.least ≤ y.least = has-label x.least y.least (x ∷ xs) y (with_label y.least ys) (h y.least ∙ label-first y ys) (omega arith, r.0) in
    let high : y.least ≤ x.least = has-label y.least x.least (y ∷ ys) x (with_label x.least xs) (sym (h x.least) ∙ label-first x xs) (omega arith, q.0) in
    let same : x.least ≡ y.least = omega arith in
    let first : x ≡ y = heads x y (with_label x.least xs) (with_label x.least ys) (sym (label-first x xs) ∙ h x.least ∙ ap (λ k. with_label k (y ∷ ys)) same ∙ label-first y ys ∙ ap (λ k. y ∷ with_label k ys) (sym same)) in
    let rest : xs ≡ ys = one-order xs ys r.1 q.1 (λ k. same-rest (nat_eq k x.least) x y (with_label k xs) (with_label k ys) (h k ∙ ap (λ l. cond (nat_eq k l) (y ∷ with_label k ys) (with_label k ys)) (sym same))) in
    ap (λ z. z ∷ xs) first ∙ ap (λ zs. y ∷ zs) rest

-- from the clauses of a stable sort
all-later : (m : ℕ) (parts : List PartText) → ((j : ℕ) (d : PartText) → j < length parts → m ≤ (get_or parts j d).least) → AllByRecursion (λ q. m ≤ q.least) parts
all-later m [] h = tt
all-later m (p ∷ parts) h = (h 0 p (omega arith), all-later m parts (λ j d l. h (suc j) d (omega arith)))

rises-of : (parts : List PartText) → IsNonDecreasingBy least_at parts → Rises parts
rises-of [] h = tt
rises-of (p ∷ parts) h = (all-later p.least parts (λ j d l. h 0 (suc j) d (omega arith) (omega arith)), rises-of parts (λ i j d l m. h (suc i) (suc j) d (omega arith) (omega arith)))

filter-same : (p q : PartText → Bool) → ((x : PartText) → p x ≡ q x) → (xs : List PartText) → filter p xs ≡ filter q xs
filter-same p q h [] = refl
filter-same p q h (x ∷ xs) = ap (λ b. cond b (x ∷ filter p xs) (filter p xs)) (h x) ∙ ap (λ ys. cond (q x) (x ∷ ys) ys) (filter-same p q h xs)

less-test : (b c : Bool) → is_lt (cond b Less (cond c Equal Greater)) ≡ b
less-test true c = refl
less-test false true = refl
less-test false false = refl

neither-less : (a b : ℕ) → (not (nat_lt a b) && not (nat_lt b a)) ≡ nat_eq a b
neither-less a b = go (nat_lt a b) (nat_lt b a) (nat_eq a b) (leb_tells (suc a) b) (leb_tells (suc b) a) (eqb_tells a b)
  where
    go : (p q r : Bool) → ((p ≡ true) × (suc a ≤ b)) ⊎ ((p ≡ false) × (b < suc a)) → ((q ≡ true) × (suc b ≤ a)) ⊎ ((q ≡ false) × (a < suc b)) → ((r ≡ true) × (a ≡ b)) ⊎ ((r ≡ false) × (a ≢ b)) → (not p && not q) ≡ r
    go p q r (inl h) (inl k) t = absurd (let x = h.1 in let y = k.1 in omega arith)
    go p q r (inl h) (inr k) (inl t) = absurd (let x = h.1 in let y = t.1 in omega arith)
    go p q r (inl h) (inr k) (inr t) = let x = h.0 in let y = t.0 in rw (x, y) refl
    go p q r (inr h) (inl k) (inl t) = absurd (let x = k.1 in let y = t.1 in omega arith)
    go p q r (inr h) (inl k) (inr t) = let x = h.0 in let z = k.0 in let y = t.0 in rw (x, z, y) refl
    go p q r (inr h) (inr k) (inl t) = let x = h.0 in let z = k.0 in let y = t.0 in rw (x, z, y) refl
    go p q r (inr h) (inr k) (inr t) = absurd (let x = h.1 in let z = k.1 in t.1 (omega arith))

ties-label : (x y : PartText) → ties (λ a b. is_lt (nat_cmp a.least b.least)) x y ≡ nat_eq x.least y.least
ties-label x y =
    ap (λ b. not b && not (is_lt (nat_cmp y.least x.least))) (less-test (nat_lt x.least y.least) (nat_eq x.least y.least))
    ∙ ap (λ b. not (nat_lt x.least y.least) && not b) (less-test (nat_lt y.least x.least) (nat_eq y.least x.least))
    ∙ neither-less x.least y.least

-- Parts ys that rise by least label and are a stable sort of xs are xs put in order one by one.
pub stable-in_order : (xs ys : List PartText) → IsNonDecreasingBy least_at ys → IsStableByKey least_at nat_cmp xs ys → ys ≡ in_order xs
stable-in_order xs ys rise stable = one-order ys (in_order xs) (rises-of ys rise) (rises-in_order xs) same
  where
    same : (k : ℕ) → with_label k ys ≡ with_label k (in_order xs)
    same k =
        let x : PartText = record { least = k; text = [] } in
        sym (filter-same _ _ (ties-label x) ys) ∙ stable x ∙ filter-same _ _ (ties-label x) xs ∙ sym (with_label-in_order k xs)

-- from the clause `stable` of a sort by the least label
pub stable-by : {F : Type 0} {g : Mut F (Bor PartText × Unit {0}) ℕ} {f : F} (xs ys : List PartText) → ((key : PartText → ℕ) → ComputesKey g key f → IsStableByKey key nat_cmp xs ys) → ((a : Bor PartText × Unit {0}) (r : ℕ) (q : F) → Called g f a r q → (r ≡ a.0.now.least) × (q ≡ f)) → IsStableByKey least_at nat_cmp xs ys
stable-by {g = g} {f = f} xs ys up h = up least_at (always_returns_same g (λ a r. r ≡ a.0.now.least) f h)
