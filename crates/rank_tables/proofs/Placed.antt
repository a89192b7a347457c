-- The sums along an object are its rank, where the table's numbers are the counts.
use Rattle.std.proofs.Common.{◌≡◌, ℕ, zero, suc, ◌+◌, ◌-◌, ◌*◌, ◌<◌, ◌≤◌, ◌⊎◌, inl, inr, List, [], ◌∷◌, length, take, Some, None, arith, refl, sym, ◌∙◌, ap, subst}
use Rattle.std.specs.Prelude.{slice_get, sum_by}
use Rattle.std.specs.List.{AllByRecursion}
use Rattle.bz_model.specs.Spec.{Spec, Node, node_at, range_at, body_of, IsInRange}
use Rattle.bz_model.specs.Object.{Object, Objects, none, more, Has, HaveEach, HaveAll, count}
use Rattle.bz_model.specs.Object.Object.{Unit_, Dot, Pick, Tuple, SeqOf}
use Rattle.bz_model.specs.Measures.{size, sizes}
use Rattle.bz_model.specs.Ideal.{option_of}
use Rattle.bz_laws.specs.Parts.{head, tail}
use Rattle.bz_laws.specs.Sound.{IsLaidOut}
use Rattle.bz_laws.proofs.Pairs.{pair_path}
use Rattle.bz_laws.proofs.Samples.{AllByRecursion-weaker}
use Rattle.bz_laws.proofs.Nodes.{HasAt, ClassBelongs, known, unknown, belongs-has, belongs-of}
use Rattle.bz_laws.proofs.Unions.{IsPickOf, IsPickFrom, unpick, HasPart, has-union}
use Rattle.bz_laws.proofs.Products.{has-product, parts_of}
use Rattle.bz_laws.proofs.Tallest.{class-belongs-of, class-belongs-has}
use Rattle.rank_tables.specs.Counting.{HasCount}
use Rattle.rank_tables.specs.RankOrder.{ComesBefore, ListBefore, IsSized, IsCount, IsEarlier, IsRanked}
use Rattle.rank_tables.specs.TableRule.{sum_below, tuples, IsRankable}
use Rattle.rank_tables.specs.Places.{IsPlace, IsTuplePlace, IsListPlace}
use Rattle.rank_tables.specs.Places.IsPlace.{empty, atom, class, union, product, sequence}
use Rattle.rank_tables.specs.Places.IsTuplePlace.{done, first}
use Rattle.rank_tables.specs.Places.IsListPlace.{ended, next}
use Rattle.rank_tables.proofs.Counting.{count-none, count-either, count-pairs, count-same, count-along, count-run}
use Rattle.rank_tables.proofs.Related.{same-passes, CountsAs}
use Rattle.rank_tables.proofs.NodeCounts.{SizedAt, SizedEach, SizedAll, as-picks, as-tuples}
use Rattle.rank_tables.proofs.Order.{not-before_itself}
use Rattle.rank_tables.proofs.Table.{has-sequence, list_of}

-- If P has a count that equals b, then exactly b elements have the property P.
pub exact : {A : Type 0} (P : A → Type 0) {b : ℕ} → CountsAs (λ a b. a ≡ b) P b → HasCount P b
exact P c = subst (HasCount P) c.related c.counted

-- If exactly b elements have the property P, then P has a count that equals b.
pub counted-as : {A : Type 0} (P : A → Type 0) {b : ℕ} → HasCount P b → CountsAs (λ a b. a ≡ b) P b
counted-as P {b} c = record { number = b; counted = c; related = refl }

-- lists that come before one of the same size: with a first object that is smaller, with an earlier one of the same size, or with the same one before an earlier rest
module _ (HasFirst : Object → Type 0) (HasRest : Objects → Type 0) (f g : ℕ → ℕ) (most : ℕ)
    (firsts : (j : ℕ) → j ≤ most → HasCount (λ o. HasFirst o × (size o ≡ j)) (f j))
    (rests : (j : ℕ) → j ≤ most → HasCount (λ os. HasRest os × (sizes os ≡ j)) (g j)) where
  -- a list that begins so and goes on so, of this size
  abbrev pub IsJoined : ℕ → Objects → Type 0
  IsJoined n none = ⊥
  IsJoined n (more o os) = HasFirst o × HasRest os × (size o + sizes os ≡ n)

  into-more : (P : Object → Type 0) (Q : Objects → Type 0) (W : Objects → Type 0) {j k : ℕ} → ((o : Object) (os : Objects) → P o → Q os → W (more o os)) → ((os : Objects) → W os → (q : Object × Objects) × (P q.0 × Q q.1) × (os ≡ more q.0 q.1)) → HasCount P j → HasCount Q k → HasCount W (j * k)
  into-more P Q W into onto c d = count-along (λ (q : Object × Objects). more q.0 q.1) (λ q. P q.0 × Q q.1) W (λ q h. into q.0 q.1 h.0 h.1) (λ q r h k e. pair_path (ap head e) (ap tail e)) onto (count-pairs P Q c d)

  module _ (o : Object) (os : Objects) (fits : size o + sizes os ≤ most) (in_first : HasFirst o) where
    abbrev IsSmaller : Objects → Type 0
    IsSmaller qs = IsJoined (size o + sizes os) qs × (size (head qs) < size o)

    abbrev IsHere : Objects → Type 0
    IsHere qs = IsJoined (size o + sizes os) qs × ((size (head qs) ≡ size o) × ComesBefore (head qs) o)

    abbrev IsLater : Objects → Type 0
    IsLater qs = IsJoined (size o + sizes os) qs × ((head qs ≡ o) × ListBefore (tail qs) os)

    with_size : (j : ℕ) → j < size o → HasCount (λ qs. IsJoined (size o + sizes os) qs × (size (head qs) ≡ j)) (f j * g (size o + sizes os - j))
    with_size j lt =
        into-more (λ p. HasFirst p × (size p ≡ j)) (λ ps. HasRest ps × (sizes ps ≡ size o + sizes os - j)) (λ qs. IsJoined (size o + sizes os) qs × (size (head qs) ≡ j))
        (λ p ps h k. ((h.0, k.0, let e = h.1 in let d = k.1 in omega arith), h.1)) onto (firsts j (omega arith)) (rests (size o + sizes os - j) (omega arith))
      where
        onto : (qs : Objects) → IsJoined (size o + sizes os) qs × (size (head qs) ≡ j) → (q : Object × Objects) × ((HasFirst q.0 × (size q.0 ≡ j)) × (HasRest q.1 × (sizes q.1 ≡ size o + sizes os - j))) × (qs ≡ more q.0 q.1)
        onto none k = elim k.0 [ ]
        onto (more p ps) k = ((p, ps), ((k.0.0, k.1), (k.0.1, let e = k.0.2 in let d = k.1 in omega arith)), refl)

    here-count : {q : ℕ} → HasCount (λ p. (HasFirst p × (size p ≡ size o)) × ComesBefore p o) q → HasCount IsHere (q * g (sizes os))
    here-count c =
        into-more (λ p. (HasFirst p × (size p ≡ size o)) × ComesBefore p o) (λ ps. HasRest ps × (sizes ps ≡ sizes os)) IsHere
        (λ p ps h k. ((h.0.0, k.0, let e = h.0.1 in let d = k.1 in omega arith), (h.0.1, h.1))) onto c (rests (sizes os) (omega arith))
      where
        onto : (qs : Objects) → IsHere qs → (q : Object × Objects) × (((HasFirst q.0 × (size q.0 ≡ size o)) × ComesBefore q.0 o) × (HasRest q.1 × (sizes q.1 ≡ sizes os))) × (qs ≡ more q.0 q.1)
        onto none k = elim k.0 [ ]
        onto (more p ps) k = ((p, ps), (((k.0.0, k.1.0), k.1.1), (k.0.1, let e = k.0.2 in let d = k.1.0 in omega arith)), refl)

    later-count : {r : ℕ} → HasCount (λ ps. (HasRest ps × (sizes ps ≡ sizes os)) × ListBefore ps os) r → HasCount IsLater r
    later-count c = count-along (more o) (λ ps. (HasRest ps × (sizes ps ≡ sizes os)) × ListBefore ps os) IsLater (λ ps h. ((in_first, h.0.0, let e = h.0.1 in omega arith), (refl, h.1))) (λ ps qs h k e. ap tail e) onto c
      where
        onto : (qs : Objects) → IsLater qs → (ps : Objects) × ((HasRest ps × (sizes ps ≡ sizes os)) × ListBefore ps os) × (qs ≡ more o ps)
        onto none k = elim k.0 [ ]
        onto (more p ps) k = (ps, ((k.0.1, let e = k.0.2 in let d : size p ≡ size o = ap size k.1.0 in omega arith), k.1.1), ap (λ z. more z ps) k.1.0)

    pub joined-before : {q r : ℕ} → HasCount (λ p. (HasFirst p × (size p ≡ size o)) × ComesBefore p o) q → HasCount (λ ps. (HasRest ps × (sizes ps ≡ sizes os)) × ListBefore ps os) r → HasCount (λ qs. IsJoined (size o + sizes os) qs × ListBefore qs (more o os)) (sum_below (size o) (λ j. f j * g (size o + sizes os - j)) + q * g (sizes os) + r)
    joined-before {q} {r} here later =
        count-same (λ qs. (IsSmaller qs ⊎ IsHere qs) ⊎ IsLater qs) (λ qs. IsJoined (size o + sizes os) qs × ListBefore qs (more o os)) together apart
        (count-either (λ qs. IsSmaller qs ⊎ IsHere qs) IsLater never_later
        (count-either IsSmaller IsHere (λ qs h k. let lt = h.1 in let e = k.1.0 in omega arith)
        (count-run (λ qs. size (head qs)) (IsJoined (size o + sizes os)) (λ j. f j * g (size o + sizes os - j)) (size o) with_size)
        (here-count here))
        (later-count later))
      where
        not-itself : (p : Object) → p ≡ o → ComesBefore p o → size p ≡ size o → ⊥
        not-itself p e k d = not-before_itself o (subst (λ z. ComesBefore z o) e k)

        never_later : (qs : Objects) → IsSmaller qs ⊎ IsHere qs → IsLater qs → ⊥
        never_later qs (inl h) k = let lt = h.1 in let e : size (head qs) ≡ size o = ap size k.1.0 in omega arith
        never_later qs (inr h) k = not-itself (head qs) k.1.0 h.1.1 h.1.0

        together : (qs : Objects) → (IsSmaller qs ⊎ IsHere qs) ⊎ IsLater qs → IsJoined (size o + sizes os) qs × ListBefore qs (more o os)
        together none (inl (inl h)) = elim h.0 [ ]
        together none (inl (inr h)) = elim h.0 [ ]
        together none (inr h) = elim h.0 [ ]
        together (more p ps) (inl (inl h)) = (h.0, inl h.1)
        together (more p ps) (inl (inr h)) = (h.0, inr (inl h.1))
        together (more p ps) (inr h) = (h.0, inr (inr h.1))

        apart : (qs : Objects) → IsJoined (size o + sizes os) qs × ListBefore qs (more o os) → (IsSmaller qs ⊎ IsHere qs) ⊎ IsLater qs
        apart none h = elim h.0 [ ]
        apart (more p ps) h = elim h.1 [ inl k ↦ inl (inl (h.0, k)) | inr l ↦ elim l [ inl k ↦ inl (inr (h.0, k)) | inr k ↦ inr (h.0, k) ] ]

-- picks of the first n parts
module _ (s : Spec) (R : ℕ → Object → Type 0) where
  to-firsts : (i n j : ℕ) (parts : List ℕ) (o : Object) → IsPickOf s R (slice_get parts j) (i + j) o → j < n → IsPickFrom s R i (take n parts) o
  to-firsts i n j [] o p le = absurd (let none_there : HasPart s R None (unpick o) = p.part_has in none_there)
  to-firsts i zero j (part ∷ parts) o p le = absurd (omega arith)
  to-firsts i (suc n) zero (part ∷ parts) o p le = inl (record { form = let e : i + 0 ≡ i = omega arith in subst (λ k. o ≡ Object.Pick k (unpick o)) e p.form; part_has = p.part_has })
  to-firsts i (suc n) (suc j) (part ∷ parts) o p le = inr (to-firsts (suc i) n j parts o (record { form = let e : i + suc j ≡ suc i + j = omega arith in subst (λ k. o ≡ Object.Pick k (unpick o)) e p.form; part_has = p.part_has }) (omega arith))

  of-firsts : (i n : ℕ) (parts : List ℕ) (o : Object) → IsPickFrom s R i (take n parts) o → (j : ℕ) × (j < n) × IsPickOf s R (slice_get parts j) (i + j) o
  of-firsts i zero [] o h = elim h [ ]
  of-firsts i zero (part ∷ parts) o h = elim h [ ]
  of-firsts i (suc n) [] o h = elim h [ ]
  of-firsts i (suc n) (part ∷ parts) o (inl p) = (0, omega arith, record { form = let e : i ≡ i + 0 = omega arith in subst (λ k. o ≡ Object.Pick k (unpick o)) e p.form; part_has = p.part_has })
  of-firsts i (suc n) (part ∷ parts) o (inr q) =
      let r = of-firsts (suc i) n parts o q in
      let le : r.0 < n = r.1 in
      (suc r.0, omega arith, record { form = let e : suc i + r.0 ≡ i + suc r.0 = omega arith in subst (λ k. o ≡ Object.Pick k (unpick o)) e r.2.form; part_has = r.2.part_has })

part-in : (P : ℕ → Type 0) (parts : List ℕ) (i part : ℕ) → AllByRecursion P parts → slice_get parts i ≡ Some part → P part
part-in P [] i part h e = absurd (cc)
part-in P (p ∷ parts) zero part h e = let q : p ≡ part = cc in subst P q h.0
part-in P (p ∷ parts) (suc i) part h e = part-in P parts i part h.1 e

all-take : (P : ℕ → Type 0) (n : ℕ) (xs : List ℕ) → AllByRecursion P xs → AllByRecursion P (take n xs)
all-take P zero [] h = tt
all-take P zero (x ∷ xs) h = tt
all-take P (suc n) [] h = tt
all-take P (suc n) (x ∷ xs) h = (h.0, all-take P n xs h.1)

module _ (s : Spec) (t : ℕ → ℕ → ℕ) (most : ℕ) (laid_out : IsLaidOut s) (rankable : IsRankable s)
    (right : (e n : ℕ) → e < length s.nodes → n ≤ most → IsCount s e n (t e n)) where
  counts : (e n : ℕ) → e < length s.nodes → n ≤ most → HasCount (SizedAt s (ClassBelongs s) e n) (t e n)
  counts e n inside le = count-same (IsSized s e n) (SizedAt s (ClassBelongs s) e n) (λ o k. (belongs-has s e o k.0, k.1)) (λ o k. (belongs-of s e o k.0, k.1)) (right e n inside le)

  inside-all : (e : ℕ) (parts : List ℕ) → e < length s.nodes → AllByRecursion (λ p. p < e) parts → AllByRecursion (λ p. p < length s.nodes) parts
  inside-all e parts inside h = AllByRecursion-weaker (λ p lt. omega arith) parts h

  tuple-counts : (n : ℕ) (parts : List ℕ) → n ≤ most → AllByRecursion (λ p. p < length s.nodes) parts → HasCount (SizedEach s (ClassBelongs s) parts n) (tuples t parts n)
  tuple-counts n parts le h = exact (SizedEach s (ClassBelongs s) parts n) (as-tuples s (ClassBelongs s) (λ a b. a ≡ b) same-passes t most n parts le (AllByRecursion-weaker (λ p inside m fits. counted-as (SizedAt s (ClassBelongs s) p m) (counts p m inside fits)) parts h))

  list-counts : (e part n : ℕ) → e < length s.nodes → node_at s e ≡ Some (Node.Seq part) → n ≤ most → HasCount (SizedAll s (ClassBelongs s) part n) (t e n)
  list-counts e part n inside at le =
      count-along list_of (SizedAt s (ClassBelongs s) e n) (SizedAll s (ClassBelongs s) part n) (λ o k. let r = apart o k.0 in (r.1, sym (ap size r.0) ∙ k.1)) (λ o p k l eq. (apart o k.0).0 ∙ ap SeqOf eq ∙ sym (apart p l.0).0) onto (counts e n inside le)
    where
      apart : (o : Object) → HasAt s (ClassBelongs s) e o → (o ≡ SeqOf (list_of o)) × HaveAll s (ClassBelongs s) part (list_of o)
      apart o k = has-sequence s (ClassBelongs s) part (range_at s e) o (known s (ClassBelongs s) e at o k)

      onto : (os : Objects) → SizedAll s (ClassBelongs s) part n os → (o : Object) × SizedAt s (ClassBelongs s) e n o × (os ≡ list_of o)
      onto os k =
          let within : IsInRange (count os) (range_at s e) = subst (IsInRange (count os)) (sym (rankable.nodes e (Node.Seq part) at)) (omega arith, tt) in
          (SeqOf os, (unknown s (ClassBelongs s) e at (SeqOf os) (within, k.0), k.1), refl)

  -- an object of the node, and how many come before it
  record Ranked (e : ℕ) (o : Object) (r : ℕ) : Type 0 where
    has : HasAt s (ClassBelongs s) e o
    rank : HasCount (λ p. SizedAt s (ClassBelongs s) e (size o) p × ComesBefore p o) r

  record TupleRanked (parts : List ℕ) (os : Objects) (r : ℕ) : Type 0 where
    has : HaveEach s (ClassBelongs s) parts os
    rank : HasCount (λ qs. SizedEach s (ClassBelongs s) parts (sizes os) qs × ListBefore qs os) r

  record ListRanked (part : ℕ) (os : Objects) (r : ℕ) : Type 0 where
    has : HaveAll s (ClassBelongs s) part os
    rank : HasCount (λ qs. SizedAll s (ClassBelongs s) part (sizes os) qs × ListBefore qs os) r

  ranked-leaf : (e : ℕ) (o : Object) → HasAt s (ClassBelongs s) e o → ((p : Object) → ¬ (ComesBefore p o)) → Ranked e o 0
  ranked-leaf e o h never = record { has = h; rank = count-none (λ p. SizedAt s (ClassBelongs s) e (size o) p × ComesBefore p o) (λ p k. never p k.1) }

  never-unit : (p : Object) → ¬ (ComesBefore p Unit_)
  never-unit (Pick i p) k = elim k [ ]
  never-unit (Tuple os) k = elim k [ ]
  never-unit (SeqOf os) k = elim k [ ]
  never-unit _ k = elim k [ ]

  never-dot : (p : Object) → ¬ (ComesBefore p Dot)
  never-dot (Pick i p) k = elim k [ ]
  never-dot (Tuple os) k = elim k [ ]
  never-dot (SeqOf os) k = elim k [ ]
  never-dot _ k = elim k [ ]

  never-before-none : (os : Objects) → ¬ (ListBefore os none)
  never-before-none none k = elim k [ ]
  never-before-none (more o os) k = elim k [ ]

  ranked-class : (e c body : ℕ) (o : Object) (r : ℕ) → node_at s e ≡ Some (Node.Class c) → body_of s c ≡ Some body → Ranked body o r → Ranked e o r
  ranked-class e c body o r at is b = record {
    has = into o b.has;
    rank = count-same (λ p. SizedAt s (ClassBelongs s) body (size o) p × ComesBefore p o) (λ p. SizedAt s (ClassBelongs s) e (size o) p × ComesBefore p o) (λ p k. ((into p k.0.0, k.0.1), k.1)) (λ p k. ((back p k.0.0, k.0.1), k.1)) b.rank;
  }
    where
      into : (p : Object) → HasAt s (ClassBelongs s) body p → HasAt s (ClassBelongs s) e p
      into p h = unknown s (ClassBelongs s) e at p (class-belongs-of s c body is p (belongs-of s body p h))

      back : (p : Object) → HasAt s (ClassBelongs s) e p → HasAt s (ClassBelongs s) body p
      back p h = belongs-has s body p (class-belongs-has s c body is p (known s (ClassBelongs s) e at p h))

  ranked-union : (e : ℕ) (parts : List ℕ) (i part : ℕ) (o : Object) (q : ℕ) → e < length s.nodes → size o ≤ most → node_at s e ≡ Some (Node.Union parts) → slice_get parts i ≡ Some part → Ranked part o q → Ranked e (Pick i o) (sum_by (λ p. t p (size o)) (take i parts) + q)
  ranked-union e parts i part o q inside le at is b = record {
    has = unknown s (ClassBelongs s) e at (Pick i o) (subst (λ z. HasPart s (ClassBelongs s) z o) (sym is) b.has);
    rank =
        count-same (λ p. EarlierPart p ⊎ SamePart p) (λ p. SizedAt s (ClassBelongs s) e (size o) p × ComesBefore p (Pick i o)) together apart
        (count-either EarlierPart SamePart never
        (exact EarlierPart (as-picks s (ClassBelongs s) (λ a b. a ≡ b) same-passes t 0 (size o) (take i parts) (AllByRecursion-weaker (λ p small. counted-as (SizedAt s (ClassBelongs s) p (size o)) (counts p (size o) small le)) (take i parts) (all-take (λ p. p < length s.nodes) i parts (inside-all e parts inside (laid_out.below e (Node.Union parts) at))))))
        (count-along (Pick i) (λ p. SizedAt s (ClassBelongs s) part (size o) p × ComesBefore p o) SamePart (λ p h. ((refl, h.0.0), (h.0.1, h.1))) (λ p r h k eq. ap unpick eq) onto b.rank));
  }
    where
      EarlierPart : Object → Type 0
      EarlierPart p = IsPickFrom s (ClassBelongs s) 0 (take i parts) p × (size p ≡ size o)

      SamePart : Object → Type 0
      SamePart p = ((p ≡ Pick i (unpick p)) × HasAt s (ClassBelongs s) part (unpick p)) × ((size (unpick p) ≡ size o) × ComesBefore (unpick p) o)

      onto : (p : Object) → SamePart p → (r : Object) × (SizedAt s (ClassBelongs s) part (size o) r × ComesBefore r o) × (p ≡ Pick i r)
      onto p h = (unpick p, ((h.0.1, h.1.0), h.1.1), h.0.0)

      option-small : (p : Object) → IsPickFrom s (ClassBelongs s) 0 (take i parts) p → option_of p < i
      option-small p h = let r = of-firsts s (ClassBelongs s) 0 i parts p h in let lt : r.0 < i = r.1 in let f : option_of p ≡ 0 + r.0 = ap option_of r.2.form in omega arith

      never : (p : Object) → EarlierPart p → SamePart p → ⊥
      never p h k = let lt = option-small p h.0 in let f : option_of p ≡ i = ap option_of k.0.0 in omega arith

      before-pick : (p : Object) (j : ℕ) → p ≡ Pick j (unpick p) → j < i → ComesBefore p (Pick i o)
      before-pick p j form lt = subst (λ z. ComesBefore z (Pick i o)) (sym form) (inl lt)

      together : (p : Object) → EarlierPart p ⊎ SamePart p → SizedAt s (ClassBelongs s) e (size o) p × ComesBefore p (Pick i o)
      together p (inl h) =
          let r = of-firsts s (ClassBelongs s) 0 i parts p h.0 in
          let lt : r.0 < i = r.1 in
          let eq : 0 + r.0 ≡ r.0 = omega arith in
          let form : p ≡ Pick r.0 (unpick p) = subst (λ k. p ≡ Pick k (unpick p)) eq r.2.form in
          ((unknown s (ClassBelongs s) e at p (subst (λ z. Has s (ClassBelongs s) (Some (Node.Union parts)) (range_at s e) z) (sym form) r.2.part_has), h.1), before-pick p r.0 form lt)
      together p (inr h) =
          let has : HasPart s (ClassBelongs s) (slice_get parts i) (unpick p) = subst (λ z. HasPart s (ClassBelongs s) z (unpick p)) (sym is) h.0.1 in
          ((unknown s (ClassBelongs s) e at p (subst (λ z. Has s (ClassBelongs s) (Some (Node.Union parts)) (range_at s e) z) (sym h.0.0) has), ap size h.0.0 ∙ h.1.0), subst (λ z. ComesBefore z (Pick i o)) (sym h.0.0) (inr (refl, h.1.1)))

      apart : (p : Object) → SizedAt s (ClassBelongs s) e (size o) p × ComesBefore p (Pick i o) → EarlierPart p ⊎ SamePart p
      apart p h =
          let u = has-union s (ClassBelongs s) parts (range_at s e) p (known s (ClassBelongs s) e at p h.0.0) in
          let k : ComesBefore (Pick (option_of p) (unpick p)) (Pick i o) = subst (λ z. ComesBefore z (Pick i o)) u.form h.1 in
          by_option p h.0.1 u k
        where
          by_option : (p : Object) → size p ≡ size o → IsPickOf s (ClassBelongs s) (slice_get parts (option_of p)) (option_of p) p → (option_of p < i) ⊎ ((option_of p ≡ i) × ComesBefore (unpick p) o) → EarlierPart p ⊎ SamePart p
          by_option p d u (inl lt) = inl (to-firsts s (ClassBelongs s) 0 i (option_of p) parts p (let eq : option_of p ≡ 0 + option_of p = omega arith in subst (λ k. IsPickOf s (ClassBelongs s) (slice_get parts (option_of p)) k p) eq u) lt, d)
          by_option p d u (inr k) =
              let form : p ≡ Pick i (unpick p) = subst (λ z. p ≡ Pick z (unpick p)) k.0 u.form in
              let has : HasPart s (ClassBelongs s) (slice_get parts i) (unpick p) = subst (λ z. HasPart s (ClassBelongs s) (slice_get parts z) (unpick p)) k.0 u.part_has in
              inr ((form, subst (λ z. HasPart s (ClassBelongs s) z (unpick p)) is has), (sym (ap size form) ∙ d, k.1))

  ranked-product : (e : ℕ) (parts : List ℕ) (os : Objects) (r : ℕ) → node_at s e ≡ Some (Node.Product parts) → TupleRanked parts os r → Ranked e (Tuple os) r
  ranked-product e parts os r at b = record {
    has = unknown s (ClassBelongs s) e at (Tuple os) b.has;
    rank = count-along Tuple (λ qs. SizedEach s (ClassBelongs s) parts (sizes os) qs × ListBefore qs os) (λ p. SizedAt s (ClassBelongs s) e (sizes os) p × ComesBefore p (Tuple os)) (λ qs h. ((unknown s (ClassBelongs s) e at (Tuple qs) h.0.0, h.0.1), h.1)) (λ qs ps h k eq. ap parts_of eq) onto b.rank;
  }
    where
      onto : (p : Object) → SizedAt s (ClassBelongs s) e (sizes os) p × ComesBefore p (Tuple os) → (qs : Objects) × (SizedEach s (ClassBelongs s) parts (sizes os) qs × ListBefore qs os) × (p ≡ Tuple qs)
      onto p h =
          let u = has-product s (ClassBelongs s) parts (range_at s e) p (known s (ClassBelongs s) e at p h.0.0) in
          let k : ComesBefore (Tuple (parts_of p)) (Tuple os) = subst (λ z. ComesBefore z (Tuple os)) u.0 h.1 in
          (parts_of p, ((u.1, sym (ap size u.0) ∙ h.0.1), k), u.0)

  ranked-sequence : (e part : ℕ) (os : Objects) (r : ℕ) → node_at s e ≡ Some (Node.Seq part) → ListRanked part os r → Ranked e (SeqOf os) r
  ranked-sequence e part os r at b = record {
    has = into os b.has;
    rank = count-along SeqOf (λ qs. SizedAll s (ClassBelongs s) part (sizes os) qs × ListBefore qs os) (λ p. SizedAt s (ClassBelongs s) e (sizes os) p × ComesBefore p (SeqOf os)) (λ qs h. ((into qs h.0.0, h.0.1), h.1)) (λ qs ps h k eq. ap list_of eq) onto b.rank;
  }
    where
      into : (qs : Objects) → HaveAll s (ClassBelongs s) part qs → HasAt s (ClassBelongs s) e (SeqOf qs)
      into qs h = let within : IsInRange (count qs) (range_at s e) = subst (IsInRange (count qs)) (sym (rankable.nodes e (Node.Seq part) at)) (omega arith, tt) in unknown s (ClassBelongs s) e at (SeqOf qs) (within, h)

      onto : (p : Object) → SizedAt s (ClassBelongs s) e (sizes os) p × ComesBefore p (SeqOf os) → (qs : Objects) × (SizedAll s (ClassBelongs s) part (sizes os) qs × ListBefore qs os) × (p ≡ SeqOf qs)
      onto p h =
          let u = has-sequence s (ClassBelongs s) part (range_at s e) p (known s (ClassBelongs s) e at p h.0.0) in
          let k : ComesBefore (SeqOf (list_of p)) (SeqOf os) = subst (λ z. ComesBefore z (SeqOf os)) u.0 h.1 in
          (list_of p, ((u.1, sym (ap size u.0) ∙ h.0.1), k), u.0)

  ranked-tuple : (part : ℕ) (parts : List ℕ) (o : Object) (os : Objects) (q r : ℕ) → part < length s.nodes → AllByRecursion (λ p. p < length s.nodes) parts → size o + sizes os ≤ most → Ranked part o q → TupleRanked parts os r → TupleRanked (part ∷ parts) (more o os) (sum_below (size o) (λ j. t part j * tuples t parts (size o + sizes os - j)) + q * tuples t parts (sizes os) + r)
  ranked-tuple part parts o os q r there all le b c = record {
    has = (b.has, c.has);
    rank =
        count-same (λ qs. IsJoined (HasAt s (ClassBelongs s) part) (HaveEach s (ClassBelongs s) parts) (t part) (tuples t parts) most firsts rests (size o + sizes os) qs × ListBefore qs (more o os)) (λ qs. SizedEach s (ClassBelongs s) (part ∷ parts) (size o + sizes os) qs × ListBefore qs (more o os)) into back
        (joined-before (HasAt s (ClassBelongs s) part) (HaveEach s (ClassBelongs s) parts) (t part) (tuples t parts) most firsts rests o os le b.has b.rank c.rank);
  }
    where
      firsts : (j : ℕ) → j ≤ most → HasCount (SizedAt s (ClassBelongs s) part j) (t part j)
      firsts j fits = counts part j there fits

      rests : (j : ℕ) → j ≤ most → HasCount (SizedEach s (ClassBelongs s) parts j) (tuples t parts j)
      rests j fits = tuple-counts j parts fits all

      into : (qs : Objects) → IsJoined (HasAt s (ClassBelongs s) part) (HaveEach s (ClassBelongs s) parts) (t part) (tuples t parts) most firsts rests (size o + sizes os) qs × ListBefore qs (more o os) → SizedEach s (ClassBelongs s) (part ∷ parts) (size o + sizes os) qs × ListBefore qs (more o os)
      into none h = elim h.0 [ ]
      into (more p ps) h = (((h.0.0, h.0.1), h.0.2), h.1)

      back : (qs : Objects) → SizedEach s (ClassBelongs s) (part ∷ parts) (size o + sizes os) qs × ListBefore qs (more o os) → IsJoined (HasAt s (ClassBelongs s) part) (HaveEach s (ClassBelongs s) parts) (t part) (tuples t parts) most firsts rests (size o + sizes os) qs × ListBefore qs (more o os)
      back none h = elim h.0.0 [ ]
      back (more p ps) h = ((h.0.0.0, h.0.0.1, h.0.1), h.1)

  ranked-list : (e part : ℕ) (o : Object) (os : Objects) (q r : ℕ) → e < length s.nodes → part < length s.nodes → node_at s e ≡ Some (Node.Seq part) → size o + sizes os ≤ most → Ranked part o q → ListRanked part os r → ListRanked part (more o os) (sum_below (size o) (λ j. t part j * t e (size o + sizes os - j)) + q * t e (sizes os) + r)
  ranked-list e part o os q r inside there at le b c = record {
    has = (b.has, c.has);
    rank =
        count-same (λ qs. IsJoined (HasAt s (ClassBelongs s) part) (HaveAll s (ClassBelongs s) part) (t part) (t e) most firsts rests (size o + sizes os) qs × ListBefore qs (more o os)) (λ qs. SizedAll s (ClassBelongs s) part (size o + sizes os) qs × ListBefore qs (more o os)) into back
        (joined-before (HasAt s (ClassBelongs s) part) (HaveAll s (ClassBelongs s) part) (t part) (t e) most firsts rests o os le b.has b.rank c.rank);
  }
    where
      firsts : (j : ℕ) → j ≤ most → HasCount (SizedAt s (ClassBelongs s) part j) (t part j)
      firsts j fits = counts part j there fits

      rests : (j : ℕ) → j ≤ most → HasCount (SizedAll s (ClassBelongs s) part j) (t e j)
      rests j fits = list-counts e part j inside at fits

      into : (qs : Objects) → IsJoined (HasAt s (ClassBelongs s) part) (HaveAll s (ClassBelongs s) part) (t part) (t e) most firsts rests (size o + sizes os) qs × ListBefore qs (more o os) → SizedAll s (ClassBelongs s) part (size o + sizes os) qs × ListBefore qs (more o os)
      into none h = elim h.0 [ ]
      into (more p ps) h = (((h.0.0, h.0.1), h.0.2), h.1)

      back : (qs : Objects) → SizedAll s (ClassBelongs s) part (size o + sizes os) qs × ListBefore qs (more o os) → IsJoined (HasAt s (ClassBelongs s) part) (HaveAll s (ClassBelongs s) part) (t part) (t e) most firsts rests (size o + sizes os) qs × ListBefore qs (more o os)
      back none h = elim h.1 [ ]
      back (more p ps) h = ((h.0.0.0, h.0.0.1, h.0.1), h.1)

  mutual
    ranked : (e : ℕ) (o : Object) (r : ℕ) → e < length s.nodes → size o ≤ most → IsPlace s t e o r → Ranked e o r
    ranked e _ _ inside le (empty word at) = ranked-leaf e Unit_ (unknown s (ClassBelongs s) e at Unit_ tt) never-unit
    ranked e _ _ inside le (atom word at) = ranked-leaf e Dot (unknown s (ClassBelongs s) e at Dot tt) never-dot
    ranked e o r inside le (class c body at is p) = ranked-class e c body o r at is (ranked body o r (laid_out.bodies c body is) le p)
    ranked e _ r inside le (union {o = o} parts i part q at is p eq) = subst (Ranked e (Pick i o)) (sym eq) (ranked-union e parts i part o q inside le at is (ranked part o q (part-in (λ p. p < length s.nodes) parts i part (inside-all e parts inside (laid_out.below e (Node.Union parts) at)) is) le p))
    ranked e _ r inside le (product {os = os} parts at p) = ranked-product e parts os r at (tuple-ranked parts os r (inside-all e parts inside (laid_out.below e (Node.Product parts) at)) le p)
    ranked e _ r inside le (sequence {os = os} part at p) = ranked-sequence e part os r at (list-ranked e part os r inside (let b = laid_out.below e (Node.Seq part) at in omega arith) at le p)

    tuple-ranked : (parts : List ℕ) (os : Objects) (r : ℕ) → AllByRecursion (λ p. p < length s.nodes) parts → sizes os ≤ most → IsTuplePlace s t parts os r → TupleRanked parts os r
    tuple-ranked _ _ _ all le done = record { has = tt; rank = count-none (λ qs. SizedEach s (ClassBelongs s) [] 0 qs × ListBefore qs none) (λ qs h. never-before-none qs h.1) }
    tuple-ranked _ _ r all le (first {es = es} {o = o} {os = os} q rest p ps eq) = subst (TupleRanked (_ ∷ es) (more o os)) (sym eq) (ranked-tuple _ es o os q rest all.0 all.1 le (ranked _ o q all.0 (omega arith) p) (tuple-ranked es os rest all.1 (omega arith) ps))

    list-ranked : (e part : ℕ) (os : Objects) (r : ℕ) → e < length s.nodes → part < length s.nodes → node_at s e ≡ Some (Node.Seq part) → sizes os ≤ most → IsListPlace s t e part os r → ListRanked part os r
    list-ranked e part _ _ inside there at le ended = record { has = tt; rank = count-none (λ qs. SizedAll s (ClassBelongs s) part 0 qs × ListBefore qs none) (λ qs h. never-before-none qs h.1) }
    list-ranked e part _ r inside there at le (next {o = o} {os = os} q rest p ps eq) = subst (ListRanked part (more o os)) (sym eq) (ranked-list e part o os q rest inside there at le (ranked part o q there (omega arith) p) (list-ranked e part os rest inside there at (omega arith) ps))

  -- the place of an object is its rank
  pub place-rank : (e : ℕ) (o : Object) (r : ℕ) → e < length s.nodes → size o ≤ most → IsPlace s t e o r → IsRanked s e (size o) r o
  place-rank e o r inside le p =
      let k = ranked e o r inside le p in
      record {
        sized = (belongs-of s e o k.has, refl);
        rank = count-same (λ q. SizedAt s (ClassBelongs s) e (size o) q × ComesBefore q o) (IsEarlier s e (size o) o) (λ q h. ((belongs-of s e q h.0.0, h.0.1), h.1)) (λ q h. ((belongs-has s e q h.0.0, h.0.1), h.1)) k.rank;
      }
