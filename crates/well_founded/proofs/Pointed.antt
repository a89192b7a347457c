-- The classes of the sets of parts, one part after the other.
use Rattle.std.proofs.Common.{◌≡◌, ◌≢◌, ℕ, zero, suc, ◌+◌, ◌<◌, ◌≤◌, ◌⊎◌, ◌↔◌, inl, inr, List, [], ◌∷◌, ◌++◌, length, map, take, get_or, Bool, true, IsTrue, Some, arith, refl, sym, ◌∙◌, subst, ap, add-one}
use Rattle.std.specs.List.{slice_get}
use Rattle.std.proofs.lemmas.Option.{slice_get_within}
use Rattle.class_system.specs.Views.{number}
use Rattle.class_system.specs.declared.ids.ExprId.{ExprId}
use Rattle.well_founded.specs.declared.class_set.ClassSet.{ClassSet}
use Rattle.well_founded.specs.EmptyObjects.{answer_at}
use Rattle.well_founded.specs.Marking.{IsMarked}
use Rattle.well_founded.specs.Ways.{IsIn, Points, SomePoints, OnePoints}

-- Each of these numbers is marked.
pub record AllMarked (marks : List Bool) (parts : List ℕ) : Type 0 where
  pub at : (i part : ℕ) → slice_get parts i ≡ Some part → IsMarked marks part

-- The numbers of the parts up to the next.
pub numbers-more : (parts : List ExprId) (i : ℕ) (none : ExprId) → i < length parts → map number (take (i + 1) parts) ≡ map number (take i parts) ++ (number (get_or parts i none) ∷ [])
numbers-more parts i none h = rw add-one (more parts i h)
  where
    more : (parts : List ExprId) (i : ℕ) → i < length parts → map number (take (suc i) parts) ≡ map number (take i parts) ++ (number (get_or parts i none) ∷ [])
    more [] i h = absurd (omega arith)
    more (p ∷ ps) zero h = refl
    more (p ∷ ps) (suc i) h = ap (λ xs. number p ∷ xs) (more ps i (omega arith))

pub numbers-all : (parts : List ExprId) (i : ℕ) → length parts ≤ i → map number (take i parts) ≡ map number parts
numbers-all [] zero h = refl
numbers-all [] (suc i) h = refl
numbers-all (p ∷ ps) zero h = absurd (omega arith)
numbers-all (p ∷ ps) (suc i) h = ap (λ xs. number p ∷ xs) (numbers-all ps i (omega arith))

-- What stands at a place of a list with one more at the end.
front : (xs : List ℕ) (p i q : ℕ) → slice_get xs i ≡ Some q → slice_get (xs ++ (p ∷ [])) i ≡ Some q
front [] p i q g = absurd (cc)
front (x ∷ xs) p zero q g = g
front (x ∷ xs) p (suc i) q g = front xs p i q g

end : (xs : List ℕ) (p : ℕ) → slice_get (xs ++ (p ∷ [])) (length xs) ≡ Some p
end [] p = refl
end (x ∷ xs) p = end xs p

front-or-end : (xs : List ℕ) (p i q : ℕ) → slice_get (xs ++ (p ∷ [])) i ≡ Some q → (slice_get xs i ≡ Some q) ⊎ ((i ≡ length xs) × (p ≡ q))
front-or-end [] p zero q g = inr (refl, cc)
front-or-end [] p (suc i) q g = absurd (cc)
front-or-end (x ∷ xs) p zero q g = inl g
front-or-end (x ∷ xs) p (suc i) q g = elim (front-or-end xs p i q g) [ inl k ↦ inl k | inr k ↦ inr (ap suc k.0, k.1) ]

-- With one more part.
pub some-none : (rows : List ClassSet) (d : ℕ) → ¬ (SomePoints rows [] d)
some-none rows d k = let g = k.2 in cc

pub some-more : (rows : List ClassSet) (xs : List ℕ) (p d : ℕ) → SomePoints rows (xs ++ (p ∷ [])) d ↔ (SomePoints rows xs d ⊎ Points rows p d)
some-more rows xs p d = (down, up)
  where
    down : SomePoints rows (xs ++ (p ∷ [])) d → SomePoints rows xs d ⊎ Points rows p d
    down k = elim (front-or-end xs p k.0 k.1 k.2) [
      | inl g ↦ inl (k.0, k.1, g, k.3)
      | inr g ↦ inr (subst (λ x. Points rows x d) (sym g.1) k.3)
    ]

    up : SomePoints rows xs d ⊎ Points rows p d → SomePoints rows (xs ++ (p ∷ [])) d
    up (inl k) = (k.0, k.1, front xs p k.0 k.1 k.2, k.3)
    up (inr k) = (length xs, p, end xs p, k)

pub all-none : (marks : List Bool) → AllMarked marks []
all-none marks = record { at = λ i part g. absurd (cc) }

pub all-more : (marks : List Bool) (xs : List ℕ) (p : ℕ) → AllMarked marks (xs ++ (p ∷ [])) ↔ (AllMarked marks xs × IsMarked marks p)
all-more marks xs p = (λ k. (record { at = λ i q g. k.at i q (front xs p i q g) }, k.at (length xs) p (end xs p)), up)
  where
    up : AllMarked marks xs × IsMarked marks p → AllMarked marks (xs ++ (p ∷ []))
    up k = record { at = λ i q g. elim (front-or-end xs p i q g) [ inl h ↦ k.0.at i q h | inr h ↦ subst (λ x. IsMarked marks x) h.1 k.1 ] }

pub one-none : (marks : List Bool) (rows : List ClassSet) (d : ℕ) → ¬ (OnePoints marks rows [] d)
one-none marks rows d k = let g = k.2 in cc

pub one-more : (marks : List Bool) (rows : List ClassSet) (xs : List ℕ) (p d : ℕ) → OnePoints marks rows (xs ++ (p ∷ [])) d ↔ ((IsMarked marks p × OnePoints marks rows xs d) ⊎ (AllMarked marks xs × Points rows p d))
one-more marks rows xs p d = (down, up)
  where
    down : OnePoints marks rows (xs ++ (p ∷ [])) d → (IsMarked marks p × OnePoints marks rows xs d) ⊎ (AllMarked marks xs × Points rows p d)
    down k = elim (front-or-end xs p k.0 k.1 k.2) [
      | inl g ↦ (let w = slice_get_within xs k.0 k.1 g in inl (k.3 (length xs) p (end xs p) (λ z. omega arith), (k.0, k.1, g, λ j q h ne. k.3 j q (front xs p j q h) ne, k.4)))
      | inr g ↦ inr (record { at = λ j q h. (let w = slice_get_within xs j q h in k.3 j q (front xs p j q h) (λ z. let e = g.0 in omega arith)) }, subst (λ x. Points rows x d) (sym g.1) k.4)
    ]

    others : (marked : IsMarked marks p) (i : ℕ) (f : (j q : ℕ) → slice_get xs j ≡ Some q → j ≢ i → IsMarked marks q) → (j q : ℕ) → slice_get (xs ++ (p ∷ [])) j ≡ Some q → j ≢ i → IsMarked marks q
    others marked i f j q g ne = elim (front-or-end xs p j q g) [ inl h ↦ f j q h ne | inr h ↦ subst (λ x. IsMarked marks x) h.1 marked ]

    before : AllMarked marks xs → (j q : ℕ) → slice_get (xs ++ (p ∷ [])) j ≡ Some q → j ≢ length xs → IsMarked marks q
    before k j q g ne = elim (front-or-end xs p j q g) [ inl h ↦ k.at j q h | inr h ↦ absurd (ne h.0) ]

    up : (IsMarked marks p × OnePoints marks rows xs d) ⊎ (AllMarked marks xs × Points rows p d) → OnePoints marks rows (xs ++ (p ∷ [])) d
    up (inl k) = (k.1.0, k.1.1, front xs p k.1.0 k.1.1 k.1.2, others k.0 k.1.0 k.1.3, k.1.4)
    up (inr k) = (length xs, p, end xs p, before k.0, k.1)

-- The sets of the first i parts, joined.
pub record JoinsSome (rows : List ClassSet) (parts : List ExprId) (set : ClassSet) (i : ℕ) : Type 0 where
  pub joined : (d : ℕ) → IsIn set d ↔ SomePoints rows (map number (take i parts)) d

-- A set without members joins the sets of the first 0 parts.
pub joins-start : (rows : List ClassSet) (parts : List ExprId) (set : ClassSet) → ((d : ℕ) → ¬ (IsIn set d)) → JoinsSome rows parts set 0
joins-start rows parts set f = record { joined = λ d. (λ k. absurd (f d k), λ k. absurd (some-none rows d k)) }

-- Where a set joins those of the first i parts, its union with the next part's set joins those of
-- the first i + 1.
pub joins-more : (rows : List ClassSet) (parts : List ExprId) (old own new : ClassSet) (i : ℕ) (none : ExprId) → JoinsSome rows parts old i → i < length parts → ((d : ℕ) → IsIn own d ↔ Points rows (number (get_or parts i none)) d) → ((d : ℕ) → IsIn new d ↔ (IsIn old d ⊎ IsIn own d)) → JoinsSome rows parts new (i + 1)
joins-more rows parts old own new i none h lt f step = record { joined = λ d. subst (λ xs. IsIn new d ↔ SomePoints rows xs d) (sym (numbers-more parts i none lt)) (at d) }
  where
    at : (d : ℕ) → IsIn new d ↔ SomePoints rows (map number (take i parts) ++ (number (get_or parts i none) ∷ [])) d
    at d =
        let both = some-more rows (map number (take i parts)) (number (get_or parts i none)) d in (
          λ k. both.1 (elim ((step d).0 k) [ inl a ↦ inl ((h.joined d).0 a) | inr a ↦ inr ((f d).0 a) ]),
          λ k. (step d).1 (elim (both.0 k) [ inl a ↦ inl ((h.joined d).1 a) | inr a ↦ inr ((f d).1 a) ]),
        )

-- Where the sets of all parts are joined, d is in the set exactly where the row of some part has d.
pub joins-all : (rows : List ClassSet) (parts : List ExprId) (set : ClassSet) (i : ℕ) → length parts ≤ i → JoinsSome rows parts set i → (d : ℕ) → IsIn set d ↔ SomePoints rows (map number parts) d
joins-all rows parts set i all h d = subst (λ xs. IsIn set d ↔ SomePoints rows xs d) (numbers-all parts i all) (h.joined d)

-- The same where all other parts are marked.
pub record JoinsOne (marks : List Bool) (rows : List ClassSet) (parts : List ExprId) (set : ClassSet) (all : Bool) (i : ℕ) : Type 0 where
  pub marked : IsTrue all ↔ AllMarked marks (map number (take i parts))
  pub joined : (d : ℕ) → IsIn set d ↔ OnePoints marks rows (map number (take i parts)) d

-- A set without members joins the sets of the first 0 parts with all others marked, and these parts
-- are all marked.
pub one-start : (marks : List Bool) (rows : List ClassSet) (parts : List ExprId) (set : ClassSet) → ((d : ℕ) → ¬ (IsIn set d)) → JoinsOne marks rows parts set true 0
one-start marks rows parts set f = record { marked = (λ k. all-none marks, λ k. refl); joined = λ d. (λ k. absurd (f d k), λ k. absurd (one-none marks rows d k)) }

module _ (marks : List Bool) (rows : List ClassSet) (parts : List ExprId) (old own new : ClassSet) (all zero_part next : Bool) (i : ℕ) (none : ExprId) (h : JoinsOne marks rows parts old all i) (lt : i < length parts) (z : zero_part ≡ answer_at marks (number (get_or parts i none))) (f : (d : ℕ) → IsIn own d ↔ Points rows (number (get_or parts i none)) d) (step : (d : ℕ) → IsIn new d ↔ ((IsTrue zero_part × IsIn old d) ⊎ (IsTrue all × IsIn own d))) (is_next : IsTrue next ↔ (IsTrue all × IsTrue zero_part)) where
  abbrev xs : List ℕ
  xs = map number (take i parts)

  abbrev p : ℕ
  p = number (get_or parts i none)

  marked-next : IsTrue next ↔ AllMarked marks (xs ++ (p ∷ []))
  marked-next =
      let both = all-more marks xs p in (
        λ k. let a = is_next.0 k in both.1 (h.marked.0 a.0, sym z ∙ a.1),
        λ k. let a = both.0 k in is_next.1 (h.marked.1 a.0, z ∙ a.1),
      )

  joined-next : (d : ℕ) → IsIn new d ↔ OnePoints marks rows (xs ++ (p ∷ [])) d
  joined-next d =
      let both = one-more marks rows xs p d in (
        λ k. both.1 (elim ((step d).0 k) [ inl a ↦ inl (sym z ∙ a.0, (h.joined d).0 a.1) | inr a ↦ inr (h.marked.0 a.0, (f d).0 a.1) ]),
        λ k. (step d).1 (elim (both.0 k) [ inl a ↦ inl (z ∙ a.0, (h.joined d).1 a.1) | inr a ↦ inr (h.marked.1 a.0, (f d).1 a.1) ]),
      )

  pub one-next : JoinsOne marks rows parts new next (i + 1)
  one-next = record {
    marked = subst (λ ys. IsTrue next ↔ AllMarked marks ys) (sym (numbers-more parts i none lt)) marked-next;
    joined = λ d. subst (λ ys. IsIn new d ↔ OnePoints marks rows ys d) (sym (numbers-more parts i none lt)) (joined-next d);
  }

-- Where all parts have been joined, d is in the set exactly where the row of one part has d and all
-- other parts are marked.
pub one-all : (marks : List Bool) (rows : List ClassSet) (parts : List ExprId) (set : ClassSet) (all : Bool) (i : ℕ) → length parts ≤ i → JoinsOne marks rows parts set all i → (d : ℕ) → IsIn set d ↔ OnePoints marks rows (map number parts) d
one-all marks rows parts set all i le h d = subst (λ xs. IsIn set d ↔ OnePoints marks rows xs d) (numbers-all parts i le) (h.joined d)
