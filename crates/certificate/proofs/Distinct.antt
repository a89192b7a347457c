-- Names of which none stands twice, one by one.
use Rattle.std.specs.Prelude.{slice_get}
use Rattle.std.proofs.Common.{◌≡◌, ℕ, zero, suc, ◌<◌, List, [], ◌∷◌, ◌++◌, length, Some, arith, refl, sym, ◌∙◌, ap, ◌⊎◌, inl, inr, take, subst, ◌+◌, add-one}
use Rattle.class_system.specs.Distinct.{AreDistinct, IsMissing}

at-append : (xs ys : List (List ℕ)) (i : ℕ) (w : List ℕ) → slice_get xs i ≡ Some w → slice_get (xs ++ ys) i ≡ Some w
at-append [] ys i w e = absurd (cc)
at-append (x ∷ xs) ys zero w e = e
at-append (x ∷ xs) ys (suc i) w e = at-append xs ys i w e

within : (xs : List (List ℕ)) (i : ℕ) (w : List ℕ) → slice_get xs i ≡ Some w → i < length xs
within [] i w e = absurd (cc)
within (x ∷ xs) zero w e = omega arith
within (x ∷ xs) (suc i) w e = let h = within xs i w e in omega arith

at-here : (before ws : List (List ℕ)) (w : List ℕ) → slice_get (before ++ w ∷ ws) (length before) ≡ Some w
at-here [] ws w = refl
at-here (v ∷ before) ws w = at-here before ws w

-- Of names of which none stands twice, each is missing among those before it.
pub missing-before : (before ws : List (List ℕ)) (w : List ℕ) → AreDistinct (before ++ w ∷ ws) → IsMissing w before
missing-before before ws w d = record {
  nowhere = λ i at.
      let same : i ≡ length before = d.once i (length before) w (at-append before (w ∷ ws) i w at) (at-here before ws w) in
      let h : i < length before = within before i w at in
      absurd (omega arith);
}

-- What stands in the first names stands in all, at that place.
in-first : (names : List (List ℕ)) (n i : ℕ) (w : List ℕ) → slice_get (take n names) i ≡ Some w → (slice_get names i ≡ Some w) × (i < n)
in-first [] zero i w e = absurd (cc)
in-first [] (suc n) i w e = absurd (cc)
in-first (x ∷ names) zero i w e = absurd (cc)
in-first (x ∷ names) (suc n) zero w e = (e, omega arith)
in-first (x ∷ names) (suc n) (suc i) w e = let h = in-first names n i w e in let few = h.1 in (h.0, omega (arith, few))

-- Of names of which none stands twice, each is missing among the first ones before its place.
missing-below : (names : List (List ℕ)) (i : ℕ) (w : List ℕ) → AreDistinct names → slice_get names i ≡ Some w → IsMissing w (take i names)
missing-below names i w d at = record {
  nowhere = λ k there.
      let h = in-first names i k w there in
      let few = h.1 in
      let same : k ≡ i = d.once k i w h.0 at in
      absurd (omega (arith, few, same));
}

-- The first names are one more with the name at the next place.
first-more : (names : List (List ℕ)) (i : ℕ) (w : List ℕ) → slice_get names i ≡ Some w → take (suc i) names ≡ take i names ++ w ∷ []
first-more [] i w e = absurd (cc)
first-more (x ∷ names) zero w e = let same : x ≡ w = cc in ap (λ z. z ∷ []) same
first-more (x ∷ names) (suc i) w e = ap (λ t. x ∷ t) (first-more names i w e)

-- A copy of the first names doesn't have the name at the next place yet.
pub missing_next : (names copied : List (List ℕ)) (i : ℕ) (name word : List ℕ) → AreDistinct names → copied ≡ take i names → slice_get names i ≡ Some name → word ≡ name → IsMissing word copied
missing_next names copied i name word d are at is = subst (IsMissing word) (sym are) (missing-below names i word d (at ∙ ap Some (sym is)))

-- With that name it is a copy of one more.
pub copied-next : (names copied next : List (List ℕ)) (i : ℕ) (name word : List ℕ) → copied ≡ take i names → slice_get names i ≡ Some name → word ≡ name → next ≡ copied ++ word ∷ [] → next ≡ take (i + 1) names
copied-next names copied next i name word are at is more =
    more ∙ ap (λ t. t ++ word ∷ []) are ∙ sym (first-more names i word (at ∙ ap Some (sym is))) ∙ ap (λ n. take n names) (sym (add-one i))

-- What stands in a list with one more name stands in the list, or is that name in the last place.
in-one-more : (xs : List (List ℕ)) (x : List ℕ) (i : ℕ) (w : List ℕ) → slice_get (xs ++ x ∷ []) i ≡ Some w → (slice_get xs i ≡ Some w) ⊎ ((i ≡ length xs) × (x ≡ w))
in-one-more [] x zero w e = let same : x ≡ w = cc in inr (refl, same)
in-one-more [] x (suc i) w e = absurd (cc)
in-one-more (y ∷ xs) x zero w e = inl e
in-one-more (y ∷ xs) x (suc i) w e = later (in-one-more xs x i w e)
  where
    later : (slice_get xs i ≡ Some w) ⊎ ((i ≡ length xs) × (x ≡ w)) → (slice_get xs i ≡ Some w) ⊎ ((suc i ≡ suc (length xs)) × (x ≡ w))
    later (inl f) = inl f
    later (inr f) = inr (ap suc f.0, f.1)

-- One more name that is missing keeps names distinct.
pub distinct-more : (names : List (List ℕ)) (name : List ℕ) → AreDistinct names → IsMissing name names → AreDistinct (names ++ name ∷ [])
distinct-more names name d m = record { once = λ i j w a b. once i j w (in-one-more names name i w a) (in-one-more names name j w b) }
  where
    once : (i j : ℕ) (w : List ℕ) → (slice_get names i ≡ Some w) ⊎ ((i ≡ length names) × (name ≡ w)) → (slice_get names j ≡ Some w) ⊎ ((j ≡ length names) × (name ≡ w)) → i ≡ j
    once i j w (inl a) (inl b) = d.once i j w a b
    once i j w (inl a) (inr b) = absurd (m.nowhere i (a ∙ ap Some (sym b.1)))
    once i j w (inr a) (inl b) = absurd (m.nowhere j (b ∙ ap Some (sym a.1)))
    once i j w (inr a) (inr b) = a.0 ∙ sym b.0

-- No names are distinct.
pub none-distinct : AreDistinct []
none-distinct = record { once = λ i j w a b. let h : i < 0 = within [] i w a in absurd (omega arith) }
