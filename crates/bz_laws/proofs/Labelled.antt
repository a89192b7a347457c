-- The ideal labels of n atoms are 1 to n in some order.
use Rattle.std.proofs.Common.{◌≡◌, ◌≢◌, ℕ, zero, suc, ◌+◌, ◌<◌, ◌≤◌, List, [], ◌∷◌, length, arith, refl, sym, ◌∙◌, ap, subst, Some}
use Rattle.std.specs.Prelude.{slice_get, remove}
use Rattle.std.specs.List.{AllByRecursion}
use Rattle.bz_model.specs.Fraction.{Fraction, floor_times}
use Rattle.bz_model.specs.Totals.{IsDistinct}
use Rattle.bz_model.specs.Labels.{LabelsOutOf, IdealLabels, AreOneTo, numbers_from}
use Rattle.bz_laws.proofs.Samples.{AllByRecursion-weaker}

-- what holds of each holds of the one taken out and of those left
taken : (P : ℕ → Type 0) (xs : List ℕ) (i b : ℕ) → slice_get xs i ≡ Some b → AllByRecursion P xs → P b × AllByRecursion P (remove xs i)
taken P [] i b e h = absurd (cc)
taken P (x ∷ xs) zero b e h = (let same : x ≡ b = cc in subst P same h.0, h.1)
taken P (x ∷ xs) (suc i) b e h = let r = taken P xs i b e h.1 in (r.0, (h.0, r.1))

-- of distinct numbers, the one taken out isn't among those left
taken_apart : (xs : List ℕ) (i b : ℕ) → slice_get xs i ≡ Some b → IsDistinct xs → AllByRecursion (λ c. c ≢ b) (remove xs i) × IsDistinct (remove xs i)
taken_apart [] i b e d = absurd (cc)
taken_apart (x ∷ xs) zero b e d = (let same : x ≡ b = cc in subst (λ y. AllByRecursion (λ c. c ≢ y) xs) same d.0, d.1)
taken_apart (x ∷ xs) (suc i) b e d =
    let r = taken_apart xs i b e d.1 in
    let k = taken (λ c. c ≢ x) xs i b e d.0 in
    (((λ eq. k.0 (sym eq)), r.0), (k.1, r.1))

taken_length : (xs : List ℕ) (i b : ℕ) → slice_get xs i ≡ Some b → suc (length (remove xs i)) ≡ length xs
taken_length [] i b e = absurd (cc)
taken_length (x ∷ xs) zero b e = refl
taken_length (x ∷ xs) (suc i) b e = ap suc (taken_length xs i b e)

-- what holds of all remaining labels holds of those given
given : (P : ℕ → Type 0) (rest : List ℕ) (us : List Fraction) (labels : List ℕ) (left : List Fraction) → LabelsOutOf rest us labels left → AllByRecursion P rest → AllByRecursion P labels
given P [] us [] left h k = tt
given P (a ∷ []) us (b ∷ []) left h k = (subst P (sym h.0) k.0, tt)
given P (a ∷ c ∷ rest) (u ∷ us) (b ∷ bs) left h k =
    let i = floor_times u (length (a ∷ c ∷ rest)) in
    let r = taken P (a ∷ c ∷ rest) i b h.0 k in
    (r.0, given P (remove (a ∷ c ∷ rest) i) us bs left h.1 r.1)
given P _ _ _ _ h k = elim h [ ]

given_distinct : (rest : List ℕ) (us : List Fraction) (labels : List ℕ) (left : List Fraction) → LabelsOutOf rest us labels left → IsDistinct rest → IsDistinct labels
given_distinct [] us [] left h d = tt
given_distinct (a ∷ []) us (b ∷ []) left h d = (tt, tt)
given_distinct (a ∷ c ∷ rest) (u ∷ us) (b ∷ bs) left h d =
    let i = floor_times u (length (a ∷ c ∷ rest)) in
    let r = taken_apart (a ∷ c ∷ rest) i b h.0 d in
    (given (λ e. e ≢ b) (remove (a ∷ c ∷ rest) i) us bs left h.1 r.0, given_distinct (remove (a ∷ c ∷ rest) i) us bs left h.1 r.1)
given_distinct _ _ _ _ h d = elim h [ ]

given_length : (rest : List ℕ) (us : List Fraction) (labels : List ℕ) (left : List Fraction) → LabelsOutOf rest us labels left → length labels ≡ length rest
given_length [] us [] left h = refl
given_length (a ∷ []) us (b ∷ []) left h = refl
given_length (a ∷ c ∷ rest) (u ∷ us) (b ∷ bs) left h =
    let i = floor_times u (length (a ∷ c ∷ rest)) in
    ap suc (given_length (remove (a ∷ c ∷ rest) i) us bs left h.1) ∙ taken_length (a ∷ c ∷ rest) i b h.0
given_length _ _ _ _ h = elim h [ ]

numbers_within : (a n : ℕ) → AllByRecursion (λ label. (a ≤ label) × (label < a + n)) (numbers_from a n)
numbers_within a zero = tt
numbers_within a (suc n) = ((omega arith, omega arith), AllByRecursion-weaker (λ label h. let l : suc a ≤ label = h.0 in let m : label < suc a + n = h.1 in (omega arith, omega arith)) (numbers_from (suc a) n) (numbers_within (suc a) n))

numbers_distinct : (a n : ℕ) → IsDistinct (numbers_from a n)
numbers_distinct a zero = tt
numbers_distinct a (suc n) = (AllByRecursion-weaker (λ label h e. let l : suc a ≤ label = h.0 in absurd (omega arith)) (numbers_from (suc a) n) (numbers_within (suc a) n), numbers_distinct (suc a) n)

numbers_length : (a n : ℕ) → length (numbers_from a n) ≡ n
numbers_length a zero = refl
numbers_length a (suc n) = ap suc (numbers_length (suc a) n)

-- the ideal labels are 1 to n in some order
pub one_to : (n : ℕ) (us : List Fraction) (labels : List ℕ) (left : List Fraction) → IdealLabels n us labels left → AreOneTo n labels
one_to n us labels left h = record {
  count = given_length (numbers_from 1 n) us labels left h ∙ numbers_length 1 n;
  within = AllByRecursion-weaker (λ label k. let below : label < 1 + n = k.1 in (k.0, omega arith)) labels (given (λ label. (1 ≤ label) × (label < 1 + n)) (numbers_from 1 n) us labels left h (numbers_within 1 n));
  distinct = given_distinct (numbers_from 1 n) us labels left h (numbers_distinct 1 n);
}
