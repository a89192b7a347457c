-- The tests of the base: the names' and the values'.
use Rattle.std.proofs.Common.{◌≡◌, ◌≢◌, ℕ, zero, suc, ◌+◌, ◌<◌, ◌≤◌, arith, inl, inr, List, [], ◌∷◌, ◌++◌, length, map, Option, Some, None, refl, sym, ◌∙◌, ap, subst}
use Rattle.std.specs.Prelude.{min, slice_get, slice_index}
use Rattle.std.specs.List.{AllZip}
use Rattle.fixed_enclosure.specs.UpperValues.{IsNoGreater, AreNoGreater}
use Rattle.rounded_map.specs.RoundedMap.{IsFirstAbove, value_at}
use Rattle.certificate.specs.declared.reason.Reason.TheVariants as reason
use Rattle.certificate.specs.declared.reason.Verdict.{Verdict}
use Rattle.certificate.specs.declared.reason.Verdict.TheVariants.{Valid, Invalid}
use Rattle.certificate.specs.Checks.{name_checks, value_checks}
use Rattle.certificate.specs.Verdicts.{Check, FirstFails}

told : (line place there : ℕ) → suc line + place ≡ there → Invalid (suc line + place) reason.Base ≡ Invalid there reason.Base
told line place there is = ap (λ n. Invalid n reason.Base) is

-- names that agree up to a place
abbrev pub Agree : (names classes : List (List ℕ)) → (places : ℕ) → Type 0
Agree names classes places = (i : ℕ) → i < places → slice_get names i ≡ slice_get classes i

later : (n c : List ℕ) (names classes : List (List ℕ)) (places : ℕ) → Agree (n ∷ names) (c ∷ classes) (suc places) → Agree names classes places
later n c names classes places h = λ i below. h (suc i) (omega arith)

first-same : (n c : List ℕ) (names classes : List (List ℕ)) (places : ℕ) → Agree (n ∷ names) (c ∷ classes) (suc places) → n ≡ c
first-same n c names classes places h = let e : Some n ≡ Some c = h 0 (omega arith) in cc

-- at the first place where they differ
pub names-differ : (line place : ℕ) (names classes : List (List ℕ)) → place < length names → place < length classes → Agree names classes place → slice_get names place ≢ slice_get classes place → FirstFails (name_checks line names classes) (Invalid (line + place) reason.Base)
names-differ line zero (n ∷ names) (c ∷ classes) in_names in_classes agree differ = inr ((λ e. differ (ap Some e)), ap (λ m. Invalid m reason.Base) (let z : line + 0 ≡ line = omega arith in z))
names-differ line (suc place) (n ∷ names) (c ∷ classes) in_names in_classes agree differ =
    inl (
      first-same n c names classes place agree,
      subst (FirstFails (name_checks (suc line) names classes)) (told line place (line + suc place) (omega arith))
          (names-differ (suc line) place names classes (omega arith) (omega arith) (later n c names classes place agree) differ),
    )
names-differ line place [] classes in_names in_classes agree differ = let no : ⊥ = omega arith in absurd no
names-differ line place (n ∷ names) [] in_names in_classes agree differ = let no : ⊥ = omega arith in absurd no

-- where one list has more
pub names-unequal : (line place : ℕ) (names classes : List (List ℕ)) → place ≡ min (length classes) (length names) → Agree names classes place → length names ≢ length classes → FirstFails (name_checks line names classes) (Invalid (line + place) reason.Base)
names-unequal line place [] [] is agree differ = absurd (differ refl)
names-unequal line place (n ∷ names) [] is agree differ = inr ((λ none. none), ap (λ m. Invalid m reason.Base) (let z : line + place ≡ line = omega arith in z))
names-unequal line place [] (c ∷ classes) is agree differ = inr ((λ none. none), ap (λ m. Invalid m reason.Base) (let z : line + place ≡ line = omega arith in z))
names-unequal line zero (n ∷ names) (c ∷ classes) is agree differ = let no : ⊥ = omega arith in absurd no
names-unequal line (suc place) (n ∷ names) (c ∷ classes) is agree differ =
    inl (
      first-same n c names classes place agree,
      subst (FirstFails (name_checks (suc line) names classes)) (told line place (line + suc place) (omega arith))
          (names-unequal (suc line) place names classes (omega arith) (later n c names classes place agree) (λ e. differ (ap suc e))),
    )

-- where they are the same
pub names-pass : (line place : ℕ) (names classes : List (List ℕ)) → place ≡ length names → length names ≡ length classes → Agree names classes place → FirstFails (name_checks line names classes) Valid
names-pass line place [] [] is same agree = refl
names-pass line place (n ∷ names) [] is same agree = let no : ⊥ = omega arith in absurd no
names-pass line place [] (c ∷ classes) is same agree = let no : ⊥ = omega arith in absurd no
names-pass line zero (n ∷ names) (c ∷ classes) is same agree = let no : ⊥ = omega arith in absurd no
names-pass line (suc place) (n ∷ names) (c ∷ classes) is same agree = inl (first-same n c names classes place agree, names-pass (suc line) place names classes (omega arith) (omega arith) (later n c names classes place agree))

-- what the tests of the names say where they pass
pub names-are : (line : ℕ) (names classes : List (List ℕ)) → FirstFails (name_checks line names classes) Valid → names ≡ classes
names-are line [] [] h = refl
names-are line (n ∷ names) [] (inl p) = elim p.0 [ ]
names-are line (n ∷ names) [] (inr q) = let no : ⊥ = (let e = q.1 in cc) in absurd no
names-are line [] (c ∷ classes) (inl p) = elim p.0 [ ]
names-are line [] (c ∷ classes) (inr q) = let no : ⊥ = (let e = q.1 in cc) in absurd no
names-are line (n ∷ names) (c ∷ classes) (inl p) = let rest = names-are (suc line) names classes p.1 in let same = p.0 in cc
names-are line (n ∷ names) (c ∷ classes) (inr q) = let no : ⊥ = (let e = q.1 in cc) in absurd no

-- the values of a post-fixed vector pass
pub values-pass : (line : ℕ) (bodies : List (Option ℕ)) (base : List ℕ) → AreNoGreater bodies (map Some base) → FirstFails (value_checks line bodies base) Valid
values-pass line [] [] h = refl
values-pass line (b ∷ bodies) [] h = refl
values-pass line [] (v ∷ base) h = refl
values-pass line (b ∷ bodies) (v ∷ base) h = inl (h.0, values-pass (suc line) bodies base h.1)

-- of another the first that fails decides
pub values-fail : (line place : ℕ) (got : Option ℕ) (bodies : List (Option ℕ)) (base : List ℕ) → length bodies ≡ length base → IsFirstAbove bodies base place got → FirstFails (value_checks line bodies base) (Invalid (line + place) reason.Base)
values-fail line place got [] [] same h = let w = h.within in let no : ⊥ = omega arith in absurd no
values-fail line place got (b ∷ bodies) [] same h = let no : ⊥ = omega arith in absurd no
values-fail line place got [] (v ∷ base) same h = let no : ⊥ = omega arith in absurd no
values-fail line zero got (b ∷ bodies) (v ∷ base) same h = inr ((λ ok. h.above (subst (λ g. IsNoGreater g (Some v)) (sym h.value) ok)), ap (λ m. Invalid m reason.Base) (let z : line + 0 ≡ line = omega arith in z))
values-fail line (suc place) got (b ∷ bodies) (v ∷ base) same h =
    inl (
      h.before 0 (omega arith),
      subst (FirstFails (value_checks (suc line) bodies base)) (told line place (line + suc place) (omega arith))
          (values-fail (suc line) place got bodies base (omega arith) (record {
            within = (let w = h.within in omega arith);
            value = h.value;
            above = h.above;
            before = λ c below. h.before (suc c) (omega arith);
          })),
    )
