-- Lists of names: what a search by equality tells.
use Rattle.std.proofs.Common.{◌≡◌, ℕ, ◌<◌, Bool, true, false, List, length, get_or, sym, ◌∙◌, ap, subst, refl, inl, inr, Option, Some, None, slice_get, nat_eq}
use Rattle.std.specs.Prelude.{position, IfSome, IfNone, is_some}
use Rattle.std.specs.List.{list_any, IsDistinct}
use Rattle.std.specs.Cmp.Lexicographic.{pointwise, same_text}
use Rattle.std.proofs.lemmas.Cmp.{nat_list_eq_equiv}
use Rattle.std.proofs.lemmas.List.Quantifiers.{position-Some}
use Rattle.std.proofs.lemmas.List.Folds.{list_any_at, list_any_none}
use Rattle.std.proofs.lemmas.Option.{slice_get-get_or, slice_get_within, get_or_from_slice_get, same_Some}
use Rattle.std.proofs.lemmas.Bool.{cases_order}
use Rattle.std.proofs.lemmas.Map.Keys.{apart_from_distinct}
use Rattle.class_system.specs.Distinct.{IsMissing, AreDistinct}

-- A name is equal to itself.
same_name : (name : List ℕ) → pointwise nat_eq name name ≡ true
same_name name = nat_list_eq_equiv.refl name

-- The name at a place that passes the search for a name is that name.
at_place : (name : List ℕ) (names : List (List ℕ)) (i : ℕ) → i < length names → pointwise nat_eq name (get_or names i name) ≡ true → slice_get names i ≡ Some name
at_place name names i within passes = slice_get-get_or names i name within ∙ ap Some (sym (same_text name (get_or names i name) (sym passes)))

-- The place that a search tells holds the name.
pub found_at : (name : List ℕ) (names : List (List ℕ)) (o : Option ℕ) → o ≡ position (pointwise nat_eq name) names → IfSome o (λ i. slice_get names i ≡ Some name)
found_at name names None e = tt
found_at name names (Some i) e =
    let p = position-Some (pointwise nat_eq name) names i name (sym e) in
    at_place name names i p.0 p.1

-- Where no name passes the search for a name, it is missing.
pub missing_if_none : (name : List ℕ) (names : List (List ℕ)) → list_any (pointwise nat_eq name) names ≡ false → IsMissing name names
missing_if_none name names e = record {
  nowhere = λ i at.
      let within : i < length names = slice_get_within names i name at in
      let here : get_or names i name ≡ name = get_or_from_slice_get names i name name at in
      let passes : pointwise nat_eq name (get_or names i name) ≡ true = rw here (same_name name) in
      let any : list_any (pointwise nat_eq name) names ≡ true = list_any_at (pointwise nat_eq name) names i name within passes in
      cc;
}

-- Where a search finds nothing, the name is missing.
pub missing_at : (name : List ℕ) (names : List (List ℕ)) (o : Option ℕ) → is_some o ≡ list_any (pointwise nat_eq name) names → IfNone o (IsMissing name names)
missing_at name names None e = missing_if_none name names (sym e)
missing_at name names (Some i) e = tt

-- The test at one place of a list in which a name is missing.
passes_not : (name : List ℕ) (names : List (List ℕ)) → IsMissing name names → (k : ℕ) → k < length names → (b : Bool) → pointwise nat_eq name (get_or names k name) ≡ b → b ≡ false
passes_not name names missing k within true e = absurd (missing.nowhere k (at_place name names k within e))
passes_not name names missing k within false e = refl

-- Within a list the element read doesn't depend on what is read past the end.
same_read : (names : List (List ℕ)) (k : ℕ) (d e : List ℕ) → k < length names → get_or names k d ≡ get_or names k e
same_read names k d e within = same_Some _ _ (sym (slice_get-get_or names k d within) ∙ slice_get-get_or names k e within)

-- Where a name is missing, no name passes the search for it.
pub none_passes : (name : List ℕ) (names : List (List ℕ)) → IsMissing name names → list_any (pointwise nat_eq name) names ≡ false
none_passes name names missing = list_any_none (pointwise nat_eq name) names (λ k d within.
    rw (same_read names k d name within) (subst (λ b. pointwise nat_eq name (get_or names k name) ≡ b) (passes_not name names missing k within _ refl) refl))

-- One name can't stand at an earlier and at a later place.
not_twice : (names : List (List ℕ)) → IsDistinct (pointwise nat_eq) names → (i j : ℕ) (name : List ℕ) → i < j → slice_get names i ≡ Some name → slice_get names j ≡ Some name → ⊥
not_twice names distinct i j name below at_i at_j =
    let within : j < length names = slice_get_within names j name at_j in
    let apart : pointwise nat_eq (get_or names i name) (get_or names j name) ≡ false = apart_from_distinct (pointwise nat_eq) names i j name distinct below within in
    let first : get_or names i name ≡ name = get_or_from_slice_get names i name name at_i in
    let second : get_or names j name ≡ name = get_or_from_slice_get names j name name at_j in
    let same : pointwise nat_eq name name ≡ true = same_name name in
    let differs : pointwise nat_eq name name ≡ false = rw (first, second) at apart in
    cc

-- Names that are apart by a test stand at one place each.
pub distinct_names : (names : List (List ℕ)) → IsDistinct (pointwise nat_eq) names → AreDistinct names
distinct_names names distinct = record {
  once = λ i j name at_i at_j.
      elim (cases_order i j) [
        | inl same ↦ same
        | inr (inl below) ↦ absurd (not_twice names distinct i j name below at_i at_j)
        | inr (inr above) ↦ absurd (not_twice names distinct j i name above at_j at_i)
      ];
}
