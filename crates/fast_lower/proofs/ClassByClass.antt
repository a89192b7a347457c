-- What holds at each class, from what holds along two lists.
use Rattle.std.proofs.Common.{◌≡◌, ℕ, zero, suc, ◌-◌, ◌<◌, ◌≤◌, List, [], ◌∷◌, map, sum, length, get_or, refl, sym, ap, subst, arith, Option, Some, None, slice_get}
use Rattle.std.specs.Prelude.{slice_index}
use Rattle.std.specs.List.{AllZip}
use Rattle.std.proofs.lemmas.List.Sums.{sum_by-cons}
use Rattle.std.proofs.lemmas.Option.{slice_get_within, same_Some}
use Rattle.fixed_enclosure.specs.UpperValues.{AreAtMost}
use Rattle.class_system.specs.Views.{number}
use Rattle.class_system.specs.declared.ids.ExprId.{ExprId}
use Rattle.rounded_map.specs.RoundedMap.{value_at}
use Rattle.rounded_map.specs.Contracting.{IsLess}
use Rattle.fast_lower.specs.Contraction.{one_unit_off}

-- An entry is at most its body's value.
pub entry-most : (values bodies low : List ℕ) → AreAtMost low (map (slice_index values) bodies) → (c body : ℕ) → slice_get bodies c ≡ Some body → slice_index low c ≤ slice_index values body
entry-most values [] low each c body at = absurd (omega (arith, slice_get_within [] c body at))
entry-most values (b ∷ bodies) [] each c body at = absurd each
entry-most values (b ∷ bodies) (v ∷ low) each zero body at = subst (λ e. v ≤ slice_index values e) (same_Some b body at) each.0
entry-most values (b ∷ bodies) (v ∷ low) each (suc c) body at = entry-most values bodies low each.1 c body at

-- A body's slope is there and less than its class's weight.
pub record IsSlopeBelow (slopes : List (Option ℕ)) (body weight : ℕ) : Type 0 where
  pub slope : ℕ
  pub is_there : value_at slopes body ≡ Some slope
  pub less : slope < weight

-- If each body's slope, list along list, is there and less than its class's weight, then so it is
-- at the body of each class c.
pub slope-below : (slopes : List (Option ℕ)) (bodies weights : List ℕ) → AllZip IsLess (map (value_at slopes) bodies) weights → (c body : ℕ) → slice_get bodies c ≡ Some body → IsSlopeBelow slopes body (slice_index weights c)
slope-below slopes [] weights each c body at = absurd (omega (arith, slice_get_within [] c body at))
slope-below slopes (b ∷ bodies) [] each c body at = absurd each
slope-below slopes (b ∷ bodies) (w ∷ weights) each zero body at = first (value_at slopes b) (ap (value_at slopes) (same_Some b body at)) each.0
  where
    first : (o : Option ℕ) → o ≡ value_at slopes body → IsLess o w → IsSlopeBelow slopes body w
    first None is h = absurd h
    first (Some v) is h = record { slope = v; is_there = sym is; less = h }
slope-below slopes (b ∷ bodies) (w ∷ weights) each (suc c) body at = slope-below slopes bodies weights each.1 c body at

-- An entry is at most the sum of all.
pub entry-within_sum : (xs : List ℕ) (c : ℕ) → slice_index xs c ≤ sum xs
entry-within_sum [] c = omega arith
entry-within_sum (x ∷ xs) zero = omega (arith, sum_by-cons (λ y. y) x xs)
entry-within_sum (x ∷ xs) (suc c) = omega (arith, sum_by-cons (λ y. y) x xs, entry-within_sum xs c)

-- An entry with one unit off.
pub entry-off : (xs : List ℕ) (c : ℕ) → slice_index (one_unit_off xs) c ≡ slice_index xs c - 1
entry-off [] c = omega arith
entry-off (x ∷ xs) zero = refl
entry-off (x ∷ xs) (suc c) = entry-off xs c

-- What holds at each place of two lists.
pub at_most-each : (xs ys : List ℕ) → length ys ≡ length xs → ((c : ℕ) → c < length xs → slice_index xs c ≤ slice_index ys c) → AreAtMost xs ys
at_most-each [] [] same at = tt
at_most-each [] (y ∷ ys) same at = absurd (omega arith)
at_most-each (x ∷ xs) [] same at = absurd (omega arith)
at_most-each (x ∷ xs) (y ∷ ys) same at = (at 0 (omega arith), at_most-each xs ys (omega arith) (λ c below. at (suc c) (omega arith)))

-- The value of a class's body, from the list of bodies.
pub body_entry : (f : ℕ → ℕ) (bodies : List ExprId) (c : ℕ) (d : ExprId) → c < length bodies → slice_index (map f (map number bodies)) c ≡ f (get_or bodies c d).0
body_entry f [] c d within = absurd (omega arith)
body_entry f (b ∷ bodies) zero d within = refl
body_entry f (b ∷ bodies) (suc c) d within = body_entry f bodies c d (omega arith)
