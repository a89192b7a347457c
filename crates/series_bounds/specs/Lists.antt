-- Rounded sums and products of values, from left to right, and the exact ones.
use Rattle.std.specs.Prelude.{ℕ, ◌^◌, List, [], ◌∷◌, Option, Some}
use Rattle.bz_model.specs.Fraction.{Fraction, times, whole, units}
use Rattle.fixed_enclosure.specs.Rounded.{of_both, add_down, add_up, mul_down, mul_up}

-- The value v with further values added, from left to right, each sum being the lower one.
abbrev pub added_down : (v : ℕ) → List ℕ → ℕ
added_down v [] = v
added_down v (w ∷ ws) = added_down (add_down v w) ws

-- The lower sum of values, added from left to right.
abbrev pub total_down : List ℕ → ℕ
total_down [] = 0
total_down (v ∷ vs) = added_down v vs

-- The value v multiplied by further values, from left to right, each product being the lower one.
abbrev pub multiplied_down : (f v : ℕ) → List ℕ → ℕ
multiplied_down f v [] = v
multiplied_down f v (w ∷ ws) = multiplied_down f (mul_down f v w) ws

-- The lower product of values, multiplied from left to right.
abbrev pub product_down : (f : ℕ) → List ℕ → ℕ
product_down f [] = 2 ^ f
product_down f (v ∷ vs) = multiplied_down f v vs

-- The value v with further values added, from left to right, each sum being the upper one.
abbrev pub added_up : Option ℕ → List (Option ℕ) → Option ℕ
added_up v [] = v
added_up v (w ∷ ws) = added_up (of_both add_up v w) ws

-- The upper sum of values, added from left to right.
abbrev pub total_up : List (Option ℕ) → Option ℕ
total_up [] = Some 0
total_up (v ∷ vs) = added_up v vs

-- The value v multiplied by further values, from left to right, each product being the upper one.
abbrev pub multiplied_up : (f : ℕ) → Option ℕ → List (Option ℕ) → Option ℕ
multiplied_up f v [] = v
multiplied_up f v (w ∷ ws) = multiplied_up f (of_both (mul_up f) v w) ws

-- The upper product of values, multiplied from left to right.
abbrev pub product_up : (f : ℕ) → List (Option ℕ) → Option ℕ
product_up f [] = Some (2 ^ f)
product_up f (v ∷ vs) = multiplied_up f v vs

-- The exact product of values.
abbrev pub product_of : (f : ℕ) → List ℕ → Fraction
product_of f [] = whole 1
product_of f (v ∷ vs) = times (units f v) (product_of f vs)
