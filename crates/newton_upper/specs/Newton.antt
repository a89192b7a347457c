-- The Newton steps that make proposals for a base. A matrix is the list of its columns.
use Rattle.std.specs.Prelude.{◌≡◌, ℕ, zero, suc, ◌-◌, ◌^◌, ◌<◌, List, [], map, length, replicate}
use Rattle.std.specs.Prelude.{set, slice_index, slice_index_or, Option, Some, option_map}
use Rattle.std.specs.Prelude.{option_and_then}
use Rattle.fixed_enclosure.specs.Rounded.{add_up, mul_up}
use Rattle.rounded_map.specs.RoundedMap.{Setting, at_each, repeated, sweep_down}
use Rattle.rounded_map.specs.Derivative.{sweep_dual}
use Rattle.newton_upper.specs.Below.{all_below, upper_sum_below}
use Rattle.newton_upper.specs.Candidates.{swept_down, upper_values}
use Rattle.newton_upper.specs.declared.neumann_series.Sums.{Sums}
use Rattle.newton_upper.specs.declared.newton.Newton.{Newton}

-- A column of a matrix.
abbrev pub column : (columns : List (List ℕ)) → (c : ℕ) → List ℕ
column columns c = slice_index_or columns c []

-- The upper product of an entry of the matrix, in column c and row i, and entry c of the vector.
abbrev pub entry_product : (f : ℕ) → (columns : List (List ℕ)) → (v : List ℕ) → (i c : ℕ) → Option ℕ
entry_product f columns v i c = mul_up f (slice_index (column columns c) i) (slice_index v c)

-- Row i of the matrix times the vector.
abbrev pub row_times : (f : ℕ) → (columns : List (List ℕ)) → (v : List ℕ) → (i : ℕ) → Option ℕ
row_times f columns v i = upper_sum_below (entry_product f columns v i) (length v)

-- The matrix times the vector.
unfoldable pub matrix_times : (f : ℕ) → (columns : List (List ℕ)) → (v : List ℕ) → Option (List ℕ)
matrix_times f columns v = all_below (row_times f columns v) (length v)

-- A column of the matrix times itself.
abbrev pub squared_column : (f : ℕ) → (columns : List (List ℕ)) → (c : ℕ) → Option (List ℕ)
squared_column f columns c = matrix_times f columns (column columns c)

-- The matrix times itself.
unfoldable pub squared : (f : ℕ) → (columns : List (List ℕ)) → Option (List (List ℕ))
squared f columns = all_below (squared_column f columns) (length columns)

-- Two entries, added.
abbrev pub sum_entry : (v w : List ℕ) → (c : ℕ) → Option ℕ
sum_entry v w c = add_up (slice_index v c) (slice_index w c)

-- The sum of two vectors.
unfoldable pub sum_of_vectors : (v w : List ℕ) → Option (List ℕ)
sum_of_vectors v w = all_below (sum_entry v w) (length v)

-- The vector and the matrix times it, added.
unfoldable pub plus_times : (f : ℕ) → (columns : List (List ℕ)) → (v : List ℕ) → Option (List ℕ)
plus_times f columns v = option_and_then (sum_of_vectors v) (matrix_times f columns v)

-- A matrix Q with the vectors g and h that are each raised by Q times itself.
unfoldable pub raised_by : (f : ℕ) → (columns : List (List ℕ)) → (gap margin : List ℕ) → Option Sums
raised_by f columns gap margin =
    option_and_then (λ g. option_map (λ h. record { matrix = columns; gap = g; margin = h })
    (plus_times f columns margin)) (plus_times f columns gap)

-- From the matrix Q_k and the vectors g and h after it, those of k + 1.
unfoldable pub next_sums : (f : ℕ) → Sums → Option Sums
next_sums f s = option_and_then (λ columns. raised_by f columns s.gap s.margin) (squared f s.matrix)

-- The matrix Q_23 and the vectors g and h after the matrices Q_0 to Q_23.
unfoldable pub newton_sums : (f : ℕ) → (columns : List (List ℕ)) → (gap margin : List ℕ)
    → Option Sums
newton_sums f columns gap margin =
    repeated (option_and_then (next_sums f)) 23 (raised_by f columns gap margin)

-- The vector of 1 at class c and 0 elsewhere.
abbrev pub unit_vector : Setting → (c : ℕ) → List ℕ
unit_vector t c = set (replicate (length t.spec.bodies) 0) c (2 ^ t.bits)

-- Column c of the matrix Q_0: a dual sweep of the unit vector, less 256 units in each entry.
unfoldable pub newton_column : Setting → (values : List ℕ) → (c : ℕ) → Option (List ℕ)
newton_column t values c =
    option_map (map (λ v. v - 256)) (sweep_dual t (map Some values) (unit_vector t c))

-- The matrix Q_0 at the node values.
unfoldable pub newton_matrix : Setting → (values : List ℕ) → Option (List (List ℕ))
newton_matrix t values = all_below (newton_column t values) (length t.spec.bodies)

-- How far each body's lower value lies above its class's entry, which is how far a lower sweep
-- raises the entry.
unfoldable pub lower_gap : Setting → (y : List ℕ) → List ℕ
lower_gap t y = at_each (λ swept entry. swept - entry) (sweep_down t y) y

-- The next vector, Y + g, and the proposal, Y + g + h.
unfoldable pub newton_from : (y : List ℕ) → Sums → Option Newton
newton_from y s =
    option_and_then (λ next. option_map (λ p. record { next = next; proposal = p })
    (sum_of_vectors next s.margin)) (sum_of_vectors y s.gap)

-- The sums of the step from Y, at the node values.
unfoldable pub step_sums : Setting → (y values : List ℕ) → Option Sums
step_sums t y values =
    option_and_then (λ columns. newton_sums t.bits columns (lower_gap t y)
    (replicate (length t.spec.bodies) 256)) (newton_matrix t values)

-- The step from Y, where none of its numbers lacks a value or passes the greatest one.
unfoldable pub newton_step : Setting → (y : List ℕ) → Option Newton
newton_step t y =
    option_and_then (newton_from y) (option_and_then (step_sums t y) (upper_values t y))

-- The step after so many, the first from the lower vector of round 6, each other from the vector of
-- the one before.
unfoldable pub newton_at : Setting → (steps : ℕ) → Option Newton
newton_at t zero = newton_step t (swept_down t (4 ^ 6))
newton_at t (suc i) = option_and_then (λ n. newton_step t n.next) (newton_at t i)

-- A matrix is square where it has n columns of n entries.
pub record IsSquare (n : ℕ) (columns : List (List ℕ)) : Type 0 where
  pub count : length columns ≡ n
  pub each : (c : ℕ) → c < n → length (column columns c) ≡ n
