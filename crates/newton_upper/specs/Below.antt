-- What is made of the results at the numbers below n.
use Rattle.std.specs.Prelude.{ℕ, zero, suc, List, [], ◌∷◌, ◌++◌, Option, Some, None, option_map}
use Rattle.std.specs.Prelude.{option_and_then}
use Rattle.fixed_enclosure.specs.Rounded.{of_both, add_up}

-- The first value, or else the second.
abbrev pub or_else : {V : Type 0} → Option V → Option V → Option V
or_else None later = later
or_else (Some v) later = Some v

-- A list with a value at its end, if there is one.
abbrev pub and_then_one : {V : Type 0} → Option V → List V → List V
and_then_one None vs = vs
and_then_one (Some v) vs = vs ++ v ∷ []

-- The list of all the values of g at the numbers below n, where each is there.
abbrev pub all_below : {V : Type 0} → (g : ℕ → Option V) → (n : ℕ) → Option (List V)
all_below g zero = Some []
all_below g (suc n) = option_and_then (λ vs. option_map (λ v. vs ++ v ∷ []) (g n)) (all_below g n)

-- The list of those values of g at the numbers below n that are there.
abbrev pub those_below : {V : Type 0} → (g : ℕ → Option V) → (n : ℕ) → List V
those_below g zero = []
those_below g (suc n) = and_then_one (g n) (those_below g n)

-- The value of g at the least number below n at which there is one.
abbrev pub first_below : {V : Type 0} → (g : ℕ → Option V) → (n : ℕ) → Option V
first_below g zero = None
first_below g (suc n) = or_else (first_below g n) (g n)

-- The upper sum of the values of g at the numbers below n, where each is there.
abbrev pub upper_sum_below : (g : ℕ → Option ℕ) → (n : ℕ) → Option ℕ
upper_sum_below g zero = Some 0
upper_sum_below g (suc n) = of_both add_up (upper_sum_below g n) (g n)
