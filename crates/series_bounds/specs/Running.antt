-- How a sum of terms runs, term by term, as the code makes it.
use Rattle.std.specs.Prelude.{ℕ, suc, ◌+◌, ◌*◌, ◌^◌, ◌≤◌, nat_le, nat_lt, List, [], ◌∷◌, Option}
use Rattle.std.specs.Prelude.{Some, None, if◌then◌else◌}
use Rattle.series_bounds.specs.declared.series_terms.Construction.{Construction}
use Rattle.series_bounds.specs.declared.series_terms.Construction.TheVariants.{Sequence, Set, Cycle}
use Rattle.fixed_enclosure.specs.Rounded.{greatest, saturated, fits, Side}
use Rattle.series_bounds.specs.Series.{Kind, divisor, carried, terms, part_down, end_from, cyc_end}
use Rattle.series_bounds.specs.Series.{from_down, from_up}

-- The kind of series that belongs to a construction.
abbrev pub kind_of : Construction → Kind
kind_of Sequence = Kind.Seq
kind_of Set = Kind.Set
kind_of Cycle = Kind.Cyc

-- What the term t, numbered j, adds to a sum from low on: nothing before low.
abbrev pub kept : (low j t : ℕ) → ℕ
kept low j t = if nat_lt j low then 0 else t

-- The lower sum s, with the terms of a list added, of which the first is numbered j. A term that
-- doesn't fit makes it 0 before low, and the greatest number from low on.
abbrev pub run_down : (low j s : ℕ) → List ℕ → ℕ
run_down low j s [] = s
run_down low j s (t ∷ ts) =
    let further = run_down low (suc j) (saturated (s + kept low j t)) ts in
    if fits t then further else (if nat_lt j low then 0 else greatest)

-- The number where it is at most this bound, else no value.
abbrev pub up_to : (most n : ℕ) → Option ℕ
up_to most n = if nat_le n most then Some n else None

-- The upper sum s, with the terms of a list added, of which the first is numbered j. It has no
-- value where a term doesn't fit or the sum passes the bound.
abbrev pub run_up : (most low j s : ℕ) → List ℕ → Option ℕ
run_up most low j s [] = up_to most s
run_up most low j s (t ∷ ts) =
    let further = run_up most low (suc j) (s + kept low j t) ts in
    if fits t then further else None

-- The upper sum of the terms from low to i: no value where one of the terms up to i doesn't fit, or
-- the sum passes the bound.
unfoldable pub summed_up : Kind → (f a most low i : ℕ) → Option ℕ
summed_up kind f a most low i = run_up most low 0 0 (terms Side.Up kind f a (suc i))

-- The lower sum of the terms from low to i.
unfoldable pub summed_down : Kind → (f a low i : ℕ) → ℕ
summed_down kind f a low i = part_down kind f a low i

-- The number carried to term i, rounded up.
unfoldable pub carried_up : Kind → (f a i : ℕ) → ℕ
carried_up kind f a i = carried Side.Up kind f a i

-- The lower value from low on.
unfoldable pub value_down : Kind → (f a low : ℕ) → ℕ
value_down kind f a low = from_down kind f a low

-- The upper value from low on.
unfoldable pub value_up : Kind → (f a low : ℕ) → Option ℕ
value_up kind f a low = from_up kind f a low

-- The number of the last term that an upper logarithm sums, looked for from place j on, where p is
-- the power.
unfoldable pub end_up : (f a n j p : ℕ) → ℕ
end_up f a n j p = end_from Side.Up f a n j p

-- The number of the last term that an upper logarithm from low on sums.
unfoldable pub last_up : (f a low : ℕ) → ℕ
last_up f a low = cyc_end Side.Up f a low

-- Each later upper term is c, the number carried to term j: c is 0 or 1, and one step carries it on
-- unchanged.
pub record IsFlat (kind : Kind) (f a j c : ℕ) : Type 0 where
  pub small : c ≤ 1
  pub kept_up : c ≤ a
  pub low_argument : a ≤ divisor kind (suc j) * 2 ^ f
