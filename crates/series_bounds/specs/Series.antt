-- The series of the counted constructions in units of 2^-f, rounded to a side: their terms, the
-- sums of terms, and the values of a range of numbers of parts.
use Rattle.std.specs.Prelude.{ℕ, zero, suc, ◌+◌, ◌-◌, ◌*◌, ◌^◌, min, max, nat_le, nat_lt, List, []}
use Rattle.std.specs.Prelude.{◌∷◌, sum, take, drop, Option, Some, None, option_and_then}
use Rattle.std.specs.Prelude.{if◌then◌else◌}
use Rattle.std.specs.List.{list_all}
use Rattle.bz_model.specs.Spec.{Range}
use Rattle.fixed_enclosure.specs.Rounded.{greatest, saturated, fits, if_fits, Side, quotient_up}
use Rattle.fixed_enclosure.specs.Rounded.{quotient, mul_down, mul_up, seq_down, seq_up}

-- The three counted constructions, each of which has a series.
pub data Kind : Type 0 where
  Seq : Kind
  Set : Kind
  Cyc : Kind

-- By what, beside 2^f, the number carried to term j is divided: the exponential's terms are divided
-- by j.
abbrev pub divisor : Kind → (j : ℕ) → ℕ
divisor Kind.Seq j = 1
divisor Kind.Set j = j
divisor Kind.Cyc j = 1

-- The number carried to term j + 1 from the one carried to term j.
abbrev pub carried_on : Side → Kind → (f a j c : ℕ) → ℕ
carried_on side kind f a j c = quotient side (c * a) (divisor kind (suc j) * 2 ^ f)

-- The number carried to term j: the power j of a, and for `Set` the power divided by j!.
abbrev pub carried : Side → Kind → (f a j : ℕ) → ℕ
carried side kind f a zero = 2 ^ f
carried side kind f a (suc j) = carried_on side kind f a j (carried side kind f a j)

-- The term j of which c is the number carried to it. A cycle has no term 0; 0 stands in its place.
abbrev pub term : Side → Kind → (j c : ℕ) → ℕ
term side Kind.Seq j c = c
term side Kind.Set j c = c
term side Kind.Cyc zero c = 0
term side Kind.Cyc (suc j) c = quotient side c (suc j)

-- n terms, from term j on, c being the number carried to it.
abbrev pub terms_from : Side → Kind → (f a n j c : ℕ) → List ℕ
terms_from side kind f a zero j c = []
terms_from side kind f a (suc n) j c = term side kind j c
    ∷ terms_from side kind f a n (suc j) (carried_on side kind f a j c)

-- The first n terms, numbered from 0.
abbrev pub terms : Side → Kind → (f a n : ℕ) → List ℕ
terms side kind f a n = terms_from side kind f a n 0 (2 ^ f)

-- The lower sum of the terms from low on, 0 where a term before has more than 64 bits.
abbrev pub sum_down : (low : ℕ) → List ℕ → ℕ
sum_down low ts = if list_all fits (take low ts) then saturated (sum (drop low ts)) else 0

-- The upper sum of the terms from low on and a rest, where each of all the terms has 64 bits.
abbrev pub sum_up : (low : ℕ) → List ℕ → (rest : ℕ) → Option ℕ
sum_up low ts rest = if list_all fits ts then if_fits (sum (drop low ts) + rest) else None

-- The same sum where it is below the cap, else the cap.
abbrev pub sum_capped : (low : ℕ) → List ℕ → (cap : ℕ) → ℕ
sum_capped low ts cap = if list_all fits ts then min (sum (drop low ts)) cap else cap

-- The lower value from low to i parts.
abbrev pub part_down : Kind → (f a low i : ℕ) → ℕ
part_down kind f a low i = sum_down low (terms Side.Down kind f a (suc i))

-- The upper value from low to i parts, without a cap.
abbrev pub range_up : Kind → (f a low i : ℕ) → Option ℕ
range_up kind f a low i =
    if nat_lt i low then Some 0 else sum_up low (terms Side.Up kind f a (suc i)) 0

-- The upper value from low to i parts, with a cap.
abbrev pub part_up : Kind → (f a low i cap : ℕ) → ℕ
part_up kind f a low i cap =
    if nat_lt i low then 0 else sum_capped low (terms Side.Up kind f a (suc i)) cap

-- The first number from j on, at most n numbers later, at which the power p of a is at most 1 unit,
-- or else the last.
abbrev pub end_from : Side → (f a n j p : ℕ) → ℕ
end_from side f a zero j p = j
end_from side f a (suc n) j p =
    let later = end_from side f a n (suc j) (carried_on side Kind.Cyc f a j p) in
    if nat_le p 1 then j else later

-- The number of the logarithm's last summed term: the least j with a power of at most 1 unit, or
-- 4096.
abbrev pub log_end : Side → (f a : ℕ) → ℕ
log_end side f a = end_from side f a 4095 1 a

-- The number of the last summed term of a logarithm from low on.
abbrev pub cyc_end : Side → (f a low : ℕ) → ℕ
cyc_end side f a low = max (log_end side f a) (low - 1)

-- What the terms of a logarithm after term j are at most, together.
abbrev pub log_rest : (f a j : ℕ) → ℕ
log_rest f a j = quotient_up (carried Side.Up Kind.Cyc f a (suc j) * 2 ^ f) (suc j * (2 ^ f - a))

-- The upper value of a logarithm from low on, summed up to term j.
abbrev pub cyc_up_to : (f a low j : ℕ) → Option ℕ
cyc_up_to f a low j = sum_up low (terms Side.Up Kind.Cyc f a (suc j)) (log_rest f a j)

-- The lower value from low parts on, without end.
abbrev pub from_down : Kind → (f a low : ℕ) → ℕ
from_down Kind.Seq f a zero = seq_down f a
from_down Kind.Seq f a (suc low) =
    mul_down f (carried Side.Down Kind.Seq f a (suc low)) (seq_down f a)
from_down Kind.Set f a low = part_down Kind.Set f a low 127
from_down Kind.Cyc f a low =
    if nat_lt a (2 ^ f) then part_down Kind.Cyc f a low (cyc_end Side.Down f a low) else greatest

-- The upper value from low parts on, without end.
abbrev pub from_up : Kind → (f a low : ℕ) → Option ℕ
from_up Kind.Seq f a zero = seq_up f a
from_up Kind.Seq f a (suc low) =
    option_and_then (mul_up f (carried Side.Up Kind.Seq f a (suc low))) (seq_up f a)
from_up Kind.Set f a low =
    if nat_le a (16 * 2 ^ f) then sum_up low (terms Side.Up Kind.Set f a 128)
    (2 * carried Side.Up Kind.Set f a 128) else None
from_up Kind.Cyc f a low =
    if nat_lt a (2 ^ f) then cyc_up_to f a low (cyc_end Side.Up f a low) else None

-- The lower exponential.
abbrev pub exp_down : (f a : ℕ) → ℕ
exp_down f a = from_down Kind.Set f a 0

-- The upper exponential.
abbrev pub exp_up : (f a : ℕ) → Option ℕ
exp_up f a = from_up Kind.Set f a 0

-- The lower logarithm of 1 / (1 - a).
abbrev pub log_down : (f a : ℕ) → ℕ
log_down f a = from_down Kind.Cyc f a 1

-- The upper logarithm of 1 / (1 - a).
abbrev pub log_up : (f a : ℕ) → Option ℕ
log_up f a = from_up Kind.Cyc f a 1

-- The lower value from low to a high, or from low on where there is no high.
abbrev pub ranged_down : Kind → (f a low : ℕ) → (high : Option ℕ) → ℕ
ranged_down kind f a low None = from_down kind f a low
ranged_down kind f a low (Some high) = part_down kind f a low high

-- The upper value from low to a high, or from low on where there is no high.
abbrev pub ranged_up : Kind → (f a low : ℕ) → (high : Option ℕ) → Option ℕ
ranged_up kind f a low None = from_up kind f a low
ranged_up kind f a low (Some high) = range_up kind f a low high

-- The lower value of a range of numbers of parts.
abbrev pub counted_down : Kind → (f : ℕ) → Range → (a : ℕ) → ℕ
counted_down kind f range a = ranged_down kind f a range.low range.high

-- The upper value of a range of numbers of parts.
abbrev pub counted_up : Kind → (f : ℕ) → Range → (a : ℕ) → Option ℕ
counted_up kind f range a = ranged_up kind f a range.low range.high
