-- Lower values from low parts on have 64 bits, where F is below 64, and so have lower sums and products of values.
use Rattle.std.proofs.Common.{ℕ, zero, suc, ◌+◌, ◌*◌, ◌/◌, ◌^◌, ◌<◌, ◌≤◌, true, false, List, [], ◌∷◌, take, drop, sum, Option, Some, None, cond, arith, ltb}
use Rattle.std.specs.List.{list_all}
use Rattle.std.proofs.Math.Nat.{le_refl, min-le_right}
use Rattle.fixed_enclosure.specs.Rounded.{greatest, saturated, fits, Side, add_down, mul_down, seq_down}
use Rattle.fixed_enclosure.proofs.Fitting.{seq_down-fits}
use Rattle.series_bounds.specs.Series.{Kind, sum_down, part_down, carried, terms, cyc_end, from_down, ranged_down}
use Rattle.series_bounds.specs.Lists.{added_down, multiplied_down}

pub sum_down-fits : (low : ℕ) (ts : List ℕ) → sum_down low ts ≤ greatest
sum_down-fits low ts = elim (list_all fits (take low ts)) as (λ t. cond t (saturated (sum (drop low ts))) 0 ≤ greatest) [ true ↦ min-le_right (sum (drop low ts)) greatest | false ↦ omega arith ]

-- The lower value from low to i parts has at most 64 bits.
pub part_down-fits : (kind : Kind) (f a low i : ℕ) → part_down kind f a low i ≤ greatest
part_down-fits kind f a low i = sum_down-fits low (terms Side.Down kind f a (suc i))

pub from_down-fits : (kind : Kind) (f a low : ℕ) → f < 64 → from_down kind f a low ≤ greatest
from_down-fits Kind.Seq f a zero h = seq_down-fits f a h
from_down-fits Kind.Seq f a (suc low) h = min-le_right (carried Side.Down Kind.Seq f a (suc low) * seq_down f a / 2 ^ f) greatest
from_down-fits Kind.Set f a low h = part_down-fits Kind.Set f a low 127
from_down-fits Kind.Cyc f a low h = elim (ltb a (2 ^ f)) as (λ t. cond t (part_down Kind.Cyc f a low (cyc_end Side.Down f a low)) greatest ≤ greatest) [ true ↦ part_down-fits Kind.Cyc f a low (cyc_end Side.Down f a low) | false ↦ le_refl greatest ]

pub ranged_down-fits : (kind : Kind) (f a low : ℕ) (high : Option ℕ) → f < 64 → ranged_down kind f a low high ≤ greatest
ranged_down-fits kind f a low None h = from_down-fits kind f a low h
ranged_down-fits kind f a low (Some high) h = part_down-fits kind f a low high

pub added_down-fits : (v : ℕ) (ws : List ℕ) → v ≤ greatest → added_down v ws ≤ greatest
added_down-fits v [] h = h
added_down-fits v (w ∷ ws) h = added_down-fits (add_down v w) ws (min-le_right (v + w) greatest)

pub multiplied_down-fits : (f v : ℕ) (ws : List ℕ) → v ≤ greatest → multiplied_down f v ws ≤ greatest
multiplied_down-fits f v [] h = h
multiplied_down-fits f v (w ∷ ws) h = multiplied_down-fits f (mul_down f v w) ws (min-le_right (v * w / 2 ^ f) greatest)
