-- Lower values have 64 bits, where f is below 64, and upper values have them where they are there.
use Rattle.std.proofs.Common.{◌≡◌, ℕ, zero, suc, ◌-◌, ◌*◌, ◌/◌, ◌^◌, ◌<◌, ◌≤◌, true, false, Some, cond, arith, ltb, leb-true}
use Rattle.std.proofs.Math.Nat.{le_refl, min-le_right}
use Rattle.std.proofs.lemmas.Nat.{pow_below}
use Rattle.fixed_enclosure.specs.Rounded.{greatest, saturated, fits, if_fits, quotient_up, seq_down, seq_up}
use Rattle.fixed_enclosure.proofs.Quotients.{guarded, fitting}

pub if_fits-fits : (n v : ℕ) → if_fits n ≡ Some v → v ≤ greatest
if_fits-fits n v e = let g = guarded (fits n) (Some n) e in let h = leb-true n greatest g.0 in let same = fitting (fits n) n e in omega arith

pub saturated-fits : (n : ℕ) → saturated n ≤ greatest
saturated-fits n = min-le_right n greatest

-- With fewer than 64 fraction bits, the lower value of 1 / (1 - a) has at most 64 bits.
pub seq_down-fits : (f a : ℕ) → f < 64 → seq_down f a ≤ greatest
seq_down-fits f zero h = let below : 2 ^ f < 2 ^ 64 = pow_below f 64 h in omega arith
seq_down-fits f (suc a) h = elim (ltb (suc a) (2 ^ f)) as (λ t. cond t (saturated (2 ^ (2 * f) / (2 ^ f - suc a) - 1)) greatest ≤ greatest) [ true ↦ saturated-fits (2 ^ (2 * f) / (2 ^ f - suc a) - 1) | false ↦ le_refl greatest ]

pub seq_up-fits : (f a v : ℕ) → seq_up f a ≡ Some v → v ≤ greatest
seq_up-fits f a v e = let g = guarded (ltb a (2 ^ f)) (if_fits (quotient_up (2 ^ (2 * f)) (2 ^ f - a))) e in if_fits-fits (quotient_up (2 ^ (2 * f)) (2 ^ f - a)) v g.1
