-- The digits without leading zeros.
use Rattle.std.proofs.Common.{◌*◌, ◌<◌, ◌≤◌, arith, refl, sym, subst₂}
use Rattle.chance_law.proofs.Digits.{whole-digits}
use Rattle.chance_law.proofs.scaled.Scaled.whole.Goals as goal

pub overflow_cast-result : goal.overflow_cast-result
overflow_cast-result c =
    let h = whole-digits c.args.number _ c.requires.some c.ranges.number.fits refl in
    let b = subst₂ (λ n p. n * p < 18446744073709551616) (sym c.from.ensures) (sym c.power_of_two.ensures.exact) h.1 in
    omega (arith, b)

pub returns-clause-scaled : goal.returns-clause-scaled
returns-clause-scaled c =
    let h = whole-digits c.args.number _ c.requires.some c.ranges.number.fits refl in
    record {
      from_2_63 = subst₂ (λ n p. 9223372036854775808 ≤ n * p) (sym c.from.ensures) (sym c.power_of_two.ensures.exact) h.0;
      below_2_64 = subst₂ (λ n p. n * p < 18446744073709551616) (sym c.from.ensures) (sym c.power_of_two.ensures.exact) h.1;
    }
