-- Worked chances: each rounding of theirs is exact.
use Rattle.std.proofs.Common.{◌≡◌, ℕ, arith, refl}
use Rattle.std.specs.Prelude.{negsuc}
use Rattle.bz_model.specs.Fraction.{Fraction}
use Rattle.bz_laws.specs.Terms.{AreEqual}
use Rattle.bz_laws.proofs.Fractions.{AtMost-trans}
use Rattle.chance_law.specs.declared.scaled.Scaled.{Scaled}
use Rattle.chance_law.specs.Scaled.{value, IsScaled, IsRoundedDown, IsRoundedUp, one}
use Rattle.chance_law.specs.Chance.{AreChanceBounds}
use Rattle.chance_law.specs.WorkedChances.{half, exactly_one, second_atom, one_half, one_eighth, pair, certain}

-- what is a scaled number is rounded to itself
pub exact-down : (f : Fraction) (s : Scaled) → IsScaled s → AreEqual (value s) f → IsRoundedDown f s
exact-down f s n h = record { scaled = n; at_most = h.at_most; greatest = λ t k le. AtMost-trans le h.at_least }

pub exact-up : (f : Fraction) (s : Scaled) → IsScaled s → AreEqual (value s) f → IsRoundedUp f s
exact-up f s n h = record { scaled = n; at_least = h.at_least; least = λ t k le. AtMost-trans h.at_most le }

least-m : (s : Scaled) → s.m ≡ 9223372036854775808 → IsScaled s
least-m s e = record { from_2_63 = omega arith; below_2_64 = omega arith }

-- 2^63 * 2^-i
abbrev power : ℕ → Scaled
power i = record { m = 9223372036854775808; e = negsuc i }

-- With x one half and C = Z + Z, the chance of the object 1.Z is bounded by one half on both sides.
pub second : AreChanceBounds 48 half exactly_one second_atom one_half
second = record {
  lower = record {
    weight = one_half.lo;
    is_weight = record {
      rounded_x = one_half.lo;
      is_rounded = exact-down _ one_half.lo (least-m one_half.lo refl) (record { at_most = omega arith; at_least = omega arith });
      leads = (one_half.lo, exact-down _ one_half.lo (least-m one_half.lo refl) (record { at_most = omega arith; at_least = omega arith }), refl);
    };
    is_rounded = exact-down _ one_half.lo (least-m one_half.lo refl) (record { at_most = omega arith; at_least = omega arith });
  };
  upper = record {
    weight = one_half.lo;
    is_weight = record {
      rounded_x = one_half.lo;
      is_rounded = exact-up _ one_half.lo (least-m one_half.lo refl) (record { at_most = omega arith; at_least = omega arith });
      leads = (one_half.lo, exact-up _ one_half.lo (least-m one_half.lo refl) (record { at_most = omega arith; at_least = omega arith }), refl);
    };
    is_rounded = exact-up _ one_half.lo (least-m one_half.lo refl) (record { at_most = omega arith; at_least = omega arith });
  };
}

-- With x one half and C = Cyc=2(Z), the chance of the cycle of two atoms is bounded by 1 on both
-- sides.
pub cycle : AreChanceBounds 48 half one_eighth pair certain
cycle = record {
  lower = record {
    weight = power 65;
    is_weight = record {
      rounded_x = one_half.lo;
      is_rounded = exact-down _ one_half.lo (least-m one_half.lo refl) (record { at_most = omega arith; at_least = omega arith });
      leads = (power 63, exact-down _ (power 63) (least-m (power 63) refl) (record { at_most = omega arith; at_least = omega arith }), (power 64, exact-down _ (power 64) (least-m (power 64) refl) (record { at_most = omega arith; at_least = omega arith }), (power 65, exact-down _ (power 65) (least-m (power 65) refl) (record { at_most = omega arith; at_least = omega arith }), refl)));
    };
    is_rounded = exact-down _ one (least-m one refl) (record { at_most = omega arith; at_least = omega arith });
  };
  upper = record {
    weight = power 65;
    is_weight = record {
      rounded_x = one_half.lo;
      is_rounded = exact-up _ one_half.lo (least-m one_half.lo refl) (record { at_most = omega arith; at_least = omega arith });
      leads = (power 63, exact-up _ (power 63) (least-m (power 63) refl) (record { at_most = omega arith; at_least = omega arith }), (power 64, exact-up _ (power 64) (least-m (power 64) refl) (record { at_most = omega arith; at_least = omega arith }), (power 65, exact-up _ (power 65) (least-m (power 65) refl) (record { at_most = omega arith; at_least = omega arith }), refl)));
    };
    is_rounded = exact-up _ one (least-m one refl) (record { at_most = omega arith; at_least = omega arith });
  };
}
