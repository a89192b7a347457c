-- Numbers that a list of distinct objects reaches but for a multiple of a margin.
use Rattle.bz_model.specs.Fraction.{Fraction, AtMost, plus, times}
use Rattle.bz_model.specs.Object.{Object}
use Rattle.bz_model.specs.Totals.{Below}

-- The number b is at most t times d more than a, and neither is above c.
pub record IsNear (t a b c d : Fraction) : Type 0 where
  pub within : AtMost b (plus a (times t d))
  pub a_most : AtMost a c
  pub b_most : AtMost b c

-- The number b is reached but for t times d: it is at most t times d more than some number that is
-- Below.
pub record IsClose (x t b d : Fraction) (P : Object → Type 0) : Type 0 where
  pub reached : Fraction
  pub below : Below x reached P
  pub within : AtMost b (plus reached (times t d))
