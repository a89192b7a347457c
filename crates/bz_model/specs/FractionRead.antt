-- What reading a fraction answers.
use Rattle.std.specs.Prelude.{ℕ, List, Result, Ok, Err}
use Rattle.bz_model.specs.declared.fraction.Fraction.{Fraction}
use Rattle.bz_model.specs.declared.fraction.FractionFault.{FractionFault}
use Rattle.bz_model.specs.declared.fraction.FractionFault.TheVariants.{NotAFraction, OutOfRange}
use Rattle.bz_model.specs.Number.{number_value, IsPart, HasFractionForm, IsFractionText}

-- A text that has the form of a fraction, and whose parts are within the limits, reads as its two
-- numbers; one without that form is no fraction, and one with a part outside the limits is out of
-- range.
abbrev pub ReadsAs : List ℕ → Result Fraction FractionFault → Type 0
ReadsAs text (Ok x) = IsFractionText text x.num x.den
ReadsAs text (Err NotAFraction) = ¬ (HasFractionForm text)
ReadsAs text (Err OutOfRange) = (form : HasFractionForm text)
    × ¬ (IsPart (number_value form.num) × IsPart (number_value form.den))
