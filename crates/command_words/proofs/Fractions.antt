-- A text reads as at most one fraction, or as none.
use Rattle.std.proofs.Common.{ℕ, List, sym, ◌∙◌, ap, subst}
use Rattle.std.specs.Prelude.{Ok, Err}
use Rattle.bz_model.specs.declared.fraction.Fraction.{Fraction}
use Rattle.bz_model.specs.declared.fraction.FractionFault.{FractionFault}
use Rattle.bz_model.specs.declared.fraction.FractionFault.TheVariants.{NotAFraction, OutOfRange}
use Rattle.bz_model.specs.FractionRead.{ReadsAs}
use Rattle.bz_model.specs.Number.{IsPart, number_value}
use Rattle.bz_model.proofs.Numbers.{one-form}

-- a text that reads as a fraction reads as no fault
pub no_fault : (text : List ℕ) (fault : FractionFault) → ReadsAs text (Err fault) → (x : Fraction) → ¬ (ReadsAs text (Ok x))
no_fault text NotAFraction fault x is = fault is.form
no_fault text OutOfRange fault x is =
    let same = one-form text fault.0 is.form in
    fault.1 (
      subst IsPart (sym is.is_num ∙ ap number_value (sym same.0)) x.num_in_limits,
      subst IsPart (sym is.is_den ∙ ap number_value (sym same.1)) x.den_in_limits,
    )
