use Rattle.std.proofs.Common.{refl}
use Rattle.bz_model.specs.Number.{HasFractionForm}
use Rattle.bz_model.proofs.fraction.Fraction.read.Goals as goal

pub returns-in_default-read_part : goal.returns-in_default-read_part
returns-in_default-read_part c =
    let p = c.in-Some.ensures.parts in (
      record { num = c.in-Some.num.now; den = c.in-Some.den.now; is = p.0; is_num = p.1; is_den = p.2 },
      λ h. c.in_default-read_part.ensures.none refl h.0,
    )

pub returns-in_default-read_part-2 : goal.returns-in_default-read_part-2
returns-in_default-read_part-2 c =
    let p = c.in-Some.ensures.parts in (
      record { num = c.in-Some.num.now; den = c.in-Some.den.now; is = p.0; is_num = p.1; is_den = p.2 },
      λ h. c.in_default-read_part-2.ensures.none refl h.1,
    )

pub returns : goal.returns
returns c =
    let p = c.in-Some.ensures.parts in record {
      form = record { num = c.in-Some.num.now; den = c.in-Some.den.now; is = p.0; is_num = p.1; is_den = p.2 };
      is_num = c.in-Some-read_part.ensures.value.0;
      is_den = c.in-Some-read_part-2.ensures.value.0;
    }
