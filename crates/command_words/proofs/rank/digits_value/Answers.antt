use Rattle.std.proofs.Common.{◌+◌, arith, refl}
use Rattle.bz_model.proofs.Numbers.{value-more, value-front}
use Rattle.command_words.proofs.rank.digits_value.Goals as goal

pub returns-in_default-clause-none : goal.returns-in_default-clause-none
returns-in_default-clause-none c = λ _.
    let ds = c.args.digits.now in
    let more = value-more ds c.loop-digit.digit-index c.requires (omega arith) in
    omega (arith, more, value-front ds (c.loop-digit.digit-index + 1), c.in_default.ensures.none refl)

pub loop-digit-preserved : goal.loop-digit-preserved
loop-digit-preserved c =
    let more = value-more c.args.digits.now c.loop-digit.digit-index c.requires (omega arith) in
    omega (arith, more, c.in-Some.ensures.value)
