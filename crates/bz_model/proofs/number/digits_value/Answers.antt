use Rattle.std.proofs.Common.{◌≡◌, ◌≤◌, ◌+◌, arith, take}
use Rattle.std.specs.Str.Parse.{digits_value}
use Rattle.bz_model.proofs.Numbers.{value-more, value-front}
use Rattle.bz_model.proofs.number.digits_value.Goals as goal

pub returns-then-next-from-clause-none : goal.returns-then-next-from-clause-none
returns-then-next-from-clause-none c = λ _.
    let ds = c.args.digits.now in
    let more = value-more ds c.loop-digit.digit-index c.requires (omega arith) in
    omega (arith, more, value-front ds (c.loop-digit.digit-index + 1))

pub loop-digit-preserved : goal.loop-digit-preserved
loop-digit-preserved c =
    let more = value-more c.args.digits.now c.loop-digit.digit-index c.requires (omega arith) in
    record { so_far = omega (arith, more); within = omega arith }
