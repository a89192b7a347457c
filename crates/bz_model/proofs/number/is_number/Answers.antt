use Rattle.std.proofs.Common.{◌≡◌, arith, refl}
use Rattle.bz_model.proofs.Numbers.{number-from, digit-of}
use Rattle.bz_model.proofs.number.is_number.Goals as goal

pub returns-then-not-has_digits_alone : goal.returns-then-not-has_digits_alone
returns-then-not-has_digits_alone c = (λ h. cc, λ h. absurd (let d = c.if-not-has_digits_alone.ensures.1 (digit-of c.args.text.now h) in cc))

pub returns : goal.returns
returns c = (λ _. number-from c.args.text.now (omega arith) (c.if-not-has_digits_alone.ensures.0 refl) (λ e. absurd (omega arith)), λ _. refl)
