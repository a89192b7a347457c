-- The digits in front are a number or none.
use Rattle.std.proofs.Common.{refl, arith}
use Rattle.certificate.proofs.Numerals.{found-number, no-number}
use Rattle.certificate.proofs.pattern.number_at.Goals as goal

pub returns-in_err-n-clause-none : goal.returns-in_err-n-clause-none
returns-in_err-n-clause-none c = rw c.from_residual.ensures (no-number c.args.text.now c.digits-count.result c.digits-count.ensures.digits c.digits-count.ensures.ends (c.in_err-n.ensures.none refl))

pub returns-clause-found : goal.returns-clause-found
returns-clause-found c = found-number c.args.text.now c.digits-count.result c.in_ok-n.n c.digits-count.ensures.ends c.in_ok-n.ensures.value.0 c.in_ok-n.ensures.value.1 (omega (arith, c.in_ok-n.ensures.value.2))
