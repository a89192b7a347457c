-- The bits decide nothing up to the first that do.
use Rattle.std.proofs.Common.{arith}
use Rattle.choice_draw.proofs.SeenWholes.{few-open}
use Rattle.choice_draw.proofs.whole.look_ahead.Goals as goal

pub bits-init : goal.bits-init
bits-init c = record {
  held = omega (arith, c.min-b.ensures);
  undecided = λ j few. few-open c.args.m c.args.ahead.word c.open_bits.result j c.open_bits.ensures.open (omega (arith, few, c.min-b.ensures));
}
