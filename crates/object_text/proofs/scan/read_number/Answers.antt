-- Digit after digit is read.
use Rattle.std.proofs.Common.{◌++◌, decimal, sym, ◌∙◌, ap, arith}
use Rattle.object_text.proofs.Digits.{first-digit, further-digit}
use Rattle.object_text.proofs.scan.read_number.Goals as goal

pub loop-more-init : goal.loop-more-init
loop-more-init c = record {
  least = c.if-first-low.false;
  greatest = c.if-first-most.false;
  split = first-digit c.args.text.now c.in-Some.first c.in-Some.ensures.some.0 c.in-Some.ensures.some.1 ∙ ap (λ t. decimal c.in-Some.first ++ t) (sym c.behind_first-rest.ensures);
}

pub loop-more-preserved : goal.loop-more-preserved
loop-more-preserved c =
    let further = c.in-Some-longer.ensures.some in
    let value = further.value in
    let positive = further.positive in
    let least = c.loop-more.invariant.least in
    record {
      least = omega arith;
      greatest = further.within;
      split = further-digit c.args.most c.loop-more.n c.args.text.now c.loop-more.rest.now c.in-Some-longer.more c.requires.small c.loop-more.invariant.split further ∙ ap (λ t. decimal c.in-Some-longer.more ++ t) (sym c.behind_first-rest-in-Some-longer.ensures);
    }
